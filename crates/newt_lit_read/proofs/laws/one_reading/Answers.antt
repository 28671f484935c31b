use Rattle.newt_lit_read.proofs.Whole as whole
use Rattle.newt_lit_read.proofs.laws.one_reading.Goals as goal

pub returns : goal.returns
returns c = whole.one_reading
