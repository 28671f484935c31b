use Rattle.newt_host.proofs.Extending.{left_since-goes_on}
use Rattle.newt_host.proofs.laws.left_since_goes_on.Goals as goal

pub returns : goal.returns
returns c t unit bytes printed old new early extends = left_since-goes_on t unit bytes printed early extends
