use Rattle.newt_spec_literal.proofs.Plain.{literal_plain}
use Rattle.newt_lit_print.proofs.laws.printed_plain.Goals as goal

pub returns : goal.returns
returns c = literal_plain
