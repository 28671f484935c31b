use Rattle.std.proofs.Common.{◌∙◌, ap}
use Rattle.std.specs.Option.{option_flatten}
use Rattle.newt_objects.proofs.rows.row_of.Goals as goal

pub returns-in-Some : goal.returns-in-Some
returns-in-Some c = c.as_ref.ensures.value ∙ ap option_flatten c.in-Some.ensures.value

pub returns-in-None : goal.returns-in-None
returns-in-None c = ap option_flatten c.in-None.ensures.value
