use Rattle.std.proofs.Common.{◌∙◌, ap}
use Rattle.newt_objects.specs.Held.{Held, held}
use Rattle.newt_objects.proofs.objects.Objects.forget.Goals as goal

pub returns-clause-kept : goal.returns-clause-kept
returns-clause-kept c = λ id. c.forget_all.ensures.kept id ∙ ap (λ (o : Held). held o id) c.self.view_is
