use Rattle.std.proofs.Common.{◌∙◌}
use Rattle.newt_objects_commit.proofs.Placing.{other-key}
use Rattle.newt_objects_commit.proofs.places.PlaceTable.insert.Goals as goal

pub returns-clause-others : goal.returns-clause-others
returns-clause-others c = λ s u apart. c.in_ok-insert.ensures.updates.2 (s, u) (other-key c.sig.inside.0 c.uid.inside.0 s u (λ a b. apart (a ∙ c.sig.view_is) (b ∙ c.uid.view_is)))
