use Rattle.std.proofs.Common.{◌+◌, IfOk, subst, ap}
use Rattle.newt_spec_image.specs.Objects.{Table}
use Rattle.newt_objects.specs.Held.{held}
use Rattle.newt_objects.specs.Listed.{AreNexts}
use Rattle.newt_objects.proofs.objects.Objects.ids_after.Goals as goal

pub returns : goal.returns
returns c = subst (λ (t : Table). IfOk c.rows_after.result (λ ids. AreNexts t (c.args.above + 1) ids.items)) (ap held c.self.view_is) c.rows_after.ensures
