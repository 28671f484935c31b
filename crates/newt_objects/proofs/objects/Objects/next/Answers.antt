use Rattle.std.proofs.Common.{subst, ap}
use Rattle.newt_spec_image.specs.Objects.{Table}
use Rattle.newt_objects.specs.Extents.{IsNextIn}
use Rattle.newt_objects.specs.Held.{held}
use Rattle.newt_objects.proofs.objects.Objects.next.Goals as goal

pub returns : goal.returns
returns c = subst (λ (t : Table). IsNextIn t c.args.from c.next_row.result) (ap held c.self.view_is) c.next_row.ensures
