use Rattle.std.proofs.Common.{sym, subst, List}
use Rattle.newt_objects.specs.declared.objects.Plan.{Plan}
use Rattle.newt_objects.specs.Plans.{ArePlaced}
use Rattle.newt_objects.specs.Held.{Held, HasRow, IsUnplanned}
use Rattle.newt_objects.proofs.Seen.{placed-push}
use Rattle.newt_objects.proofs.objects.Objects.keep_plan.Goals as goal

pub invariant_of-self-2 : goal.invariant_of-self-2
invariant_of-self-2 c =
    let plan : Plan = record { id = c.args.id; next = c.args.next } in
    record {
      placed = subst (λ (plans : List Plan). ArePlaced c.self.inside.rows plans) (sym c.in_ok-push.ensures.items)
          (placed-push c.self.inside.rows c.self.inside.plans.items plan c.self.invariant.placed
          (subst (λ (h : Held). HasRow c.args.id h) (sym c.self.view_is) c.requires.row)
          (subst (λ (h : Held). IsUnplanned h c.args.id) (sym c.self.view_is) c.requires.no_plan));
      known = c.self.invariant.known;
    }
