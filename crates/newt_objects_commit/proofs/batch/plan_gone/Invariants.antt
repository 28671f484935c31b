use Rattle.std.proofs.Common.{◌≡◌, ℕ, take}
use Rattle.newt_objects.specs.Held.{held, IsUnplanned}
use Rattle.newt_spec_graph.specs.Lists.{Among}
use Rattle.newt_objects_commit.specs.Batch.{HasNone, AddsPages, all_pages_held}
use Rattle.newt_objects_commit.proofs.Planning.{KeepsUnderWay}
use Rattle.newt_objects_commit.proofs.batch.plan_gone.Given as goal

abbrev pub invariant-loop-id : goal.invariant-loop-id
invariant-loop-id l = record {
  way : KeepsUnderWay l.fn.objects l.objects l.fn.batch l.batch (HasNone (take l.id-index l.gone));
  held_same : (other : ℕ) → held l.objects other ≡ held l.fn.objects other;
  unplanned : (other : ℕ) → IsUnplanned l.fn.objects other → (Among (take l.id-index l.gone) other → ⊥) → IsUnplanned l.objects other;
  pages : AddsPages 0 (all_pages_held l.fn.objects (take l.id-index l.gone)) l.fn.batch l.batch;
}
