use Rattle.std.proofs.Common.{◌≡◌, ℕ, take}
use Rattle.newt_objects.specs.Held.{held, IsUnplanned}
use Rattle.newt_spec_graph.specs.Lists.{Among}
use Rattle.newt_objects_commit.specs.Batch.{HasLarges, AddsPages, all_pages_held}
use Rattle.newt_objects_commit.proofs.Planning.{KeepsUnderWay, ids_of, pages_of}
use Rattle.newt_objects_commit.proofs.batch.plan_larges.Given as goal

abbrev pub invariant-loop-large : goal.invariant-loop-large
invariant-loop-large l = record {
  way : KeepsUnderWay l.fn.objects l.objects l.fn.batch l.batch (HasLarges (take l.large-index l.larges));
  held_same : (other : ℕ) → held l.objects other ≡ held l.fn.objects other;
  unplanned : (other : ℕ) → IsUnplanned l.fn.objects other → (Among (ids_of (take l.large-index l.larges)) other → ⊥) → IsUnplanned l.objects other;
  pages : AddsPages (pages_of (take l.large-index l.larges)) (all_pages_held l.fn.objects (ids_of (take l.large-index l.larges))) l.fn.batch l.batch;
}
