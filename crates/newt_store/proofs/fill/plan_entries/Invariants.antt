use Rattle.std.proofs.Common.{◌≡◌, ◌++◌, ℕ, ◌%◌, ◌<◌, List, length, All, None}
use Rattle.newt_objects.specs.Held.{held}
use Rattle.newt_entries.specs.declared.full.FullEntry.{FullEntry}
use Rattle.newt_store.specs.Fill.{PlansEntries}
use Rattle.newt_store.proofs.fill.plan_entries.Given as goal

abbrev pub invariant-loop-left : goal.invariant-loop-left
invariant-loop-left l = record {
  done : List FullEntry;
  all : l.entries ≡ done ++ l.left;
  odd : l.id % 2 ≡ 1;
  even : l.last % 2 ≡ 0;
  small : All (λ e. e.soup < 65536) l.left;
  none : (o : ℕ) → held l.objects o ≡ None;
  plans : PlansEntries done l.id l.last l.fn.objects l.fn.batch l.objects l.batch;
}

abbrev pub decreases-loop-left : goal.decreases-loop-left
decreases-loop-left l = length l.left
