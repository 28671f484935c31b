use Rattle.std.proofs.Common.{◌≡◌, ◌≤◌, ◌+◌, length}
use Rattle.std.specs.List.{sum_by}
use Rattle.newt_spec_image.specs.Objects.{pages_for}
use Rattle.newt_spec_store.specs.Cost.{entry_pages}
use Rattle.newt_entries.specs.Full.{as_entry}
use Rattle.newt_backup.proofs.checks.fit.Given as goal

abbrev pub invariant-loop-left : goal.invariant-loop-left
invariant-loop-left l = record {
  counted : l.pages + sum_by (λ e. entry_pages (as_entry e)) l.left ≡ pages_for l.size + sum_by (λ e. entry_pages (as_entry e)) l.entries;
  few : l.pages ≤ 20000000000000000;
}

abbrev pub decreases-loop-left : goal.decreases-loop-left
decreases-loop-left l = length l.left
