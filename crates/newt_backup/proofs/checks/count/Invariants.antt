use Rattle.std.proofs.Common.{◌≡◌, ◌≤◌, ◌+◌, length, flat_map}
use Rattle.newt_spec_store.specs.Cost.{large_length}
use Rattle.newt_backup.proofs.checks.count.Given as goal

abbrev pub invariant-loop-left : goal.invariant-loop-left
invariant-loop-left l = record {
  counted : l.count + length (flat_map large_length l.left) ≡ length (flat_map large_length l.nodes);
  few : l.count + length l.left ≤ 65535;
}

abbrev pub decreases-loop-left : goal.decreases-loop-left
decreases-loop-left l = length l.left
