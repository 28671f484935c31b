use Rattle.std.proofs.Common.{◌≡◌, ◌++◌, length, map, All}
use Rattle.newt_backup.specs.Backup.{cuts}
use Rattle.newt_backup.specs.Contents.{text_of, IsSmall}
use Rattle.newt_backup.proofs.nodes.put_cuts.Given as goal

abbrev pub invariant-loop-left : goal.invariant-loop-left
invariant-loop-left l = record {
  put : l.nodes.items ++ cuts (length l.nodes.items) (map text_of l.left) ≡ l.fn.nodes.items ++ cuts (length l.fn.nodes.items) (map text_of l.entries);
  fit : All IsSmall l.left;
}

abbrev pub decreases-loop-left : goal.decreases-loop-left
decreases-loop-left l = length l.left
