use Rattle.std.proofs.Common.{◌≡◌, ◌++◌, length, map}
use Rattle.std.specs.Prelude.{option_map}
use Rattle.newt_spec_graph.specs.Graph.{every}
use Rattle.newt_backup.specs.Texts.{full_read}
use Rattle.newt_entries.specs.Full.{told}
use Rattle.newt_backup.proofs.read.read_fulls.Given as goal

abbrev pub invariant-loop-left : goal.invariant-loop-left
invariant-loop-left l =
    option_map (λ ys. map told l.entries.items ++ ys) (every (map full_read (map (λ text. text.items) l.left))) ≡ every (map full_read (map (λ text. text.items) l.texts))

abbrev pub decreases-loop-left : goal.decreases-loop-left
decreases-loop-left l = length l.left
