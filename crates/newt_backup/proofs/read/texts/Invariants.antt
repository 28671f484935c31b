use Rattle.std.proofs.Common.{◌≡◌, ◌++◌, [], length, map}
use Rattle.newt_backup.specs.Texts.{texts_from}
use Rattle.newt_backup.proofs.read.texts.Given as goal

abbrev pub invariant-loop-left : goal.invariant-loop-left
invariant-loop-left l = map (λ text. text.items) l.texts.items ++ texts_from l.text.items l.left ≡ texts_from [] l.nodes

abbrev pub decreases-loop-left : goal.decreases-loop-left
decreases-loop-left l = length l.left
