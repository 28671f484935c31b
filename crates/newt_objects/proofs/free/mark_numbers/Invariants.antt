use Rattle.std.proofs.Common.{◌==◌, take}
use Rattle.std.specs.List.{list_any}
use Rattle.newt_objects.specs.Extents.{MarksAlso}
use Rattle.newt_objects.proofs.free.mark_numbers.Given as goal

abbrev pub invariant-loop-number : goal.invariant-loop-number
invariant-loop-number l = MarksAlso (λ q. list_any (λ n. q == n) (take l.number-index l.numbers)) l.fn.taken.items l.taken.items
