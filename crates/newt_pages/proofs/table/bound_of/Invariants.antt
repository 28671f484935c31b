use Rattle.std.proofs.Common.{◌≡◌, ◌+◌, length}
use Rattle.newt_pages.specs.Copies.{below}
use Rattle.newt_pages.proofs.table.bound_of.Given as goal

abbrev pub invariant-loop-number : goal.invariant-loop-number
invariant-loop-number l = l.left + length (below l.number-counter l.places.entries) ≡ length (below 65536 l.places.entries)
