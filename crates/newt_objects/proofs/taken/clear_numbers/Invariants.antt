use Rattle.std.proofs.Common.{◌==◌, take}
use Rattle.std.specs.List.{list_any}
use Rattle.newt_objects.specs.Taken.{ClearsAlso}
use Rattle.newt_objects.proofs.taken.clear_numbers.Given as goal

abbrev pub invariant-loop-number : goal.invariant-loop-number
invariant-loop-number l = ClearsAlso (λ q. list_any (λ n. q == n) (take l.number-index l.numbers)) l.fn.flags.items l.flags.items
