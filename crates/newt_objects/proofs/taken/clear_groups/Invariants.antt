use Rattle.std.proofs.Common.{◌==◌, take}
use Rattle.std.specs.List.{list_any}
use Rattle.newt_objects.specs.Taken.{ClearsAlso, group_of}
use Rattle.newt_objects.proofs.taken.clear_groups.Given as goal

abbrev pub invariant-loop-number : goal.invariant-loop-number
invariant-loop-number l = ClearsAlso (λ q. list_any (λ n. q == group_of n) (take l.number-index l.numbers)) l.fn.full.items l.full.items
