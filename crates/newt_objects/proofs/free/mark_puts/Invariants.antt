use Rattle.std.proofs.Common.{◌==◌, take}
use Rattle.std.specs.List.{list_any}
use Rattle.newt_objects.specs.Extents.{MarksAlso}
use Rattle.newt_objects.proofs.free.mark_puts.Given as goal

abbrev pub invariant-loop-put : goal.invariant-loop-put
invariant-loop-put l = MarksAlso (λ q. list_any (λ put. q == put.0) (take l.put-index l.puts)) l.fn.taken.items l.taken.items
