use Rattle.std.proofs.Common.{◌≡◌, sum_by, take}
use Rattle.newt_memhost.specs.Past.{printed_by}
use Rattle.newt_memhost.proofs.past.printed_in.Given as goal

abbrev pub invariant-loop-entry : goal.invariant-loop-entry
invariant-loop-entry l = l.out ≡ sum_by printed_by (take l.entry-index l.log)
