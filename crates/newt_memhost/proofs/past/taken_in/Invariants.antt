use Rattle.std.proofs.Common.{◌≡◌, sum_by, take}
use Rattle.newt_memhost.specs.Past.{taken_by}
use Rattle.newt_memhost.proofs.past.taken_in.Given as goal

abbrev pub invariant-loop-entry : goal.invariant-loop-entry
invariant-loop-entry l = l.taken ≡ sum_by taken_by (take l.entry-index l.log)
