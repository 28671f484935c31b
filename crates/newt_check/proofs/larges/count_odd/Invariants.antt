use Rattle.std.proofs.Common.{◌≡◌, ◌^◌, ◌<◌, take}
use Rattle.newt_check.proofs.Loops.{odds}
use Rattle.newt_check.proofs.larges.count_odd.Given as goal

abbrev pub invariant-loop-id : goal.invariant-loop-id
invariant-loop-id l = odds l.ids < 2 ^ 32 → l.count ≡ odds (take l.id-index l.ids)
