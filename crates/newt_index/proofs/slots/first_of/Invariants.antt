-- what is left has the key of the id where the whole has it
use Rattle.std.proofs.Common.{◌≡◌, map}
use Rattle.newt_index.specs.Pairs.{key_at}
use Rattle.newt_index.specs.Kept.{pair_of}
use Rattle.newt_index.proofs.slots.first_of.Given as goal

abbrev pub invariant-loop-slot : goal.invariant-loop-slot
invariant-loop-slot l = key_at (map pair_of l.fn.keys.entries) l.fn.uid ≡ key_at (map pair_of l.slot-iterator) l.fn.uid
