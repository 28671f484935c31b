use Rattle.std.proofs.Common.{◌≡◌, ◌∷◌, ◌++◌, flat_map, take}
use Rattle.newt_keys.specs.Seen.{declared}
use Rattle.newt_reply.specs.Fields.{part_item}
use Rattle.newt_reply.proofs.declared.push_parts.Given as goal

abbrev pub invariant-loop-part : goal.invariant-loop-part
invariant-loop-part l = l.text.items ≡ l.fn.text.items ++ flat_map (λ part. 32 ∷ part_item (declared part)) (take l.part-index l.parts)
