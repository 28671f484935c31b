use Rattle.std.proofs.Common.{◌≡◌, ◌++◌, ◌∷◌, length, take}
use Rattle.std.specs.List.{flat_map}
use Rattle.newt_spec_store.specs.Cost.{part_bytes}
use Rattle.newt_keys.specs.Seen.{declared}
use Rattle.newt_soupdir.proofs.write.put_spec.Given as goal

abbrev pub invariant-loop-part : goal.invariant-loop-part
invariant-loop-part l = l.out.items ≡ l.fn.out.items ++ (length l.parts ∷ flat_map (λ part. part_bytes (declared part)) (take l.part-index l.parts))
