use Rattle.std.proofs.Common.{◌≡◌, ◌++◌, ◌∷◌, length, take}
use Rattle.std.specs.List.{flat_map}
use Rattle.newt_spec_store.specs.Cost.{counted, part_bytes}
use Rattle.newt_soupdir.proofs.write.put_specs.Given as goal

abbrev pub invariant-loop-spec : goal.invariant-loop-spec
invariant-loop-spec l = l.out.items ≡ l.fn.out.items ++ (length l.specs ∷ flat_map (counted part_bytes) (take l.spec-index l.specs))
