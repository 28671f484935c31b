use Rattle.std.proofs.Common.{◌≡◌, ◌∷◌, ℕ, take, flat_map}
use Rattle.newt_objects_commit.specs.Names.{names_of}
use Rattle.newt_store.proofs.carry.gone_objects.Given as goal

abbrev pub invariant-loop-id : goal.invariant-loop-id
invariant-loop-id l = l.ids.items ≡ flat_map (λ (r : ℕ). r ∷ names_of l.names r) (take l.id-index l.records)
