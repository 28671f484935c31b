-- Records that were not found yet name nothing.
use Rattle.std.proofs.Common.{◌≡◌, ℕ, ◌+◌, ◌≤◌, List, [], ◌∷◌, inl, refl, sym, subst, arith}
use Rattle.newt_spec_graph.specs.Lists.{Among}
use Rattle.newt_spec_image.specs.Objects.{Table}
use Rattle.newt_spec_store.specs.Lies.{Places}
use Rattle.newt_laws_changes.specs.Written.{Names}
use Rattle.newt_store_catalog.specs.Opening.{AreSoundTo, Owners}

pub none-named : (last id : ℕ) → last + 1 ≤ id → (table : Table) (place : Places) (names : Names) (owner : Owners) → AreSoundTo last table place names owner → names id ≡ []
none-named last id above table place names owner sound = go (names id) refl
  where
    go : (ids : List ℕ) → names id ≡ ids → names id ≡ []
    go [] is = is
    go (o ∷ os) is =
        let p = sound.placed id o (subst (λ (ids : List ℕ). Among ids o) (sym is) (inl refl)) in
        let below = sound.below p.0 p.1 id p.2 in
        absurd (omega arith)
