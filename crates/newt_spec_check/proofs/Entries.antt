-- A store that lies in objects has as many entries as there are objects with odd ids.
use Rattle.std.proofs.Common.{arith, ◌≡◌, refl, ap, sym, ◌∙◌, ℕ, suc, ◌≤◌, List, [], ◌∷◌, true, inl, inr, length, map, filter}
use Rattle.std.specs.FinMap as map
use Rattle.newt_spec_image.specs.Objects.{Objects}
use Rattle.newt_spec_graph.specs.Lists.{Pairs, Among}
use Rattle.newt_spec_graph.proofs.Lists.{each-at, pairs-more}
use Rattle.newt_spec_store.specs.Image.{all_entries}
use Rattle.newt_spec_store.specs.Laid.{ApartIds, Laid, record_of}
use Rattle.newt_spec_store.specs.Lies.{LiesIn, Places}
use Rattle.newt_spec_store.specs.Store.{Entry, Store}
use Rattle.newt_spec_store.specs.Valid.{well_formed}
use Rattle.newt_laws_images.proofs.Records.{map-length}
use Rattle.newt_laws_images.proofs.Totals.{entries-apart}
use Rattle.newt_laws_images.proofs.Whole.{its-layout}
use Rattle.newt_spec_check.specs.Damage.{is_odd}

-- ---- two lists with the same elements, each once

without : {X : Type 0} (xs : List X) (z : X) → Among xs z
    → (ys : List X) × (length xs ≡ suc (length ys)) × ((y : X) → Among xs y → (z ≡ y → ⊥) → Among ys y)
without [] z m = absurd m
without (x ∷ xs) z (inl e) = (xs, refl, λ y n differ. elim n [ inl k ↦ absurd (differ (sym e ∙ k)) | inr n ↦ n ])
without (x ∷ xs) z (inr m) =
    let r = without xs z m in
    (x ∷ r.0, ap suc r.1, λ y n differ. elim n [ inl k ↦ inl k | inr n ↦ inr (r.2 y n differ) ])

-- what stands once, and in another list, is no more than that has
no-longer : {X : Type 0} (xs ys : List X) → Pairs (λ a b. a ≡ b → ⊥) xs → ((z : X) → Among xs z → Among ys z) → length xs ≤ length ys
no-longer [] ys apart into = omega arith
no-longer (x ∷ xs) ys apart into =
    let r = without ys x (into x (inl refl)) in
    let more = no-longer xs r.0 apart.1 (λ z m. r.2 z (into z (inr m)) (each-at (λ b. x ≡ b → ⊥) xs z apart.0 m)) in
    omega (arith, more, r.1)

-- ---- the entries of a store

differ : (xs : List (ℕ × Entry)) → Pairs ApartIds xs → Pairs (λ a b. a ≡ b → ⊥) xs
differ xs apart = pairs-more ApartIds (λ a b. a ≡ b → ⊥) xs (λ a b _ _ k e. k (ap {A = ℕ × Entry} {B = ℕ} (λ x. x.0) e) (ap {A = ℕ × Entry} {B = ℕ} (λ x. x.1.uid) e)) apart

pub entries-count : (objects : Objects) (place : Places) (s : Store) → LiesIn objects place s → well_formed s ≡ true → length (all_entries s) ≡ length (filter is_odd (map.entries objects))
entries-count objects place s lies w =
    let layout = its-layout objects place s lies w in
    let es : List (ℕ × Entry) = map (λ (x : Laid). (x.soup, x.entry)) layout.laid in
    let few = no-longer (all_entries s) es (differ (all_entries s) (entries-apart s w)) layout.are.complete in
    let many = no-longer es (all_entries s) (differ es layout.are.once) layout.are.sound in
    let laid = map-length {Y = ℕ × Entry} (λ (x : Laid). (x.soup, x.entry)) layout.laid in
    let odd = ap length layout.records ∙ map-length record_of layout.laid in
    omega (arith, few, many, laid, odd)
