-- The ids of objects that are walked one after another.
use Rattle.std.proofs.Common.{◌≡◌, ℕ, zero, suc, ◌+◌, ◌<◌, ◌≤◌, false, List, [], ◌∷◌, length, get_or, drop, Option, Some, None, IsSome, inl, inr, refl, ap, subst, arith, ⊎_elim}
use Rattle.std.proofs.lemmas.Bool.{cases_lt}
use Rattle.newt_spec_image.specs.Objects.{Extent, Table}
use Rattle.newt_objects.specs.Extents.{IsNextIn}
use Rattle.newt_objects.specs.Listed.{AreNexts}
use Rattle.newt_spec_graph.specs.Lists.{Among}
use Rattle.newt_store_catalog.proofs.Opening.{not_true}

-- each that is listed is there, from the number on
pub listed-there : (table : Table) (from : ℕ) (ids : List ℕ) → AreNexts table from ids → (id : ℕ) → Among ids id → IsSome (table id) × (from ≤ id)
listed-there table from [] all id m = absurd m
listed-there table from (x ∷ ids) all id (inl same) = all.0.found id (ap Some same)
listed-there table from (x ∷ ids) all id (inr more) =
    let later : from ≤ x = (all.0.found x refl).1 in
    let r = listed-there table (x + 1) ids all.1 id more in
    (r.0, omega (arith, later, r.1))

none-there : (table : Table) (id : ℕ) → table id ≡ None → IsSome (table id) → ⊥
none-there table id none there = not_true false (subst (λ (o : Option Extent). IsSome o) none there) refl

-- each that is there from the number on is listed
pub there-listed : (table : Table) (from : ℕ) (ids : List ℕ) → AreNexts table from ids → (id : ℕ) → from ≤ id → IsSome (table id) → Among ids id
there-listed table from [] all id high there = absurd (none-there table id (all.none id refl high) there)
there-listed table from (x ∷ ids) all id high there = ⊎_elim
    (λ (before : id < x). absurd (none-there table id (all.0.least x id refl high before) there))
    (λ (not : x ≤ id). ⊎_elim
    (λ (above : x < id). inr (there-listed table (x + 1) ids all.1 id (omega (arith, above)) there))
    (λ (within : id ≤ x). (let same : x ≡ id = omega arith in inl same))
    (cases_lt x id))
    (cases_lt id x)

step : (table : Table) (from : ℕ) (ids : List ℕ) (i : ℕ) → i < length ids → AreNexts table from (drop i ids) → IsNextIn table from (Some (get_or ids i 0)) × AreNexts table (get_or ids i 0 + 1) (drop (suc i) ids)
step table from [] i low all = absurd (omega (arith, low))
step table from (x ∷ ids) zero low all = all
step table from (x ∷ ids) (suc i) low all = step table from ids i (omega (arith, low)) all

-- the next of a list, and those after it
pub listed-next : (table : Table) (from : ℕ) (ids : List ℕ) (i : ℕ) → i < length ids → AreNexts table from (drop i ids) → IsNextIn table from (Some (get_or ids i 0)) × AreNexts table (get_or ids i 0 + 1) (drop (i + 1) ids)
listed-next table from ids i low all =
    let r = step table from ids i low all in
    (r.0, subst (λ (j : ℕ). AreNexts table (get_or ids i 0 + 1) (drop j ids)) (let one : suc i ≡ i + 1 = omega arith in one) r.1)

-- the end of the list
pub listed-end : (table : Table) (from : ℕ) (ids : List ℕ) (i : ℕ) → length ids ≤ i → AreNexts table from (drop i ids) → (q : ℕ) → from ≤ q → table q ≡ None
listed-end table from [] zero low all q high = all.none q refl high
listed-end table from [] (suc i) low all q high = all.none q refl high
listed-end table from (x ∷ ids) zero low all q high = absurd (omega (arith, low))
listed-end table from (x ∷ ids) (suc i) low all q high = listed-end table from ids i (omega (arith, low)) all q high
