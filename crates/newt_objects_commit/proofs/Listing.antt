-- The ids of the entries of one soup, in the order of all places.
use Rattle.std.proofs.Common.{◌≡◌, ℕ, ◌==◌, ◌||◌, Bool, true, false, cond, List, [], ◌∷◌, ◌++◌, map as map_list, is_some, refl, sym, ◌∙◌, ap}
use Rattle.std.specs.List.{filter, AllByRecursion}
use Rattle.std.specs.List.Sorted.{IsStrictlySortedBy}
use Rattle.std.specs.Set.{is_member}
use Rattle.std.specs.declared.cmp.Ordering.TheVariants.{Less, Equal}
use Rattle.std.specs.Ordering.{nat_cmp, ordering_then}
use Rattle.std.specs.Cmp.{nat_cmp_is}
use Rattle.std.specs.BTreeMap as tree
use Rattle.std.specs.BTreeMap.{BTreeMap}
use Rattle.std.proofs.lemmas.List.{map-append}
use Rattle.std.proofs.lemmas.List.Elements.{filter-append}
use Rattle.std.proofs.lemmas.Map.Made.{is_some-lookup}
use Rattle.newt_pagebook.proofs.Tests.{is_same, equal_true}
use Rattle.newt_objects.specs.Headers.{part_cmp}
use Rattle.newt_objects.proofs.Indexing.{same_part}
use Rattle.newt_objects_commit.specs.Places.{uids_at}
use Rattle.newt_objects_commit.proofs.Counting.{alike, same_number, alike-in, as_well}

abbrev Row : Type 0
Row = (ℕ × ℕ) × ℕ

-- the ids of the soup's rows, of the first row and the others
abbrev listed : Bool → Row → List ℕ → List ℕ
listed b row rest = cond b (row.0.1 ∷ rest) rest

-- rows more
pub listed-append : (sig : ℕ) (rows more : List Row) → uids_at sig (rows ++ more) ≡ uids_at sig rows ++ uids_at sig more
listed-append sig rows more =
    ap (map_list (λ (x : Row). x.0.1)) (filter-append (λ (x : Row). x.0.0 == sig) rows more)
    ∙ map-append (λ (x : Row). x.0.1) (filter (λ (x : Row). x.0.0 == sig) rows) (filter (λ (x : Row). x.0.0 == sig) more)

-- ---- in rising order

-- of two keys of one soup the ids decide
ids-decide : (sig : ℕ) (k q : ℕ × ℕ) → (k.0 == sig) ≡ true → (q.0 == sig) ≡ true → part_cmp k q ≡ nat_cmp k.1 q.1
ids-decide sig k q e f = ap (λ o. ordering_then o (nat_cmp k.1 q.1)) (sym (nat_cmp_is k.0 q.0 Equal (is_same k.0 sig e ∙ sym (is_same q.0 sig f))))

below-listed : (sig : ℕ) (k : ℕ × ℕ) (rows : List Row) → (k.0 == sig) ≡ true → AllByRecursion (λ y. part_cmp k y ≡ Less) (map_list (λ (x : Row). x.0) rows) → AllByRecursion (λ y. nat_cmp k.1 y ≡ Less) (uids_at sig rows)
below-listed sig k [] e h = tt
below-listed sig k (row ∷ rows) e h = by (row.0.0 == sig) refl (below-listed sig k rows e h.1) where
  by : (b : Bool) → (row.0.0 == sig) ≡ b → AllByRecursion (λ y. nat_cmp k.1 y ≡ Less) (uids_at sig rows)
      → AllByRecursion (λ y. nat_cmp k.1 y ≡ Less) (map_list (λ (x : Row). x.0.1) (cond b (row ∷ filter (λ (x : Row). x.0.0 == sig) rows) (filter (λ (x : Row). x.0.0 == sig) rows)))
  by true f more = (sym (ids-decide sig k row.0 e f) ∙ h.0, more)
  by false f more = more

pub listed-rises : (sig : ℕ) (rows : List Row) → IsStrictlySortedBy part_cmp (map_list (λ (x : Row). x.0) rows) → IsStrictlySortedBy nat_cmp (uids_at sig rows)
unfolding IsStrictlySortedBy
listed-rises sig [] h = tt
listed-rises sig (row ∷ rows) h = by (row.0.0 == sig) refl (listed-rises sig rows h.1) where
  by : (b : Bool) → (row.0.0 == sig) ≡ b → IsStrictlySortedBy nat_cmp (uids_at sig rows)
      → IsStrictlySortedBy nat_cmp (map_list (λ (x : Row). x.0.1) (cond b (row ∷ filter (λ (x : Row). x.0.0 == sig) rows) (filter (λ (x : Row). x.0.0 == sig) rows)))
  by true e more = (below-listed sig row.0 rows e h.0, more)
  by false e more = more

-- ---- an id is listed exactly where it has a place

alike-not-this : (sig uid s v : ℕ) → (s == sig) ≡ false → alike (sig, uid) (s, v) ≡ false
alike-not-this sig uid s v ne = as_well (alike (sig, uid) (s, v)) false
    (λ e. sym ne ∙ equal_true s sig (sym (ap (λ (k : ℕ × ℕ). k.0) (same_part (sig, uid) (s, v) e))))
    (λ no. absurd (cc))

member-listed : (sig uid : ℕ) (rows : List Row) → is_member same_number (uids_at sig rows) uid ≡ is_member alike (map_list (λ (x : Row). x.0) rows) (sig, uid)
member-listed sig uid [] = refl
member-listed sig uid (row ∷ rows) = by (row.0.0 == sig) refl (member-listed sig uid rows) where
  by : (b : Bool) → (row.0.0 == sig) ≡ b → is_member same_number (uids_at sig rows) uid ≡ is_member alike (map_list (λ (x : Row). x.0) rows) (sig, uid)
      → is_member same_number (map_list (λ (x : Row). x.0.1) (cond b (row ∷ filter (λ (x : Row). x.0.0 == sig) rows) (filter (λ (x : Row). x.0.0 == sig) rows))) uid
      ≡ (alike (sig, uid) row.0 || is_member alike (map_list (λ (x : Row). x.0) rows) (sig, uid))
  by true e more =
      let first : alike (sig, uid) row.0 ≡ same_number uid row.0.1 = ap (λ (n : ℕ). alike (sig, uid) (n, row.0.1)) (is_same row.0.0 sig e) ∙ alike-in sig uid row.0.1 in
      ap (λ (b : Bool). same_number uid row.0.1 || b) more ∙ ap (λ (b : Bool). b || is_member alike (map_list (λ (x : Row). x.0) rows) (sig, uid)) (sym first)
  by false e more = more ∙ ap (λ (b : Bool). b || is_member alike (map_list (λ (x : Row). x.0) rows) (sig, uid)) (sym (alike-not-this sig uid row.0.0 row.0.1 e))

pub listed-there : (rows : BTreeMap (ℕ × ℕ) ℕ) (sig uid : ℕ) → is_member same_number (uids_at sig rows.entries) uid ≡ is_some (tree.get part_cmp rows (sig, uid))
listed-there rows sig uid = member-listed sig uid rows.entries ∙ sym (is_some-lookup (alike (sig, uid)) rows.entries)
