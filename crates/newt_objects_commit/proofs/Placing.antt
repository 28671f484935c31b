-- Places of the entries of one soup among all places.
use Rattle.std.proofs.Common.{◌≡◌, ◌≢◌, ℕ, zero, suc, inl, inr, ◌==◌, Bool, true, false, cond, List, [], ◌∷◌, ◌++◌, map as map_list, slice_get, Some, None, refl, sym, ◌∙◌, ap, subst, arith, ⊎_elim}
use Rattle.std.specs.List.{filter, AllByRecursion}
use Rattle.std.specs.List.Sorted.{IsStrictlySortedBy}
use Rattle.std.specs.declared.cmp.Ordering.TheVariants.{Less}
use Rattle.std.specs.BTreeMap as tree
use Rattle.std.specs.BTreeMap.{BTreeMap}
use Rattle.std.specs.Ordering.{is_eq}
use Rattle.std.proofs.lemmas.Map.Entries.{place_from_lookup, btree_map_get_place}
use Rattle.newt_pagebook.proofs.Tests.{some_inj, true_or_false, is_same, equal_true}
use Rattle.newt_objects.specs.Headers.{part_cmp}
use Rattle.newt_objects.proofs.Indexing.{parts_total, same_part, itself}
use Rattle.newt_spec_graph.specs.Lists.{Among}
use Rattle.newt_spec_graph.proofs.Lists.{each-from}
use Rattle.newt_objects_commit.specs.Batch.{AreOnce}
use Rattle.newt_objects_commit.specs.Places.{picked}

-- another entry has another key
pub other-key : (sig uid s u : ℕ) → ((s ≡ sig) → (u ≡ uid) → ⊥) → is_eq (part_cmp (sig, uid) (s, u)) ≡ false
other-key sig uid s u apart = ⊎_elim
    (λ (same : is_eq (part_cmp (sig, uid) (s, u)) ≡ true).
    let e : ◌≡◌ {A = ℕ × ℕ} (sig, uid) (s, u) = same_part (sig, uid) (s, u) same in
    absurd (apart (ap (λ (q : ℕ × ℕ). q.0) (sym e)) (ap (λ (q : ℕ × ℕ). q.1) (sym e))))
    (λ (other : is_eq (part_cmp (sig, uid) (s, u)) ≡ false). other)
    (true_or_false (is_eq (part_cmp (sig, uid) (s, u))))

abbrev Row : Type 0
Row = (ℕ × ℕ) × ℕ

-- the soup's rows of the first row and the others
abbrev picks : Bool → Row → List ℕ → List ℕ
picks b row rest = cond b (row.1 ∷ rest) rest

picked-first : (sig : ℕ) (row : Row) (rows : List Row) → picked sig (row ∷ rows) ≡ picks (row.0.0 == sig) row (picked sig rows)
picked-first sig row rows = by (row.0.0 == sig) where
  by : (b : Bool) → map_list (λ (x : Row). x.1) (cond b (row ∷ filter (λ (x : Row). x.0.0 == sig) rows) (filter (λ (x : Row). x.0.0 == sig) rows)) ≡ picks b row (picked sig rows)
  by true = refl
  by false = refl

abbrev IsOf : ℕ → List Row → ℕ → Type 0
IsOf sig rows id = (i : ℕ) × (uid : ℕ) × (slice_get rows i ≡ Some ((sig, uid), id))

later_row : (sig id : ℕ) (row : Row) (rows : List Row) → IsOf sig rows id → IsOf sig (row ∷ rows) id
later_row sig id row rows (i, uid, is) = (suc i, uid, is)

first_row : (sig id : ℕ) (row : Row) (rows : List Row) → (row.0.0 == sig) ≡ true → row.1 ≡ id → slice_get (row ∷ rows) zero ≡ Some ((sig, row.0.1), id)
first_row sig id row rows e same = ap (λ (x : Row). Some x) (λ i. ((is_same row.0.0 sig e i, row.0.1), same i))

one_of : (sig : ℕ) (row : Row) (rows : List Row) (b : Bool) (id : ℕ) → (row.0.0 == sig) ≡ b → (Among (picked sig rows) id → IsOf sig rows id) → Among (picks b row (picked sig rows)) id → IsOf sig (row ∷ rows) id
one_of sig row rows true id e others (inl same) = (zero, row.0.1, first_row sig id row rows e same)
one_of sig row rows true id e others (inr m) = later_row sig id row rows (others m)
one_of sig row rows false id e others m = later_row sig id row rows (others m)

-- each object that is picked is that of a row of the soup
pub picked-real : (sig : ℕ) (rows : List Row) (id : ℕ) → Among (picked sig rows) id → IsOf sig rows id
picked-real sig [] id m = absurd m
picked-real sig (row ∷ rows) id m = one_of sig row rows (row.0.0 == sig) id refl (picked-real sig rows id) (subst (λ (l : List ℕ). Among l id) (picked-first sig row rows) m)

kept : (b : Bool) (row : Row) (rest : List ℕ) (id : ℕ) → Among rest id → Among (picks b row rest) id
kept true row rest id m = inr m
kept false row rest id m = m

in_first : (sig : ℕ) (row : Row) (rows : List Row) (id : ℕ) → Among (picks (row.0.0 == sig) row (picked sig rows)) id → Among (picked sig (row ∷ rows)) id
in_first sig row rows id m = subst (λ (l : List ℕ). Among l id) (sym (picked-first sig row rows)) m

-- the object of each row of the soup is picked
pub picked-all : (sig : ℕ) (rows : List Row) (i uid id : ℕ) → slice_get rows i ≡ Some ((sig, uid), id) → Among (picked sig rows) id
picked-all sig [] i uid id at = absurd (let no : None ≡ Some ((sig, uid), id) = at in cc)
picked-all sig (row ∷ rows) zero uid id at =
    let same : row ≡ ((sig, uid), id) = some_inj row ((sig, uid), id) at in
    let e : (row.0.0 == sig) ≡ true = equal_true row.0.0 sig (ap (λ (x : Row). x.0.0) same) in
    in_first sig row rows id (subst (λ (b : Bool). Among (picks b row (picked sig rows)) id) (sym e) (inl (ap (λ (x : Row). x.1) same)))
picked-all sig (row ∷ rows) (suc i) uid id at = in_first sig row rows id (kept (row.0.0 == sig) row (picked sig rows) id (picked-all sig rows i uid id at))

abbrev Apart : ℕ → List Row → Type 0
Apart sig rows = (i j u v id : ℕ) → slice_get rows i ≡ Some ((sig, u), id) → slice_get rows j ≡ Some ((sig, v), id) → i ≡ j

no_other : (sig : ℕ) (row : Row) (rows : List Row) (id : ℕ) → (row.0.0 == sig) ≡ true → Apart sig (row ∷ rows) → Among (picked sig rows) id → row.1 ≢ id
no_other sig row rows id e apart m same =
    let w = picked-real sig rows id m in
    let no : zero ≡ suc w.0 = apart zero (suc w.0) row.0.1 w.1 id (first_row sig id row rows e same) w.2 in omega (arith, no)

once_with : (sig : ℕ) (row : Row) (rows : List Row) (b : Bool) → (row.0.0 == sig) ≡ b → Apart sig (row ∷ rows) → AreOnce (picked sig rows) → AreOnce (picks b row (picked sig rows))
once_with sig row rows true e apart rest = (each-from (λ (id : ℕ). row.1 ≢ id) (picked sig rows) (λ id m. no_other sig row rows id e apart m), rest)
once_with sig row rows false e apart rest = rest

-- no object is picked twice, where no two rows of the soup have one
pub picked-once : (sig : ℕ) (rows : List Row) → Apart sig rows → AreOnce (picked sig rows)
picked-once sig [] apart = tt
picked-once sig (row ∷ rows) apart = subst (λ (l : List ℕ). AreOnce l) (sym (picked-first sig row rows))
    (once_with sig row rows (row.0.0 == sig) refl apart (picked-once sig rows (λ i j u v id a b. (let e : suc i ≡ suc j = apart (suc i) (suc j) u v id a b in omega (arith, e)))))

-- ---- rows of a table in order

place-at : (rows : BTreeMap (ℕ × ℕ) ℕ) (i sig uid id : ℕ) → tree.IsOrdered part_cmp rows → slice_get rows.entries i ≡ Some ((sig, uid), id) → tree.get part_cmp rows (sig, uid) ≡ Some id
place-at rows i sig uid id ordered at = btree_map_get_place parts_total rows i (sig, uid) id ordered at

row-of : (rows : BTreeMap (ℕ × ℕ) ℕ) (sig uid id : ℕ) → tree.get part_cmp rows (sig, uid) ≡ Some id → (i : ℕ) × (slice_get rows.entries i ≡ Some ((sig, uid), id))
row-of rows sig uid id is =
    let w = place_from_lookup (λ (q : ℕ × ℕ). is_eq (part_cmp (sig, uid) q)) rows.entries id is in
    let key : ◌≡◌ {A = ℕ × ℕ} (sig, uid) w.1 = same_part (sig, uid) w.1 w.3 in
    (w.0, w.2 ∙ ap (λ (q : ℕ × ℕ). let x : Row = (q, id) in Some x) (sym key))

-- a key that is below others is not among them
not_below : (key : ℕ × ℕ) (es : List Row) (j b : ℕ) → AllByRecursion (λ y. part_cmp key y ≡ Less) (map_list (λ (e : Row). e.0) es) → slice_get es j ≡ Some (key, b) → ⊥
not_below key [] j b all at = absurd (let no : None ≡ Some (key, b) = at in cc)
not_below key (e ∷ es) zero b all at =
    let same : e.0 ≡ key = ap (λ (x : Row). x.0) (some_inj e (key, b) at) in
    let less : part_cmp key key ≡ Less = ap (part_cmp key) (sym same) ∙ all.0 in
    absurd (let no : is_eq Less ≡ true = ap is_eq (sym less) ∙ itself key in cc)
not_below key (e ∷ es) (suc j) b all at = not_below key es j b all.1 at

one_at : (es : List Row) (i j : ℕ) (key : ℕ × ℕ) (a b : ℕ) → IsStrictlySortedBy part_cmp (map_list (λ (e : Row). e.0) es) → slice_get es i ≡ Some (key, a) → slice_get es j ≡ Some (key, b) → i ≡ j
unfolding IsStrictlySortedBy
one_at [] i j key a b sorted at other = absurd (let no : None ≡ Some (key, a) = at in cc)
one_at (e ∷ es) zero zero key a b sorted at other = refl
one_at (e ∷ es) zero (suc j) key a b sorted at other =
    absurd (not_below key es j b (subst (λ (k : ℕ × ℕ). AllByRecursion (λ y. part_cmp k y ≡ Less) (map_list (λ (e : Row). e.0) es)) (ap (λ (x : Row). x.0) (some_inj e (key, a) at)) sorted.0) other)
one_at (e ∷ es) (suc i) zero key a b sorted at other =
    absurd (not_below key es i a (subst (λ (k : ℕ × ℕ). AllByRecursion (λ y. part_cmp k y ≡ Less) (map_list (λ (e : Row). e.0) es)) (ap (λ (x : Row). x.0) (some_inj e (key, b) other)) sorted.0) at)
one_at (e ∷ es) (suc i) (suc j) key a b sorted at other = ap suc (one_at es i j key a b sorted.1 at other)

one_index : (rows : BTreeMap (ℕ × ℕ) ℕ) (i j : ℕ) (key : ℕ × ℕ) (a b : ℕ) → tree.IsOrdered part_cmp rows → slice_get rows.entries i ≡ Some (key, a) → slice_get rows.entries j ≡ Some (key, b) → i ≡ j
one_index rows i j key a b ordered at other = one_at rows.entries i j key a b ordered at other

-- one row more
pub picked-push : (sig : ℕ) (rows : List Row) (row : Row) → picked sig (rows ++ row ∷ []) ≡ picked sig rows ++ picked sig (row ∷ [])
picked-push sig [] row = refl
picked-push sig (first ∷ rows) row =
    picked-first sig first (rows ++ row ∷ []) ∙ ap (picks (first.0.0 == sig) first) (picked-push sig rows row) ∙ joined (first.0.0 == sig) ∙ ap (λ (l : List ℕ). l ++ picked sig (row ∷ [])) (sym (picked-first sig first rows)) where
      joined : (b : Bool) → picks b first (picked sig rows ++ picked sig (row ∷ [])) ≡ picks b first (picked sig rows) ++ picked sig (row ∷ [])
      joined true = refl
      joined false = refl

pub picked-places : (rows : BTreeMap (ℕ × ℕ) ℕ) (sig : ℕ) → tree.IsOrdered part_cmp rows → (id : ℕ) → Among (picked sig rows.entries) id → (uid : ℕ) × (tree.get part_cmp rows (sig, uid) ≡ Some id)
picked-places rows sig ordered id m = let w = picked-real sig rows.entries id m in (w.1, place-at rows w.0 sig w.1 id ordered w.2)

pub places-picked : (rows : BTreeMap (ℕ × ℕ) ℕ) (sig uid id : ℕ) → tree.get part_cmp rows (sig, uid) ≡ Some id → Among (picked sig rows.entries) id
places-picked rows sig uid id is = let w = row-of rows sig uid id is in picked-all sig rows.entries w.0 uid id w.1

pub places-once : (rows : BTreeMap (ℕ × ℕ) ℕ) (sig : ℕ) → tree.IsOrdered part_cmp rows → ((u v id : ℕ) → tree.get part_cmp rows (sig, u) ≡ Some id → tree.get part_cmp rows (sig, v) ≡ Some id → u ≡ v) → AreOnce (picked sig rows.entries)
places-once rows sig ordered once = picked-once sig rows.entries (λ i j u v id a b.
    let same : u ≡ v = once u v id (place-at rows i sig u id ordered a) (place-at rows j sig v id ordered b) in
    one_index rows i j (sig, u) id id ordered a (b ∙ ap (λ (w : ℕ). let x : Row = ((sig, w), id) in Some x) (sym same)))
