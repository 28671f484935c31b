-- What is asked of all mounted stores can be read from their faces.
use Rattle.std.proofs.Common.{arith, ◌≡◌, refl, ap, sym, ◌∙◌, ℕ, zero, suc, ◌+◌, ◌≤◌, List, [], ◌∷◌, Bool, true, false, ◌||◌, Option, Some, None, option_map, cond, map, length, find, filter_map, ◌==◌}
use Rattle.std.specs.Prelude.{slice_get}
use Rattle.std.specs.Option.{is_some}
use Rattle.std.specs.List.{list_any, enumerate_from, position_from, cons_option}
use Rattle.newt_spec_store.specs.Store.{Store}
use Rattle.newt_spec_world.specs.World.{World, Device, on_unit, mounted, mounted_store, mounted_stores, flat}
use Rattle.newt_spec_world.specs.Changed.{first_of_list}
use Rattle.newt_spec_graph.proofs.Lists.{some-same, none-some}
use Rattle.newt_laws_answers.specs.Faces.{Face, face_of, faces, shows, shown_count, face_rows, first_shown, first_showing}

-- the mounted stores of some units, the first of which has this number
abbrev mounted_from : ℕ → List (Option Device) → List (ℕ × Store)
mounted_from k us = filter_map (λ d. option_map (λ s. (d.0, s)) (on_unit d.1)) (enumerate_from k us)

abbrev face_store : Option Store → Face
face_store o = option_map (λ s. (s.sig, s.name)) o

-- ---- how many

one-more : (n : ℕ) → suc n ≡ 1 + n
one-more n = omega arith

count-from : (k : ℕ) (us : List (Option Device)) → length (mounted_from k us) ≡ shown_count (map face_of us)
count-from k [] = refl
count-from k (d ∷ us) = go (on_unit d) (count-from (k + 1) us)
  where
    go : (o : Option Store) → length (mounted_from (k + 1) us) ≡ shown_count (map face_of us)
        → length (cons_option (option_map (λ s. (k, s)) o) (mounted_from (k + 1) us)) ≡ shown_count (face_store o ∷ map face_of us)
    go None h = h
    go (Some s) h = ap suc h ∙ one-more (shown_count (map face_of us))

pub count-is : (w : World) → length (mounted w) ≡ shown_count (faces w)
count-is w = count-from 0 w.units

-- ---- whether one has a signature

any-from : (sig : ℕ) (us : List (Option Device)) → list_any (λ t. t.sig == sig) (filter_map on_unit us) ≡ list_any (shows sig) (map face_of us)
any-from sig [] = refl
any-from sig (d ∷ us) = go (on_unit d) (any-from sig us)
  where
    go : (o : Option Store) → list_any (λ (t : Store). t.sig == sig) (filter_map on_unit us) ≡ list_any (shows sig) (map face_of us)
        → list_any (λ (t : Store). t.sig == sig) (cons_option o (filter_map on_unit us)) ≡ list_any (shows sig) (face_store o ∷ map face_of us)
    go None h = h
    go (Some s) h = ap (λ b. (s.sig == sig) || b) h

pub any-is : (w : World) (sig : ℕ) → list_any (λ t. t.sig == sig) (mounted_stores w) ≡ list_any (shows sig) (faces w)
any-is w sig = any-from sig w.units

-- ---- the first

first-from : (k : ℕ) (us : List (Option Device)) → option_map (λ m. m.0) (first_of_list (mounted_from k us)) ≡ position_from is_some k (map face_of us)
first-from k [] = refl
first-from k (d ∷ us) = go (on_unit d) (first-from (k + 1) us)
  where
    go : (o : Option Store) → option_map (λ m. m.0) (first_of_list (mounted_from (k + 1) us)) ≡ position_from is_some (k + 1) (map face_of us)
        → option_map (λ m. m.0) (first_of_list (cons_option (option_map (λ s. (k, s)) o) (mounted_from (k + 1) us))) ≡ position_from is_some k (face_store o ∷ map face_of us)
    go None h = h
    go (Some s) h = refl

pub first-is : (w : World) → option_map (λ m. m.0) (first_of_list (mounted w)) ≡ first_shown (faces w)
first-is w = first-from 0 w.units

-- ---- the rows

rows-from : (k : ℕ) (us : List (Option Device)) → map (λ m. (m.0, m.1.sig, m.1.name)) (mounted_from k us) ≡ face_rows k (map face_of us)
rows-from k [] = refl
rows-from k (d ∷ us) = go (on_unit d) (rows-from (k + 1) us)
  where
    go : (o : Option Store) → map (λ m. (m.0, m.1.sig, m.1.name)) (mounted_from (k + 1) us) ≡ face_rows (k + 1) (map face_of us)
        → map (λ m. (m.0, m.1.sig, m.1.name)) (cons_option (option_map (λ s. (k, s)) o) (mounted_from (k + 1) us)) ≡ face_rows k (face_store o ∷ map face_of us)
    go None h = h
    go (Some s) h = ap {A = List (ℕ × ℕ × List ℕ)} (λ xs. (k, s.sig, s.name) ∷ xs) h

pub rows-is : (w : World) → map (λ m. (m.0, m.1.sig, m.1.name)) (mounted w) ≡ face_rows 0 (faces w)
rows-is w = rows-from 0 w.units

-- ---- the one that has a signature

find-from : (sig k : ℕ) (us : List (Option Device)) → position_from (shows sig) k (map face_of us) ≡ None → find (λ m. m.1.sig == sig) (mounted_from k us) ≡ None
find-from sig k [] h = refl
find-from sig k (d ∷ us) h = go (on_unit d) h (find-from sig (k + 1) us)
  where
    go : (o : Option Store) → position_from (shows sig) k (face_store o ∷ map face_of us) ≡ None
        → (position_from (shows sig) (k + 1) (map face_of us) ≡ None → find (λ m. m.1.sig == sig) (mounted_from (k + 1) us) ≡ None)
        → find (λ m. m.1.sig == sig) (cons_option (option_map (λ s. (k, s)) o) (mounted_from (k + 1) us)) ≡ None
    go None h more = more h
    go (Some s) h more = test (s.sig == sig) h
      where
        test : (b : Bool) → cond b (Some k) (position_from (shows sig) (k + 1) (map face_of us)) ≡ None → cond b (Some (k, s)) (find (λ m. m.1.sig == sig) (mounted_from (k + 1) us)) ≡ None
        test true h = absurd (none-some k (sym h))
        test false h = more h

pub find-none : (w : World) (sig : ℕ) → first_showing sig (faces w) ≡ None → find (λ m. m.1.sig == sig) (mounted w) ≡ None
find-none w sig h = find-from sig 0 w.units h

position-after : {X : Type 0} (test : X → Bool) (k j : ℕ) (xs : List X) → position_from test k xs ≡ Some j → k ≤ j
position-after test k j [] h = absurd (none-some j h)
position-after test k j (x ∷ xs) h = go (test x) h (position-after test (k + 1) j xs)
  where
    go : (b : Bool) → cond b (Some k) (position_from test (k + 1) xs) ≡ Some j → (position_from test (k + 1) xs ≡ Some j → k + 1 ≤ j) → k ≤ j
    go true h more = omega (arith, some-same k j h)
    go false h more = omega (arith, more h)

-- found at the place of a number
found-from : (sig k n j : ℕ) (s : Store) (us : List (Option Device)) → j ≡ k + n → position_from (shows sig) k (map face_of us) ≡ Some j → on_unit (flat (slice_get us n)) ≡ Some s
    → find (λ m. m.1.sig == sig) (mounted_from k us) ≡ Some (j, s)
found-from sig k n j s [] at h e = absurd (none-some j h)
found-from sig k zero j s (d ∷ us) at h e = go (on_unit d) e h
  where
    test : (t : Store) → t ≡ s → (b : Bool) → cond b (Some k) (position_from (shows sig) (k + 1) (map face_of us)) ≡ Some j
        → cond b (Some (k, t)) (find (λ m. m.1.sig == sig) (mounted_from (k + 1) us)) ≡ Some (j, s)
    test t is true h = ap {B = Option (ℕ × Store)} (λ i. Some (i, t)) (some-same k j h) ∙ ap {B = Option (ℕ × Store)} (λ x. Some (j, x)) is
    test t is false h = absurd (omega (arith, at, position-after (shows sig) (k + 1) j (map face_of us) h))

    go : (o : Option Store) → o ≡ Some s → position_from (shows sig) k (face_store o ∷ map face_of us) ≡ Some j
        → find (λ m. m.1.sig == sig) (cons_option (option_map (λ s. (k, s)) o) (mounted_from (k + 1) us)) ≡ Some (j, s)
    go None e h = absurd (none-some s e)
    go (Some t) e h = test t (some-same t s e) (t.sig == sig) h
found-from sig k (suc n) j s (d ∷ us) at h e = go (on_unit d) h (found-from sig (k + 1) n j s us (omega (arith, at)))
  where
    go : (o : Option Store) → position_from (shows sig) k (face_store o ∷ map face_of us) ≡ Some j
        → (position_from (shows sig) (k + 1) (map face_of us) ≡ Some j → on_unit (flat (slice_get us n)) ≡ Some s → find (λ m. m.1.sig == sig) (mounted_from (k + 1) us) ≡ Some (j, s))
        → find (λ m. m.1.sig == sig) (cons_option (option_map (λ s. (k, s)) o) (mounted_from (k + 1) us)) ≡ Some (j, s)
    go None h more = more h e
    go (Some t) h more = test (t.sig == sig) h
      where
        test : (b : Bool) → cond b (Some k) (position_from (shows sig) (k + 1) (map face_of us)) ≡ Some j
            → cond b (Some (k, t)) (find (λ m. m.1.sig == sig) (mounted_from (k + 1) us)) ≡ Some (j, s)
        test true h = absurd (omega (arith, at, some-same k j h))
        test false h = more h e

pub find-found : (w : World) (sig u : ℕ) (s : Store) → first_showing sig (faces w) ≡ Some u → mounted_store w u ≡ Some s → find (λ m. m.1.sig == sig) (mounted w) ≡ Some (u, s)
find-found w sig u s h e = found-from sig 0 u u s w.units (omega arith) h e
