-- Lists that are walked, one element after the other.
use Rattle.std.proofs.Common.{arith, ◌≡◌, refl, ap, sym, ◌∙◌, ℕ, zero, suc, ◌+◌, ◌%◌, ◌<◌, ◌≤◌, ◌==◌, Bool, true, false, cond, List, [], ◌∷◌, ◌++◌, length, take, drop, get_or, find, filter, Some, None, append_assoc}
use Rattle.std.proofs.lemmas.List.{take_more}
use Rattle.newt_entries.specs.declared.row.LargeAt.{LargeAt}
use Rattle.newt_store_catalog.specs.Opening.{objects_named}
use Rattle.newt_spec_check.specs.Damage.{count_of}

-- what is found from a place on
pub find-here : (test : ℕ → Bool) (ids : List ℕ) (i : ℕ) → i < length ids → test (get_or ids i 0) ≡ true → find test (drop i ids) ≡ Some (get_or ids i 0)
find-here test [] i low h = absurd (omega (arith, low))
find-here test (x ∷ ids) zero low h = ap (λ b. cond b (Some x) (find test ids)) h
find-here test (x ∷ ids) (suc i) low h = find-here test ids i (omega (arith, low)) h

pub find-past : (test : ℕ → Bool) (ids : List ℕ) (i : ℕ) → i < length ids → test (get_or ids i 0) ≡ false → find test (drop i ids) ≡ find test (drop (i + 1) ids)
find-past test ids i low h = go ids i low h ∙ ap (λ n. find test (drop n ids)) (let e : suc i ≡ i + 1 = omega arith in e)
  where
    go : (ids : List ℕ) (i : ℕ) → i < length ids → test (get_or ids i 0) ≡ false → find test (drop i ids) ≡ find test (drop (suc i) ids)
    go [] i low h = absurd (omega (arith, low))
    go (x ∷ ids) zero low h = ap (λ b. cond b (Some x) (find test ids)) h
    go (x ∷ ids) (suc i) low h = go ids i (omega (arith, low)) h

pub find-end : (test : ℕ → Bool) (ids : List ℕ) (i : ℕ) → length ids ≤ i → find test (drop i ids) ≡ None
find-end test [] zero low = refl
find-end test [] (suc i) low = refl
find-end test (x ∷ ids) zero low = absurd (omega (arith, low))
find-end test (x ∷ ids) (suc i) low = find-end test ids i (omega (arith, low))

-- how many are odd among the first
abbrev pub odds : List ℕ → ℕ
odds ids = length (filter (λ id. id % 2 == 1) ids)

odds-last : (ids : List ℕ) (x : ℕ) → odds (ids ++ x ∷ []) ≡ odds ids + x % 2
odds-last [] x = go (x % 2 == 1) refl ∙ (let e : x % 2 ≡ 0 + x % 2 = omega arith in e)
  where
    go : (b : Bool) → (x % 2 == 1) ≡ b → length (cond b (x ∷ []) []) ≡ x % 2
    go true e = grind (arith, e)
    go false e = grind (arith, e)
odds-last (y ∷ ids) x = go (y % 2 == 1) (odds-last ids x)
  where
    go : (b : Bool) → odds (ids ++ x ∷ []) ≡ odds ids + x % 2 → length (cond b (y ∷ filter (λ id. id % 2 == 1) (ids ++ x ∷ [])) (filter (λ id. id % 2 == 1) (ids ++ x ∷ []))) ≡ length (cond b (y ∷ filter (λ id. id % 2 == 1) ids) (filter (λ id. id % 2 == 1) ids)) + x % 2
    go true e = omega (arith, e)
    go false e = e

pub odds-more : (ids : List ℕ) (i : ℕ) → i < length ids → odds (take (i + 1) ids) ≡ odds (take i ids) + get_or ids i 0 % 2
odds-more ids i low = ap odds (take_more ids i 0 low) ∙ odds-last (take i ids) (get_or ids i 0)

pub odds-few : (ids : List ℕ) (i : ℕ) → odds (take i ids) ≤ odds ids
odds-few [] zero = omega arith
odds-few [] (suc i) = omega arith
odds-few (x ∷ ids) zero = omega arith
odds-few (x ∷ ids) (suc i) = go (x % 2 == 1) (odds-few ids i)
  where
    go : (b : Bool) → odds (take i ids) ≤ odds ids → length (cond b (x ∷ filter (λ id. id % 2 == 1) (take i ids)) (filter (λ id. id % 2 == 1) (take i ids))) ≤ length (cond b (x ∷ filter (λ id. id % 2 == 1) ids) (filter (λ id. id % 2 == 1) ids))
    go true e = omega (arith, e)
    go false e = e

-- ---- names

map-last : (xs : List LargeAt) (x : LargeAt) → objects_named (xs ++ x ∷ []) ≡ objects_named xs ++ x.object ∷ []
map-last [] x = refl
map-last (y ∷ xs) x = ap (λ (zs : List ℕ). y.object ∷ zs) (map-last xs x)

pub named-more : (names : List ℕ) (rows : List LargeAt) (i : ℕ) (d : LargeAt) → i < length rows → (names ++ objects_named (take i rows)) ++ (get_or rows i d).object ∷ [] ≡ names ++ objects_named (take (i + 1) rows)
named-more names rows i d h = append_assoc names (objects_named (take i rows)) ((get_or rows i d).object ∷ []) ∙ ap (λ (l : List ℕ). names ++ l) (sym (map-last (take i rows) (get_or rows i d)) ∙ ap objects_named (sym (take_more rows i d h)))

count-last : (n : ℕ) (ns : List ℕ) (x : ℕ) (b : Bool) → (n == x) ≡ b → count_of n (ns ++ x ∷ []) ≡ count_of n ns + cond b 1 0
count-last n [] x b e = go b e ∙ (let k : cond b 1 0 ≡ 0 + cond b 1 0 = omega arith in k)
  where
    go : (b : Bool) → (n == x) ≡ b → length (cond (n == x) (x ∷ []) []) ≡ cond b 1 0
    go true e = ap (λ c. length (cond c (x ∷ []) [])) e
    go false e = ap (λ c. length (cond c (x ∷ []) [])) e
count-last n (y ∷ ns) x b e = go (n == y) (count-last n ns x b e)
  where
    go : (c : Bool) → count_of n (ns ++ x ∷ []) ≡ count_of n ns + cond b 1 0 → length (cond c (y ∷ filter (λ m. n == m) (ns ++ x ∷ [])) (filter (λ m. n == m) (ns ++ x ∷ []))) ≡ length (cond c (y ∷ filter (λ m. n == m) ns) (filter (λ m. n == m) ns)) + cond b 1 0
    go true k = omega (arith, k)
    go false k = k

pub count-same : (n : ℕ) (ns : List ℕ) (x : ℕ) → (n == x) ≡ true → count_of n (ns ++ x ∷ []) ≡ suc (count_of n ns)
count-same n ns x e = let k = count-last n ns x true e in omega (arith, k)

pub count-other : (n : ℕ) (ns : List ℕ) (x : ℕ) → (n == x) ≡ false → count_of n (ns ++ x ∷ []) ≡ count_of n ns
count-other n ns x e = let k = count-last n ns x false e in omega (arith, k)
