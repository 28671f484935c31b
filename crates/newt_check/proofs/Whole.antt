-- What pages say of themselves, and the pages of an image.
use Rattle.std.proofs.Common.{arith, ◌≡◌, refl, ap, sym, ◌∙◌, subst, ℕ, zero, suc, ◌+◌, ◌<◌, ◌≤◌, ◌==◌, ◌&&◌, nat_lt, inl, inr, Bool, true, false, not, cond, List, [], ◌∷◌, ◌++◌, length, min, fold, find, filter, slice_get, map as list_map, Option, Some, None, is_some, option_map, option_and_then}
use Rattle.std.specs.List.{list_all, range_with_len}
use Rattle.std.specs.Option.{unwrap_or}
use Rattle.std.specs.FinMap as map
use Rattle.std.proofs.lemmas.Bool.{eq-eqb, eqb-true, lt-ltb, ltb-true, and_parts, and_from, cases_lt}
use Rattle.newt_spec_image.specs.Objects.{pages_for}
use Rattle.newt_spec_image.specs.Pages.{Pages, object_id, part_number, object_length}
use Rattle.std.specs.BTreeMap as tree
use Rattle.std.specs.BTreeMap.{is_at as is_key}
use Rattle.std.specs.Map.{lookup}
use Rattle.std.specs.Ordering.{is_eq, nat_cmp}
use Rattle.std.proofs.lemmas.Map.Lookups.{exact_unsigned}
use Rattle.newt_pagebook.proofs.Tests.{is_equal}
use Rattle.newt_objects.specs.Headers.{AreHeadersOf, AreRising, IsHeader, part_cmp}
use Rattle.newt_objects.proofs.Indexing.{same_part, itself}
use Rattle.newt_objects.specs.declared.header.Header.{Header}
use Rattle.newt_laws_images.proofs.Again.{found-test}
use Rattle.newt_laws_images.proofs.Both.{Both}
use Rattle.newt_laws_images.proofs.Finite.{entries-rising, entry-get, get-entry}
use Rattle.newt_spec_graph.specs.Graph.{every}
use Rattle.newt_spec_graph.specs.Lists.{Pairs, Among}
use Rattle.newt_spec_graph.proofs.Lists.{each-at, each-from, get-among, none-some, some-same, both-ways}
use Rattle.newt_spec_store.specs.ImageStore.{page_of, extent_by, table_of, is_number, is_page_of}
use Rattle.newt_spec_check.specs.Damage.{broken_ids, is_astray, least}
use Rattle.newt_check.specs.Parts.{AreLengths, Firsts, broken_by, broken_in, first_of, kept_first, has_parts, is_at, is_own, length_of, long_by, passes}

-- the header is that of an entry of the pages
abbrev pub Says : Header → ℕ × List ℕ → Type 0
Says h e = IsHeader h e.0 e.1

-- ---- headers and pages, one by one

among-get : {X : Type 0} (xs : List X) (x : X) → Among xs x → (i : ℕ) × (slice_get xs i ≡ Some x)
among-get [] x m = absurd m
among-get (y ∷ xs) x (inl e) = (0, ap (λ z. let o = Some z in o) e)
among-get (y ∷ xs) x (inr m) = let r = among-get xs x m in (suc r.0, r.1)

pairs-get : {X : Type 0} (R : X → X → Type 0) (xs : List X) → ((i j : ℕ) (x y : X) → slice_get xs i ≡ Some x → slice_get xs j ≡ Some y → i < j → R x y) → Pairs R xs
pairs-get R [] h = tt
pairs-get R (x ∷ xs) h = (
  each-from (R x) xs (λ z m. let r = among-get xs z m in h 0 (suc r.0) x z refl r.1 (omega arith)),
  pairs-get R xs (λ i j y z a b less. h (suc i) (suc j) y z a b (omega (arith, less))),
)

-- lists are related one by one, where each of one has its element in the other
abbrev More : List Header → List (ℕ × List ℕ) → Type 0
More hs es = ((k : Header) → Among hs k → (x : ℕ × List ℕ) × Among es x × Says k x) → ((x : ℕ × List ℕ) → Among es x → (k : Header) × Among hs k × Says k x) → Both Says hs es

-- lists that rise and have the same elements, as they are related
both-rising : (hs : List Header) (es : List (ℕ × List ℕ)) → Pairs (λ (a b : Header). a.number < b.number) hs → Pairs (λ (a b : ℕ × List ℕ). a.0 < b.0) es
    → ((h : Header) → Among hs h → (e : ℕ × List ℕ) × Among es e × Says h e) → ((e : ℕ × List ℕ) → Among es e → (h : Header) × Among hs h × Says h e) → Both Says hs es
both-rising [] [] rise up real there = tt
both-rising [] (e ∷ es) rise up real there = absurd (there e (inl refl)).1
both-rising (h ∷ hs) [] rise up real there = absurd (real h (inl refl)).1
both-rising (h ∷ hs) (e ∷ es) rise up real there = go (both-rising hs es rise.1 up.1) (real h (inl refl)) (there e (inl refl))
  where
    after : (k : Header) → Among hs k → h.number < k.number
    after k m = each-at (λ (b : Header). h.number < b.number) hs k rise.0 m

    entries_after : (x : ℕ × List ℕ) → Among es x → e.0 < x.0
    entries_after x m = each-at (λ (b : ℕ × List ℕ). e.0 < b.0) es x up.0 m

    rest : More hs es → h.number ≡ e.0 → Both Says hs es
    rest others same = others
        (λ k m. let r = real k (inr m) in elim r.1 [
          | inl i ↦ (let less = after k m in let a = r.2.is_number in let b : e.0 ≡ r.0.0 = ap (λ (x : ℕ × List ℕ). x.0) i in absurd (omega (arith, less, a, b, same)))
          | inr n ↦ (r.0, n, r.2)
        ])
        (λ x m. let r = there x (inr m) in elim r.1 [
          | inl i ↦ (let less = entries_after x m in let a = r.2.is_number in let b : h.number ≡ r.0.number = ap (λ (k : Header). k.number) i in absurd (omega (arith, less, a, b, same)))
          | inr n ↦ (r.0, n, r.2)
        ])

    go : More hs es → (x : ℕ × List ℕ) × Among (e ∷ es) x × Says h x → (k : Header) × Among (h ∷ hs) k × Says k e → Says h e × Both Says hs es
    go others (x, inl i, s) k = let t : Says h e = subst (Says h) (sym i) s in (t, rest others t.is_number)
    go others (x, inr m, s) (k, inl i, t) = let u : Says h e = subst (λ (q : Header). Says q e) (sym i) t in (u, rest others u.is_number)
    go others (x, inr m, s) (k, inr n, t) =
        let a = entries_after x m in let b = after k n in let c = s.is_number in let d = t.is_number in absurd (omega (arith, a, b, c, d))

pub headers-both : (live : Pages) (headers : List Header) → AreHeadersOf live headers → AreRising headers → Both Says headers (map.entries live)
headers-both live headers are rise = both-rising headers (map.entries live) (pairs-get (λ (a b : Header). a.number < b.number) headers (λ i j h k a b less. rise.rising i j h k a b less)) (entries-rising live)
    (λ h m. let i = among-get headers h m in let r = are.real i.0 h i.1 in ((h.number, r.0), get-entry live h.number r.0 r.1, r.2))
    (λ e m. let r = are.there e.0 e.1 (entry-get live e.0 e.1 m) in (r.1, get-among headers r.0 r.1 r.2, r.3))

-- ---- the first page of a part

-- what was found of both, or of none
abbrev Found : Option Header → Option (ℕ × List ℕ) → Type 0
Found None None = Unit {0}
Found (Some h) (Some e) = Says h e
Found None (Some e) = ⊥
Found (Some h) None = ⊥

both-find : (t : Header → Bool) (u : ℕ × List ℕ → Bool) (hs : List Header) (es : List (ℕ × List ℕ)) → Both Says hs es → ((h : Header) (e : ℕ × List ℕ) → Says h e → t h ≡ u e) → Found (find t hs) (find u es)
both-find t u [] [] b same = tt
both-find t u [] (e ∷ es) b same = absurd b
both-find t u (h ∷ hs) [] b same = absurd b
both-find t u (h ∷ hs) (e ∷ es) b same = go (t h) (u e) (same h e b.0) (both-find t u hs es b.1 same)
  where
    go : (x y : Bool) → x ≡ y → Found (find t hs) (find u es) → Found (cond x (Some h) (find t hs)) (cond y (Some e) (find u es))
    go true true k more = b.0
    go true false k more = absurd (both-ways (sym k))
    go false true k more = absurd (both-ways k)
    go false false k more = more

not-below : (a b : ℕ) → b ≤ a → nat_lt a b ≡ false
not-below a b h = go (nat_lt a b) refl
  where
    go : (c : Bool) → nat_lt a b ≡ c → c ≡ false
    go true e = absurd (let less = ltb-true a b e in omega (arith, less, h))
    go false e = refl

module _ (live : Pages) (headers : List Header) (both : Both Says headers (map.entries live)) where
  abbrev entry_at : ℕ → ℕ → Option (ℕ × List ℕ)
  entry_at id part = find (λ e. (object_id e.1 == id) && (part_number e.1 == part)) (map.entries live)

  abbrev first : ℕ → ℕ → Option Header
  first id part = first_of headers id part

  firsts : (id part : ℕ) → Found (first id part) (entry_at id part)
  firsts id part = both-find (λ h. (h.object == id) && (h.part == part)) (λ e. (object_id e.1 == id) && (part_number e.1 == part)) headers (map.entries live) both
      (λ h e s i. (s.object i == id) && (s.part i == part))

  number-is : (h : Option Header) (e : Option (ℕ × List ℕ)) → Found h e → (number : ℕ) → is_at first number h ≡ is_number number (option_map (λ e. e.0) e)
  number-is None None f number = refl
  number-is (Some h) (Some e) f number = ap (λ n. n == number) f.is_number ∙ turn e.0 number
    where
      turn : (a b : ℕ) → (a == b) ≡ (b == a)
      turn a b = grind arith
  number-is None (Some e) f number = absurd f
  number-is (Some h) None f number = absurd f

  some-is : (h : Option Header) (e : Option (ℕ × List ℕ)) → Found h e → is_some h ≡ is_some (option_map (λ (e : ℕ × List ℕ). e.0) e)
  some-is None None f = refl
  some-is (Some h) (Some e) f = refl
  some-is None (Some e) f = absurd f
  some-is (Some h) None f = absurd f

  -- ---- all parts of an object

  every-some : (f : ℕ → Option ℕ) (a n : ℕ) → list_all (λ part. is_some (f part)) (range_with_len a n) ≡ is_some (every (list_map f (range_with_len a n)))
  every-some f a zero = refl
  every-some f a (suc n) = go (f a) (every-some f (a + 1) n)
    where
      go : (o : Option ℕ) → list_all (λ part. is_some (f part)) (range_with_len (a + 1) n) ≡ is_some (every (list_map f (range_with_len (a + 1) n)))
          → (is_some o && list_all (λ part. is_some (f part)) (range_with_len (a + 1) n)) ≡ is_some (every (o ∷ list_map f (range_with_len (a + 1) n)))
      go None more = refl
      go (Some x) more = more ∙ kept (every (list_map f (range_with_len (a + 1) n)))
        where
          kept : (o : Option (List ℕ)) → is_some o ≡ is_some (option_map (λ (xs : List ℕ). x ∷ xs) o)
          kept None = refl
          kept (Some xs) = refl

  no-less : (k : ℕ) → nat_lt k 0 ≡ false
  no-less k = go (nat_lt k 0) refl
    where
      go : (b : Bool) → nat_lt k 0 ≡ b → b ≡ false
      go true e = absurd (let less = ltb-true k 0 e in omega (arith, less))
      go false e = refl

  less-suc : (j n : ℕ) → nat_lt (suc j) (suc n) ≡ nat_lt j n
  less-suc j n = elim (cases_lt j n) [
    | inl less ↦ lt-ltb (suc j) (suc n) (omega (arith, less)) ∙ sym (lt-ltb j n less)
    | inr high ↦ not-below (suc j) (suc n) (omega (arith, high)) ∙ sym (not-below j n high)
  ]

  every-get : (f : ℕ → Option ℕ) (a n : ℕ) (ys : List ℕ) → every (list_map f (range_with_len a n)) ≡ Some ys → (k number : ℕ)
      → is_number number (slice_get ys k) ≡ (nat_lt k n && is_number number (f (a + k)))
  every-get f a zero [] h k number = sym (ap (λ b. b && is_number number (f (a + k))) (no-less k))
  every-get f a zero (y ∷ ys) h k number = absurd (let e = some-same [] (y ∷ ys) h in cc)
  every-get f a (suc n) ys h k number = go (λ zs d j. every-get f (a + 1) n zs d j number) (f a) refl (every (list_map f (range_with_len (a + 1) n))) refl h k
    where
      go : ((zs : List ℕ) → every (list_map f (range_with_len (a + 1) n)) ≡ Some zs → (j : ℕ) → is_number number (slice_get zs j) ≡ (nat_lt j n && is_number number (f (a + 1 + j))))
          → (o : Option ℕ) → f a ≡ o → (os : Option (List ℕ)) → every (list_map f (range_with_len (a + 1) n)) ≡ os → every (o ∷ list_map f (range_with_len (a + 1) n)) ≡ Some ys → (k : ℕ)
          → is_number number (slice_get ys k) ≡ (nat_lt k (suc n) && is_number number (f (a + k)))
      go more None e os d h k = absurd (none-some ys h)
      go more (Some y) e None d h k = absurd (none-some ys (sym (ap (option_map (λ (xs : List ℕ). y ∷ xs)) d) ∙ h))
      go more (Some y) e (Some zs) d h zero =
          let is : y ∷ zs ≡ ys = some-same (y ∷ zs) ys (sym (ap (option_map (λ (xs : List ℕ). y ∷ xs)) d) ∙ h) in
          let here : a ≡ a + 0 = omega arith in
          ap (λ (l : List ℕ). is_number number (slice_get l 0)) (sym is) ∙ ap (is_number number) (sym e ∙ ap f here)
          ∙ sym (ap (λ b. b && is_number number (f (a + 0))) (lt-ltb 0 (suc n) (omega arith)))
      go more (Some y) e (Some zs) d h (suc j) =
          let is : y ∷ zs ≡ ys = some-same (y ∷ zs) ys (sym (ap (option_map (λ (xs : List ℕ). y ∷ xs)) d) ∙ h) in
          let there : a + 1 + j ≡ a + suc j = omega arith in
          ap (λ (l : List ℕ). is_number number (slice_get l (suc j))) (sym is) ∙ more zs d j
          ∙ (λ i. sym (less-suc j n) i && is_number number (f (there i)))

  parts-are : (id n : ℕ) → has_parts first id n ≡ is_some (every (list_map (page_of live id) (range_with_len 0 n)))
  parts-are id n = all-same (range_with_len 0 n) ∙ every-some (page_of live id) 0 n
    where
      all-same : (parts : List ℕ) → list_all (λ part. is_some (first id part)) parts ≡ list_all (λ part. is_some (page_of live id part)) parts
      all-same [] = refl
      all-same (p ∷ parts) = λ i. some-is (first id p) (entry_at id p) (firsts id p) i && all-same parts i

  and-assoc : (a b c : Bool) → ((a && b) && c) ≡ (a && (b && c))
  and-assoc true b c = refl
  and-assoc false b c = refl

  -- a page passes by its header exactly where it is a page of the table
  pub page-is : (h : Header) (e : ℕ × List ℕ) → Says h e → passes first h ≡ is_page_of (table_of live (object_id e.1)) e
  page-is h e s = ap (λ id. is_own first (length_of first id) h) s.object ∙ go (first id 0) (entry_at id 0) refl (firsts id 0)
    where
      id : ℕ
      id = object_id e.1

      of-all : (size : ℕ) (h0 : Header) → h0.length ≡ size → (o : Option (List ℕ)) → every (list_map (page_of live id) (range_with_len 0 (pages_for size))) ≡ o
          → is_own first (cond (is_some o) (Some h0.length) None) h ≡ is_page_of (option_map (λ numbers. record { length = size; numbers = numbers }) o) e
      of-all size h0 is None d = refl
      of-all size h0 is (Some ys) d =
          let page : is_at first h.number (first h.object h.part) ≡ is_number e.0 (page_of live id (part_number e.1)) =
          (λ i. is_at first (s.is_number i) (first (s.object i) (s.part i))) ∙ number-is (first id (part_number e.1)) (entry_at id (part_number e.1)) (firsts id (part_number e.1)) e.0 in
          (λ i. (s.size i == is i) && nat_lt (s.part i) (pages_for (is i)) && page i)
          ∙ and-assoc (object_length e.1 == size) (nat_lt (part_number e.1) (pages_for size)) (is_number e.0 (page_of live id (part_number e.1)))
          ∙ ap (λ b. (object_length e.1 == size) && b)
          (ap (λ k. nat_lt (part_number e.1) (pages_for size) && is_number e.0 (page_of live id k)) (let z : part_number e.1 ≡ 0 + part_number e.1 = omega arith in z)
          ∙ sym (every-get (page_of live id) 0 (pages_for size) ys d (part_number e.1) e.0))

      go : (f : Option Header) (o : Option (ℕ × List ℕ)) → entry_at id 0 ≡ o → Found f o
          → is_own first (long_by first id f) h ≡ is_page_of (option_and_then (λ n. extent_by live id (object_length (unwrap_or (map.get live n) []))) (option_map (λ (e : ℕ × List ℕ). e.0) o)) e
      go None None at found = refl
      go None (Some e0) at found = absurd found
      go (Some h0) None at found = absurd found
      go (Some h0) (Some e0) at found =
          let among = (found-test (λ (e : ℕ × List ℕ). (object_id e.1 == id) && (part_number e.1 == 0)) (map.entries live) e0 at).0 in
          let there : map.get live e0.0 ≡ Some e0.1 = entry-get live e0.0 e0.1 among in
          ap (λ b. is_own first (cond b (Some h0.length) None) h) (ap (has_parts first id) (ap pages_for found.size) ∙ parts-are id (pages_for (object_length e0.1)))
          ∙ of-all (object_length e0.1) h0 found.size (every (list_map (page_of live id) (range_with_len 0 (pages_for (object_length e0.1))))) refl
          ∙ ap (λ (o : Option (List ℕ)). is_page_of (extent_by live id (object_length (unwrap_or o []))) e) (sym there)

  both-broken : (hs : List Header) (es : List (ℕ × List ℕ)) → Both Says hs es → broken_by first hs ≡ list_map (λ (e : ℕ × List ℕ). object_id e.1) (filter (is_astray live) es)
  both-broken [] [] b = refl
  both-broken [] (e ∷ es) b = absurd b
  both-broken (h ∷ hs) [] b = absurd b
  both-broken (h ∷ hs) (e ∷ es) b = go (not (passes first h)) (is_astray live e) (ap not (page-is h e b.0)) (both-broken hs es b.1)
    where
      go : (x y : Bool) → x ≡ y → broken_by first hs ≡ list_map (λ (e : ℕ × List ℕ). object_id e.1) (filter (is_astray live) es)
          → list_map (λ (h : Header). h.object) (cond x (h ∷ filter (λ h. not (passes first h)) hs) (filter (λ h. not (passes first h)) hs))
          ≡ list_map (λ (e : ℕ × List ℕ). object_id e.1) (cond y (e ∷ filter (is_astray live) es) (filter (is_astray live) es))
      go true true k more = λ i. b.0.object i ∷ more i
      go true false k more = absurd (both-ways (sym k))
      go false true k more = absurd (both-ways k)
      go false false k more = more

  pub broken-is : broken_in headers ≡ least (broken_ids live)
  broken-is = ap least (both-broken headers (map.entries live) both)

-- ---- the headers, one after the other

pub find-more : (test : Header → Bool) (hs : List Header) (h k : Header) → find test hs ≡ Some k → find test (hs ++ h ∷ []) ≡ Some k
find-more test [] h k e = absurd (none-some k e)
find-more test (x ∷ hs) h k e = go (find-more test hs h k) (test x) e
  where
    go : (find test hs ≡ Some k → find test (hs ++ h ∷ []) ≡ Some k) → (b : Bool) → cond b (Some x) (find test hs) ≡ Some k → cond b (Some x) (find test (hs ++ h ∷ [])) ≡ Some k
    go more true e = e
    go more false e = more e

pub find-last : (test : Header → Bool) (hs : List Header) (h : Header) → find test hs ≡ None → find test (hs ++ h ∷ []) ≡ cond (test h) (Some h) None
find-last test [] h e = refl
find-last test (x ∷ hs) h e = go (find-last test hs h) (test x) e
  where
    go : (find test hs ≡ None → find test (hs ++ h ∷ []) ≡ cond (test h) (Some h) None) → (b : Bool) → cond b (Some x) (find test hs) ≡ None → cond b (Some x) (find test (hs ++ h ∷ [])) ≡ cond (test h) (Some h) None
    go more true e = absurd (none-some x (sym e))
    go more false e = more e

fold-last : (m : ℕ) (ns : List ℕ) (n : ℕ) → fold min m (ns ++ n ∷ []) ≡ min (fold min m ns) n
fold-last m [] n = refl
fold-last m (k ∷ ns) n = fold-last (min m k) ns n

pub least-more : (ns : List ℕ) (m n : ℕ) → Some m ≡ least ns → Some (min m n) ≡ least (ns ++ n ∷ [])
least-more [] m n e = absurd (none-some m (sym e))
least-more (k ∷ ns) m n e = ap (λ x. let o : Option ℕ = Some x in o) (ap (λ x. min x n) (some-same m (fold min k ns) e) ∙ sym (fold-last k ns n))

pub least-first : (ns : List ℕ) (n : ℕ) → None ≡ least ns → Some n ≡ least (ns ++ n ∷ [])
least-first [] n e = refl
least-first (k ∷ ns) n e = absurd (none-some (fold min k ns) e)

filter-last : (test : Header → Bool) (hs : List Header) (h : Header) → filter test (hs ++ h ∷ []) ≡ filter test hs ++ cond (test h) (h ∷ []) []
filter-last test [] h = refl
filter-last test (x ∷ hs) h = go (test x) (filter-last test hs h)
  where
    go : (b : Bool) → filter test (hs ++ h ∷ []) ≡ filter test hs ++ cond (test h) (h ∷ []) [] → cond b (x ∷ filter test (hs ++ h ∷ [])) (filter test (hs ++ h ∷ [])) ≡ cond b (x ∷ filter test hs) (filter test hs) ++ cond (test h) (h ∷ []) []
    go true more = ap (λ (l : List Header). x ∷ l) more
    go false more = more

map-last : (hs ks : List Header) → list_map (λ (h : Header). h.object) (hs ++ ks) ≡ list_map (λ (h : Header). h.object) hs ++ list_map (λ (h : Header). h.object) ks
map-last [] ks = refl
map-last (h ∷ hs) ks = ap (λ (l : List ℕ). h.object ∷ l) (map-last hs ks)

-- the broken objects with one header more
pub broken-more : (first : ℕ → ℕ → Option Header) (hs : List Header) (h : Header) (b : Bool) → passes first h ≡ b → broken_by first (hs ++ h ∷ []) ≡ broken_by first hs ++ cond b [] (h.object ∷ [])
broken-more first hs h b e = ap (list_map (λ (h : Header). h.object)) (filter-last (λ h. not (passes first h)) hs h) ∙ map-last (filter (λ h. not (passes first h)) hs) (cond (not (passes first h)) (h ∷ []) [])
    ∙ ap (λ c. broken_by first hs ++ list_map (λ (h : Header). h.object) (cond (not c) (h ∷ []) [])) e ∙ ap (λ (l : List ℕ). broken_by first hs ++ l) (one b)
  where
    one : (b : Bool) → list_map (λ (h : Header). h.object) (cond (not b) (h ∷ []) []) ≡ cond b [] (h.object ∷ [])
    one true = refl
    one false = refl

-- ---- the first page of each part, as it is kept

abbrev at_part : ℕ → ℕ → Header → Bool
at_part o p h = (h.object == o) && (h.part == p)

not-true : (b : Bool) → (b ≡ true → ⊥) → b ≡ false
not-true true h = absurd (h refl)
not-true false h = refl

none-not-some : {X : Type 0} (o : Option X) → o ≡ None → is_some o ≡ true → ⊥
none-not-some o e h = both-ways (sym (ap is_some e) ∙ h)

-- a page of the part is kept already
pub first-kept : (parts : Firsts) (headers : List Header) (h : Header) → ((o p : ℕ) → kept_first parts o p ≡ first_of headers o p) → is_some (kept_first parts h.object h.part) ≡ true
    → (o p : ℕ) → kept_first parts o p ≡ first_of (headers ++ h ∷ []) o p
first-kept parts headers h are some o p = are o p ∙ go (first_of headers o p) refl
  where
    go : (f : Option Header) → first_of headers o p ≡ f → first_of headers o p ≡ first_of (headers ++ h ∷ []) o p
    go (Some k) e = e ∙ sym (find-more (at_part o p) headers h k e)
    go None e =
        let no : at_part o p h ≡ false = not-true (at_part o p h) (λ t.
        let k = and_parts (h.object == o) (h.part == p) t in
        none-not-some (kept_first parts h.object h.part)
        (are h.object h.part ∙ (λ i. first_of headers (eqb-true h.object o k.0 i) (eqb-true h.part p k.1 i)) ∙ e) some) in
        e ∙ sym (find-last (at_part o p) headers h e ∙ ap (λ b. cond b (Some h) None) no)

-- none is kept, and this one is now
pub first-new : (old new : Firsts) (headers : List Header) (h : Header) → ((o p : ℕ) → kept_first old o p ≡ first_of headers o p) → is_some (kept_first old h.object h.part) ≡ false
    → ((q : ℕ × ℕ) → tree.get part_cmp new q ≡ cond (is_eq (part_cmp (h.object, h.part) q)) (Some h) (tree.get part_cmp old q))
    → (o p : ℕ) → kept_first new o p ≡ first_of (headers ++ h ∷ []) o p
first-new old new headers h are none now o p = now (o, p) ∙ go (is_eq (part_cmp (h.object, h.part) (o, p))) refl
  where
    empty : first_of headers h.object h.part ≡ None
    empty = sym (are h.object h.part) ∙ no-some (kept_first old h.object h.part) none
      where
        no-some : (f : Option Header) → is_some f ≡ false → f ≡ None
        no-some None e = refl
        no-some (Some k) e = absurd (both-ways (sym e))

    go : (b : Bool) → is_eq (part_cmp (h.object, h.part) (o, p)) ≡ b → cond b (Some h) (kept_first old o p) ≡ first_of (headers ++ h ∷ []) o p
    go true e =
        let key : ◌≡◌ {A = ℕ × ℕ} (h.object, h.part) (o, p) = same_part (h.object, h.part) (o, p) e in
        let a : h.object ≡ o = ap {A = ℕ × ℕ} {B = ℕ} (λ q. q.0) key in
        let b : h.part ≡ p = ap {A = ℕ × ℕ} {B = ℕ} (λ q. q.1) key in
        let none-here : first_of headers o p ≡ None = sym (λ i. first_of headers (a i) (b i)) ∙ empty in
        sym (find-last (at_part o p) headers h none-here ∙ ap (λ c. cond c (Some h) None) (and_from (h.object == o) (h.part == p) (eq-eqb h.object o a) (eq-eqb h.part p b)))
    go false e = are o p ∙ rest (first_of headers o p) refl
      where
        rest : (f : Option Header) → first_of headers o p ≡ f → first_of headers o p ≡ first_of (headers ++ h ∷ []) o p
        rest (Some k) d = d ∙ sym (find-more (at_part o p) headers h k d)
        rest None d =
            let no : at_part o p h ≡ false = not-true (at_part o p h) (λ t.
            let k = and_parts (h.object == o) (h.part == p) t in
            both-ways (sym e ∙ (λ i. is_eq (part_cmp (h.object, h.part) (sym (eqb-true h.object o k.0) i, sym (eqb-true h.part p k.1) i))) ∙ itself (h.object, h.part))) in
            d ∙ sym (find-last (at_part o p) headers h d ∙ ap (λ b. cond b (Some h) None) no)

-- ---- all parts

all-more : (f : ℕ → Bool) (a n : ℕ) → list_all f (range_with_len a (n + 1)) ≡ (list_all f (range_with_len a n) && f (a + n))
all-more f a n = ap (λ m. list_all f (range_with_len a m)) (let e : n + 1 ≡ suc n = omega arith in e) ∙ go a n
  where
    go : (a n : ℕ) → list_all f (range_with_len a (suc n)) ≡ (list_all f (range_with_len a n) && f (a + n))
    go a zero = last (f a) ∙ ap f (let e : a ≡ a + 0 = omega arith in e)
      where
        last : (b : Bool) → (b && true) ≡ b
        last true = refl
        last false = refl
    go a (suc n) = ap (λ b. f a && b) (go (a + 1) n) ∙ ap (λ m. f a && (list_all f (range_with_len (a + 1) n) && f m)) (let e : a + 1 + n ≡ a + suc n = omega arith in e)
        ∙ sym (and-assoc' (f a) (list_all f (range_with_len (a + 1) n)) (f (a + suc n)))
      where
        and-assoc' : (a b c : Bool) → ((a && b) && c) ≡ (a && (b && c))
        and-assoc' true b c = refl
        and-assoc' false b c = refl

pub parts-more : (first : ℕ → ℕ → Option Header) (object n : ℕ) → has_parts first object n ≡ true → is_some (first object n) ≡ true → has_parts first object (n + 1) ≡ true
parts-more first object n h k = all-more (λ part. is_some (first object part)) 0 n
    ∙ and_from (has_parts first object n) (is_some (first object (0 + n))) h (ap (λ m. is_some (first object m)) (let z : 0 + n ≡ n = omega arith in z) ∙ k)

pub parts-lack : (first : ℕ → ℕ → Option Header) (object n count : ℕ) → n < count → is_some (first object n) ≡ false → has_parts first object count ≡ false
parts-lack first object n count low h = go 0 count n low (ap (λ m. is_some (first object m)) (let z : 0 + n ≡ n = omega arith in z) ∙ h)
  where
    and-false : (b : Bool) → (b && false) ≡ false
    and-false true = refl
    and-false false = refl

    go : (a count n : ℕ) → n < count → is_some (first object (a + n)) ≡ false → list_all (λ part. is_some (first object part)) (range_with_len a count) ≡ false
    go a zero n low h = absurd (omega (arith, low))
    go a (suc count) zero low h =
        ap (λ b. b && list_all (λ part. is_some (first object part)) (range_with_len (a + 1) count)) (ap (λ m. is_some (first object m)) (let e : a ≡ a + 0 = omega arith in e) ∙ h)
    go a (suc count) (suc n) low h =
        ap (λ b. is_some (first object a) && b) (go (a + 1) count n (omega (arith, low)) (ap (λ m. is_some (first object m)) (let e : a + 1 + n ≡ a + suc n = omega arith in e) ∙ h)) ∙ and-false (is_some (first object a))

-- ---- the lengths of objects, as they are kept

pub no-lengths : (first : ℕ → ℕ → Option Header) (lengths : tree.BTreeMap ℕ (Option ℕ)) → lengths.entries ≡ [] → AreLengths first lengths
no-lengths first lengths empty object length at = absurd (none-some length (sym (ap (λ (es : List (ℕ × Option ℕ)). lookup (is_key (nat_cmp object)) es) empty) ∙ at))

pub lengths-more : (first : ℕ → ℕ → Option Header) (old new : tree.BTreeMap ℕ (Option ℕ)) (object : ℕ) (length : Option ℕ) → AreLengths first old → length ≡ length_of first object
    → ((q : ℕ) → tree.get nat_cmp new q ≡ cond (is_eq (nat_cmp object q)) (Some length) (tree.get nat_cmp old q)) → AreLengths first new
lengths-more first old new object length are is now q l at = go (is_eq (nat_cmp object q)) refl (sym (now q) ∙ at)
  where
    go : (b : Bool) → is_eq (nat_cmp object q) ≡ b → cond b (Some length) (tree.get nat_cmp old q) ≡ Some l → l ≡ length_of first q
    go true e k = sym (some-same length l k) ∙ is ∙ ap (length_of first) (exact_unsigned object q (is_equal _ e))
    go false e k = are q l k
