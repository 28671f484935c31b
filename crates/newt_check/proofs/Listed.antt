-- The ids of objects above 0, listed, and the objects in the order of their ids.
use Rattle.std.proofs.Common.{arith, ◌≡◌, ◌≢◌, refl, ap, sym, ◌∙◌, subst, ℕ, zero, suc, ◌+◌, ◌%◌, ◌<◌, ◌≤◌, ◌==◌, ◌&&◌, nat_lt, ◌⊎◌, inl, inr, Bool, true, false, not, cond, List, [], ◌∷◌, ◌++◌, length, find, filter, flat_map, map as list_map, Option, Some, None, IsSome, option_map, append_assoc}
use Rattle.std.specs.FinMap as map
use Rattle.std.proofs.lemmas.List.{append-nil}
use Rattle.std.proofs.lemmas.Bool.{eq-eqb, eqb-true, lt-ltb, ltb-true, cases_lt, cases_order}
use Rattle.newt_spec_image.specs.Objects.{Objects, Extent, Table}
use Rattle.newt_objects.specs.Listed.{AreNexts}
use Rattle.newt_laws_images.proofs.Made.{even-or-odd}
use Rattle.newt_laws_images.proofs.Finite.{entries-rising, entry-get, get-entry}
use Rattle.newt_spec_graph.specs.Lists.{Pairs, Among}
use Rattle.newt_spec_graph.proofs.Lists.{each-at, among-filter, filter-among, pairs-filter, both-ways, none-some}
use Rattle.newt_spec_store.specs.StoreOf.{entry_row}
use Rattle.newt_spec_check.specs.Damage.{all_named, count_of, ids_in, is_odd}
use Rattle.newt_check.specs.Seen.{is_stray_id, named_to}

-- objects that stand in the order of their ids
abbrev pub Rising : List (ℕ × List ℕ) → Type 0
Rising es = Pairs (λ (a b : ℕ × List ℕ). a.0 < b.0) es

abbrev pub ids_of : List (ℕ × List ℕ) → List ℕ
ids_of es = list_map (λ o. o.0) es

-- the id is above 0
abbrev pub is_above : ℕ × List ℕ → Bool
is_above o = nat_lt 0 o.0

none-there : (table : Table) (id : ℕ) → table id ≡ None → IsSome (table id) → ⊥
none-there table id e s = both-ways (subst (λ (o : Option Extent). IsSome o) e s)

-- ---- the list of the ids

pub same-ids : (table : Table) (from : ℕ) (ids : List ℕ) (es : List (ℕ × List ℕ)) → AreNexts table from ids → Rising es
    → ((e : ℕ × List ℕ) → Among es e → (from ≤ e.0) × IsSome (table e.0)) → ((id : ℕ) → from ≤ id → IsSome (table id) → (e : ℕ × List ℕ) × Among es e × (e.0 ≡ id)) → ids ≡ ids_of es
same-ids table from [] [] all rising there listed = refl
same-ids table from [] (e ∷ es) all rising there listed = let t = there e (inl refl) in absurd (none-there table e.0 (all.none e.0 refl t.0) t.1)
same-ids table from (id ∷ ids) [] all rising there listed = let f = all.0.found id refl in absurd (listed id f.1 f.0).1
same-ids table from (id ∷ ids) (e ∷ es) all rising there listed = go (same-ids table (id + 1) ids es all.1 rising.1) (cases_order id e.0)
  where
    its : IsSome (table id) × (from ≤ id)
    its = all.0.found id refl

    after : (x : ℕ × List ℕ) → Among es x → e.0 < x.0
    after x m = each-at (λ (b : ℕ × List ℕ). e.0 < b.0) es x rising.0 m

    go : (((x : ℕ × List ℕ) → Among es x → (id + 1 ≤ x.0) × IsSome (table x.0)) → ((q : ℕ) → id + 1 ≤ q → IsSome (table q) → (x : ℕ × List ℕ) × Among es x × (x.0 ≡ q)) → ids ≡ ids_of es)
        → (id ≡ e.0) ⊎ ((id < e.0) ⊎ (e.0 < id)) → id ∷ ids ≡ e.0 ∷ ids_of es
    go others (inl same) =
        let rest = others
        (λ x m. (let more = after x m in omega (arith, more, same), (there x (inr m)).1))
        (λ q high s. let r = listed q (omega (arith, high, its.1)) s in
        elim r.1 [
          | inl k ↦ (let is : e.0 ≡ q = ap (λ (x : ℕ × List ℕ). x.0) k ∙ r.2 in absurd (omega (arith, high, same, is)))
          | inr m ↦ (r.0, m, r.2)
        ]) in
        λ i. same i ∷ rest i
    go others (inr (inl less)) = let r = listed id its.1 its.0 in
        elim r.1 [
          | inl k ↦ (let is : e.0 ≡ id = ap (λ (x : ℕ × List ℕ). x.0) k ∙ r.2 in absurd (omega (arith, less, is)))
          | inr m ↦ (let more = after r.0 m in let is = r.2 in absurd (omega (arith, less, more, is)))
        ]
    go others (inr (inr less)) = let t = there e (inl refl) in absurd (none-there table e.0 (all.0.least id e.0 refl t.0 less) t.1)

-- the ids that are listed are those of the objects above 0
pub listed-are : (table : Table) (ids : List ℕ) (texts : Objects) → AreNexts table 1 ids → ((id : ℕ) (bytes : List ℕ) → map.get texts id ≡ Some bytes → IsSome (table id))
    → ((id : ℕ) → IsSome (table id) → (bytes : List ℕ) × (map.get texts id ≡ Some bytes)) → ids ≡ ids_of (filter is_above (map.entries texts))
listed-are table ids texts all there some =
    same-ids table 1 ids (filter is_above (map.entries texts)) all (pairs-filter (λ (a b : ℕ × List ℕ). a.0 < b.0) is_above (map.entries texts) (entries-rising texts))
    (λ e m. let k = among-filter is_above (map.entries texts) e m in (let above = ltb-true 0 e.0 k.1 in omega (arith, above), there e.0 e.1 (entry-get texts e.0 e.1 k.0)))
    (λ id high s. let b = some id s in ((id, b.0), filter-among is_above (map.entries texts) (id, b.0) (get-entry texts id b.0 b.1) (lt-ltb 0 id (omega (arith, high))), refl))

-- ---- what is found among the ids is found among the objects

abbrev is_stray_by : List ℕ → ℕ × List ℕ → Bool
is_stray_by names o = not (is_odd o) && nat_lt 0 o.0 && not (count_of o.0 names == 1)

pub strays-are : (names : List ℕ) (es : List (ℕ × List ℕ)) → option_map (λ (o : ℕ × List ℕ). o.0) (find (is_stray_by names) es) ≡ find (is_stray_id names) (ids_of (filter is_above es))
strays-are names [] = refl
strays-are names (e ∷ es) = go (nat_lt 0 e.0) refl (is_stray_id names e.0) refl (strays-are names es)
  where
    parity : (n : ℕ) → not (n % 2 == 1) ≡ (n % 2 == 0)
    parity n = elim (even-or-odd n) [
      | inl even ↦ ap not (differ (n % 2) 1 (λ k. omega (arith, even, k))) ∙ sym (eq-eqb (n % 2) 0 even)
      | inr odd ↦ ap not (eq-eqb (n % 2) 1 odd) ∙ sym (differ (n % 2) 0 (λ k. omega (arith, odd, k)))
    ]
      where
        differ : (a b : ℕ) → a ≢ b → (a == b) ≡ false
        differ a b h = go (a == b) refl
          where
            go : (c : Bool) → (a == b) ≡ c → c ≡ false
            go true e = absurd (h (eqb-true a b e))
            go false e = refl

    all : (a b c d : Bool) → a ≡ d → b ≡ true → (a && b && c) ≡ (d && c)
    all a b c d h k = grind (arith, h, k)

    low : (a b c : Bool) → b ≡ false → (a && b && c) ≡ false
    low a b c h = grind (arith, h)

    go : (above : Bool) → nat_lt 0 e.0 ≡ above → (stray : Bool) → is_stray_id names e.0 ≡ stray → option_map (λ (o : ℕ × List ℕ). o.0) (find (is_stray_by names) es) ≡ find (is_stray_id names) (ids_of (filter is_above es))
        → option_map (λ (o : ℕ × List ℕ). o.0) (cond (is_stray_by names e) (Some e) (find (is_stray_by names) es)) ≡ find (is_stray_id names) (ids_of (cond above (e ∷ filter is_above es) (filter is_above es)))
    go false h stray k more = ap (λ b. option_map (λ (o : ℕ × List ℕ). o.0) (cond b (Some e) (find (is_stray_by names) es))) (low (not (is_odd e)) (nat_lt 0 e.0) (not (count_of e.0 names == 1)) h) ∙ more
    go true h true k more = ap (λ b. option_map (λ (o : ℕ × List ℕ). o.0) (cond b (Some e) (find (is_stray_by names) es))) (all (not (is_odd e)) (nat_lt 0 e.0) (not (count_of e.0 names == 1)) (e.0 % 2 == 0) (parity e.0) h ∙ k)
        ∙ sym (ap (λ b. cond b (Some e.0) (find (is_stray_id names) (ids_of (filter is_above es)))) k)
    go true h false k more = ap (λ b. option_map (λ (o : ℕ × List ℕ). o.0) (cond b (Some e) (find (is_stray_by names) es))) (all (not (is_odd e)) (nat_lt 0 e.0) (not (count_of e.0 names == 1)) (e.0 % 2 == 0) (parity e.0) h ∙ k)
        ∙ more ∙ sym (ap (λ b. cond b (Some e.0) (find (is_stray_id names) (ids_of (filter is_above es)))) k)

pub odds-are : (es : List (ℕ × List ℕ)) → length (filter (λ id. id % 2 == 1) (ids_of (filter is_above es))) ≡ length (filter is_odd es)
odds-are [] = refl
odds-are (e ∷ es) = go (nat_lt 0 e.0) (e.0 % 2 == 1) refl refl (odds-are es)
  where
    above : (n : ℕ) → n % 2 ≡ 1 → 0 < n
    above zero h = cc
    above (suc n) h = omega arith

    go : (a b : Bool) → nat_lt 0 e.0 ≡ a → (e.0 % 2 == 1) ≡ b → length (filter (λ id. id % 2 == 1) (ids_of (filter is_above es))) ≡ length (filter is_odd es)
        → length (filter (λ id. id % 2 == 1) (ids_of (cond a (e ∷ filter is_above es) (filter is_above es)))) ≡ length (cond b (e ∷ filter is_odd es) (filter is_odd es))
    go true true k l more = ap (λ (c : Bool). length (cond c (e.0 ∷ filter (λ id. id % 2 == 1) (ids_of (filter is_above es))) (filter (λ id. id % 2 == 1) (ids_of (filter is_above es))))) l ∙ ap suc more
    go true false k l more = ap (λ (c : Bool). length (cond c (e.0 ∷ filter (λ id. id % 2 == 1) (ids_of (filter is_above es))) (filter (λ id. id % 2 == 1) (ids_of (filter is_above es))))) l ∙ more
    go false true k l more = absurd (both-ways (sym k ∙ lt-ltb 0 e.0 (above e.0 (eqb-true (e.0 % 2) 1 l))))
    go false false k l more = more

-- ---- the records up to an id

filter-equal : (f g : ℕ × List ℕ → Bool) (es : List (ℕ × List ℕ)) → ((e : ℕ × List ℕ) → Among es e → f e ≡ g e) → filter f es ≡ filter g es
filter-equal f g [] h = refl
filter-equal f g (e ∷ es) h = λ i. cond (h e (inl refl) i) (e ∷ filter-equal f g es (λ x m. h x (inr m)) i) (filter-equal f g es (λ x m. h x (inr m)) i)

-- the record of an object up to an id
abbrev pub is_to : ℕ → ℕ × List ℕ → Bool
is_to last o = is_odd o && nat_lt o.0 (last + 1)

not-below : (a b : ℕ) → b ≤ a → nat_lt a b ≡ false
not-below a b h = go (nat_lt a b) refl
  where
    go : (c : Bool) → nat_lt a b ≡ c → c ≡ false
    go true e = absurd (let less = ltb-true a b e in omega (arith, less, h))
    go false e = refl

and-false : (b : Bool) → (b && false) ≡ false
and-false true = refl
and-false false = refl

-- one record more: no other object stands between
pub to-next : (es : List (ℕ × List ℕ)) (o : ℕ × List ℕ) (last : ℕ) → Rising es → Among es o → is_odd o ≡ true → last + 1 ≤ o.0
    → ((e : ℕ × List ℕ) → Among es e → last + 1 ≤ e.0 → e.0 < o.0 → ⊥) → filter (is_to o.0) es ≡ filter (is_to last) es ++ o ∷ []
to-next [] o last rising m odd low none = absurd m
to-next (e ∷ es) o last rising (inl same) odd low none =
    let is : e.0 ≡ o.0 = ap (λ (x : ℕ × List ℕ). x.0) same in
    let in-it : is_to o.0 e ≡ true = ap (λ (x : ℕ × List ℕ). is_odd x && nat_lt x.0 (o.0 + 1)) same ∙ ap (λ b. b && nat_lt o.0 (o.0 + 1)) odd ∙ lt-ltb o.0 (o.0 + 1) (omega arith) in
    let out : is_to last e ≡ false = ap (λ b. is_odd e && b) (not-below e.0 (last + 1) (omega (arith, is, low))) ∙ and-false (is_odd e) in
    let after : (n : ℕ) → n ≤ o.0 → filter (is_to n) es ≡ [] = λ n few. filter-equal (is_to n) (λ x. false) es (λ x k. let more = each-at (λ (b : ℕ × List ℕ). e.0 < b.0) es x rising.0 k in
    ap (λ b. is_odd x && b) (not-below x.0 (n + 1) (omega (arith, more, is, few))) ∙ and-false (is_odd x)) ∙ no-filter es in
    ap (λ b. cond b (e ∷ filter (is_to o.0) es) (filter (is_to o.0) es)) in-it
    ∙ (λ i. same i ∷ after o.0 (omega arith) i)
    ∙ sym (ap (λ b. cond b (e ∷ filter (is_to last) es) (filter (is_to last) es) ++ o ∷ []) out ∙ ap (λ (l : List (ℕ × List ℕ)). l ++ o ∷ []) (after last (omega (arith, low))))
  where
    no-filter : (xs : List (ℕ × List ℕ)) → filter (λ x. false) xs ≡ []
    no-filter [] = refl
    no-filter (x ∷ xs) = no-filter xs
to-next (e ∷ es) o last rising (inr m) odd low none =
    let more = each-at (λ (b : ℕ × List ℕ). e.0 < b.0) es o rising.0 m in
    let before : e.0 < last + 1 = elim (cases_lt e.0 (last + 1)) [ inl less ↦ less | inr high ↦ absurd (none e (inl refl) high more) ] in
    let same : is_to o.0 e ≡ is_to last e = ap (λ b. is_odd e && b) (lt-ltb e.0 (o.0 + 1) (omega (arith, more)) ∙ sym (lt-ltb e.0 (last + 1) before)) in
    ap (λ b. cond b (e ∷ filter (is_to o.0) es) (filter (is_to o.0) es)) same ∙ go (is_to last e) (to-next es o last rising.1 m odd low (λ x n. none x (inr n)))
  where
    go : (b : Bool) → filter (is_to o.0) es ≡ filter (is_to last) es ++ o ∷ [] → cond b (e ∷ filter (is_to o.0) es) (filter (is_to o.0) es) ≡ cond b (e ∷ filter (is_to last) es) (filter (is_to last) es) ++ o ∷ []
    go true h = ap (λ (l : List (ℕ × List ℕ)). e ∷ l) h
    go false h = h

flat-last : (f : ℕ × List ℕ → List ℕ) (es : List (ℕ × List ℕ)) (o : ℕ × List ℕ) → flat_map f (es ++ o ∷ []) ≡ flat_map f es ++ f o
flat-last f [] o = append-nil (f o)
flat-last f (e ∷ es) o = ap (λ (l : List ℕ). f e ++ l) (flat-last f es o) ∙ sym (append_assoc (f e) (flat_map f es) (f o))

-- the names of the records up to the next one
pub named-next : (texts : Objects) (id last : ℕ) (bytes : List ℕ) → map.get texts id ≡ Some bytes → id % 2 ≡ 1 → last + 1 ≤ id
    → ((q : ℕ) → last + 1 ≤ q → q < id → map.get texts q ≡ None) → named_to id texts ≡ named_to last texts ++ ids_in (entry_row bytes)
named-next texts id last bytes at odd low none =
    ap (flat_map (λ (o : ℕ × List ℕ). ids_in (entry_row o.1))) (to-next (map.entries texts) (id, bytes) last (entries-rising texts) (get-entry texts id bytes at) (eq-eqb (id % 2) 1 odd) low
    (λ e m high less. none-some e.1 (sym (none e.0 high less) ∙ entry-get texts e.0 e.1 m)))
    ∙ flat-last (λ (o : ℕ × List ℕ). ids_in (entry_row o.1)) (filter (is_to last) (map.entries texts)) (id, bytes)

-- they are the same where the next object is no record
pub named-even : (texts : Objects) (id last : ℕ) → id % 2 ≡ 0 → last + 1 ≤ id → ((q : ℕ) → last + 1 ≤ q → q < id → map.get texts q ≡ None) → named_to id texts ≡ named_to last texts
named-even texts id last even low none = ap (flat_map (λ (o : ℕ × List ℕ). ids_in (entry_row o.1))) (filter-equal (is_to id) (is_to last) (map.entries texts)
    (λ e m. go e (entry-get texts e.0 e.1 m) (cases_lt e.0 (last + 1)) (cases_order e.0 id)))
  where
    odd-not : (n : ℕ) → n % 2 ≡ 0 → (n % 2 == 1) ≡ false
    odd-not n e = grind (arith, e)

    go : (e : ℕ × List ℕ) → map.get texts e.0 ≡ Some e.1 → (e.0 < last + 1) ⊎ (last + 1 ≤ e.0) → (e.0 ≡ id) ⊎ ((e.0 < id) ⊎ (id < e.0)) → is_to id e ≡ is_to last e
    go e at (inl less) o = ap (λ b. is_odd e && b) (lt-ltb e.0 (id + 1) (omega (arith, less, low)) ∙ sym (lt-ltb e.0 (last + 1) less))
    go e at (inr high) (inl same) = let no : is_odd e ≡ false = odd-not e.0 (ap (λ n. n % 2) same ∙ even) in ap (λ b. b && nat_lt e.0 (id + 1)) no ∙ sym (ap (λ b. b && nat_lt e.0 (last + 1)) no)
    go e at (inr high) (inr (inl less)) = absurd (none-some e.1 (sym (none e.0 high less) ∙ at))
    go e at (inr high) (inr (inr more)) = ap (λ b. is_odd e && b) (not-below e.0 (id + 1) (omega (arith, more)) ∙ sym (not-below e.0 (last + 1) high))

-- none are named at first, and all where no object is left
pub named-none : (texts : Objects) → named_to 0 texts ≡ []
named-none texts = ap (flat_map (λ (o : ℕ × List ℕ). ids_in (entry_row o.1))) (go (map.entries texts))
  where
    one : (n : ℕ) → ((n % 2 == 1) && nat_lt n 1) ≡ false
    one zero = refl
    one (suc n) = ap (λ b. (suc n % 2 == 1) && b) (not-below (suc n) 1 (omega arith)) ∙ and-false (suc n % 2 == 1)

    go : (es : List (ℕ × List ℕ)) → filter (is_to 0) es ≡ []
    go [] = refl
    go (e ∷ es) = ap (λ b. cond b (e ∷ filter (is_to 0) es) (filter (is_to 0) es)) (one e.0) ∙ go es

pub named-all : (texts : Objects) (last : ℕ) → ((q : ℕ) → last + 1 ≤ q → map.get texts q ≡ None) → named_to last texts ≡ all_named (map.entries texts)
named-all texts last none = ap (flat_map (λ (o : ℕ × List ℕ). ids_in (entry_row o.1))) (filter-equal (is_to last) is_odd (map.entries texts)
    (λ e m. go e (entry-get texts e.0 e.1 m) (cases_lt e.0 (last + 1))))
  where
    go : (e : ℕ × List ℕ) → map.get texts e.0 ≡ Some e.1 → (e.0 < last + 1) ⊎ (last + 1 ≤ e.0) → is_to last e ≡ is_odd e
    go e at (inl less) = ap (λ b. is_odd e && b) (lt-ltb e.0 (last + 1) less) ∙ and-true (is_odd e)
      where
        and-true : (b : Bool) → (b && true) ≡ b
        and-true true = refl
        and-true false = refl
    go e at (inr high) = absurd (none-some e.1 (sym (none e.0 high) ∙ at))
