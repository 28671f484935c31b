-- A directory and entries that pass are a store, and those of a store pass.
use Rattle.std.proofs.Common.{◌≡◌, refl, sym, ◌∙◌, ap, subst, ℕ, ◌+◌, ◌<◌, ◌≤◌, ◌&&◌, Bool, true, false, cond, List, [], ◌∷◌, map, Option, Some, None, arith, ◌==◌}
use Rattle.std.specs.Prelude.{if◌then◌else◌}
use Rattle.std.specs.List.{list_all}
use Rattle.std.proofs.lemmas.Bool.{and_parts}
use Rattle.newt_spec_graph.specs.Lists.{rises}
use Rattle.newt_spec_store.specs.Store.{Entry, Soup}
use Rattle.newt_spec_store.specs.Valid.{valid_entry, valid_soup}
use Rattle.newt_laws_images.proofs.Stores.{is-soup, soup-is}
use Rattle.newt_backup.specs.Together.{own, others, with_own, left_over}
use Rattle.newt_backup.specs.Checks.{may_follow, after, if_left, is_nil, are_of}

-- what is known where the entries of a soup were passed
record Passed (sig next low : ℕ) (xs ys : List (ℕ × Entry)) : Type 0 where
  rise : rises low next (map (λ (e : Entry). e.uid) (own sig xs)) ≡ true
  valid : list_all valid_entry (own sig xs) ≡ true
  left : ys ≡ others sig xs

passed : (sig next low : ℕ) (xs ys : List (ℕ × Entry)) → after sig next low xs ≡ Some ys → Passed sig next low xs ys
passed sig next low [] ys h = record { rise = refl; valid = refl; left = some-one ys [] (sym h) }
  where
    some-one : {X : Type 0} (x y : X) → Some x ≡ Some y → x ≡ y
    some-one x y e = cc
passed sig next low (x ∷ xs) ys h = let k = go (x.0 == sig) (may_follow low next x.1) refl h (λ k. passed sig next (x.1.uid + 1) xs ys k) in record { rise = k.0; valid = k.1; left = k.2 }
  where
    some-same : {X : Type 0} (x y : X) → Some x ≡ Some y → x ≡ y
    some-same x y e = cc

    none-not : {X : Type 0} (y : X) → None ≡ Some y → ⊥
    none-not y e = cc

    parts : (low next : ℕ) (e : Entry) → may_follow low next e ≡ true → (low ≤ e.uid) × (e.uid < next) × (valid_entry e ≡ true)
    parts low next e h = (grind arith, grind arith, grind arith)

    rise : (low next uid : ℕ) (us : List ℕ) → low ≤ uid → uid < next → rises (uid + 1) next us ≡ true → rises low next (uid ∷ us) ≡ true
    rise low next uid us a b h = grind (arith, a, b, h)

    all : (e : Entry) (es : List Entry) → valid_entry e ≡ true → list_all valid_entry es ≡ true → list_all valid_entry (e ∷ es) ≡ true
    all e es a b = grind (arith, a, b)

    go : (is may : Bool) → may ≡ may_follow low next x.1 → (if is then (if may then after sig next (x.1.uid + 1) xs else None) else Some (x ∷ xs)) ≡ Some ys
        → (after sig next (x.1.uid + 1) xs ≡ Some ys → Passed sig next (x.1.uid + 1) xs ys)
        → (rises low next (map (λ (e : Entry). e.uid) (cond is (x.1 ∷ own sig xs) [])) ≡ true) × (list_all valid_entry (cond is (x.1 ∷ own sig xs) []) ≡ true) × (ys ≡ cond is (others sig xs) (x ∷ xs))
    go false may e h more = (refl, refl, some-same ys (x ∷ xs) (sym h))
    go true false e h more = absurd (none-not ys h)
    go true true e h more =
        let k = more h in
        let p = parts low next x.1 (sym e) in
        (rise low next x.1.uid (map (λ (e : Entry). e.uid) (own sig xs)) p.0 p.1 k.rise, all x.1 (own sig xs) p.2 k.valid, k.left)

back : (sig next low : ℕ) (xs : List (ℕ × Entry)) → rises low next (map (λ (e : Entry). e.uid) (own sig xs)) ≡ true → list_all valid_entry (own sig xs) ≡ true → after sig next low xs ≡ Some (others sig xs)
back sig next low [] r v = refl
back sig next low (x ∷ xs) r v = go (x.0 == sig) r v (λ a b. back sig next (x.1.uid + 1) xs a b)
  where
    follows : (low next : ℕ) (e : Entry) (us : List ℕ) (es : List Entry) → rises low next (e.uid ∷ us) ≡ true → list_all valid_entry (e ∷ es) ≡ true
        → (may_follow low next e ≡ true) × (rises (e.uid + 1) next us ≡ true) × (list_all valid_entry es ≡ true)
    follows low next e us es r v = (grind (arith, r, v), grind (arith, r), grind (arith, v))

    go : (is : Bool) → rises low next (map (λ (e : Entry). e.uid) (cond is (x.1 ∷ own sig xs) [])) ≡ true → list_all valid_entry (cond is (x.1 ∷ own sig xs) []) ≡ true
        → (rises (x.1.uid + 1) next (map (λ (e : Entry). e.uid) (own sig xs)) ≡ true → list_all valid_entry (own sig xs) ≡ true → after sig next (x.1.uid + 1) xs ≡ Some (others sig xs))
        → (if is then (if may_follow low next x.1 then after sig next (x.1.uid + 1) xs else None) else Some (x ∷ xs)) ≡ Some (cond is (others sig xs) (x ∷ xs))
    go false r v more = refl
    go true r v more =
        let f = follows low next x.1 (map (λ (e : Entry). e.uid) (own sig xs)) (own sig xs) r v in
        ap (λ b. if b then after sig next (x.1.uid + 1) xs else None) f.0 ∙ more f.1 f.2

-- ---- all soups

bare : Soup → Soup
bare p = record p { entries = [] }

soup-with : (p : Soup) (es : List Entry) → valid_soup p ≡ true → rises 0 p.next_uid (map (λ (e : Entry). e.uid) es) ≡ true → list_all valid_entry es ≡ true → valid_soup (record p { entries = es }) ≡ true
soup-with p es v r l =
    let is = is-soup p v in
    soup-is (record p { entries = es }) (record { named = is.named; next = is.next; uids = r; count = is.count; specs_fit = is.specs_fit; specs_apart = is.specs_apart; tags_fit = is.tags_fit; info_fits = is.info_fits; entries_fit = l })

some-left : (test : List (ℕ × Entry) → Bool) (o : Option (List (ℕ × Entry))) → if_left test o ≡ true → (ys : List (ℕ × Entry)) × (o ≡ Some ys) × (test ys ≡ true)
some-left test None h = absurd (no h)
  where
    no : false ≡ true → ⊥
    no e = cc
some-left test (Some ys) h = (ys, refl, h)

nil-is : {X : Type 0} (xs : List X) → is_nil xs ≡ true → xs ≡ []
nil-is [] h = refl
nil-is (x ∷ xs) h = absurd (no h)
  where
    no : false ≡ true → ⊥
    no e = cc

-- soups that pass are valid with their entries, and none is left over
pub soups-pass : (ps : List Soup) (xs : List (ℕ × Entry)) → list_all valid_soup ps ≡ true → are_of ps xs ≡ true → (list_all valid_soup (with_own ps xs) ≡ true) × (left_over ps xs ≡ [])
soups-pass [] xs v h = (refl, nil-is xs h)
soups-pass (p ∷ ps) xs v h =
    let o = some-left (are_of ps) (after p.sig p.next_uid 0 xs) h in
    let k = passed p.sig p.next_uid 0 xs o.0 o.1 in
    let vs = and_parts (valid_soup p) (list_all valid_soup ps) v in
    let more = soups-pass ps (others p.sig xs) vs.1 (subst (λ ys. are_of ps ys ≡ true) k.left o.2) in
    (two (valid_soup (record p { entries = own p.sig xs })) (list_all valid_soup (with_own ps (others p.sig xs))) (soup-with p (own p.sig xs) vs.0 k.rise k.valid) more.0, more.1)
  where
    two : (a b : Bool) → a ≡ true → b ≡ true → (a && b) ≡ true
    two a b e f = grind arith

-- and those that are valid with their entries, none of which is left over, pass
pub soups-passed : (ps : List Soup) (xs : List (ℕ × Entry)) → list_all valid_soup (with_own ps xs) ≡ true → left_over ps xs ≡ [] → are_of ps xs ≡ true
soups-passed [] xs v h = ap (λ l. is_nil l) h
soups-passed (p ∷ ps) xs v h =
    let vs = and_parts (valid_soup (record p { entries = own p.sig xs })) (list_all valid_soup (with_own ps (others p.sig xs))) v in
    let is = is-soup (record p { entries = own p.sig xs }) vs.0 in
    ap (λ o. if_left (are_of ps) o) (back p.sig p.next_uid 0 xs is.uids is.entries_fit) ∙ soups-passed ps (others p.sig xs) vs.1 h
