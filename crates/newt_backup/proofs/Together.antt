-- A store is put together again of its directory and its entries.
use Rattle.std.proofs.Common.{◌≡◌, refl, sym, ◌∙◌, ap, ℕ, ◌<◌, Bool, true, false, cond, List, [], ◌∷◌, ◌++◌, map, arith, append_assoc, flat_map, ◌==◌}
use Rattle.std.proofs.lemmas.Bool.{ne_eqb, eqb-true, eq-eqb}
use Rattle.newt_spec_graph.specs.Lists.{Each, Pairs}
use Rattle.newt_spec_store.specs.Store.{Entry, Soup, Store}
use Rattle.newt_spec_store.specs.Image.{all_entries}
use Rattle.newt_spec_store.specs.Laid.{bare, bare_soup}
use Rattle.newt_spec_store.specs.Valid.{well_formed}
use Rattle.newt_laws_images.proofs.Placed.{soups-rise}
use Rattle.newt_backup.specs.Together.{own, others, with_own, left_over, together}

flat : List Soup → List (ℕ × Entry)
flat ps = flat_map (λ p. map (λ e. (p.sig, e)) p.entries) ps

-- ---- from a store

Apart : ℕ → List (ℕ × Entry) → Type 0
Apart sig xs = (own sig xs ≡ []) × (others sig xs ≡ xs)

apart-one : (sig : ℕ) (x : ℕ × Entry) (xs : List (ℕ × Entry)) → (x.0 ≡ sig → ⊥) → (own sig (x ∷ xs) ≡ []) × (others sig (x ∷ xs) ≡ x ∷ xs)
apart-one sig x xs ne = (ap (λ b. cond b (x.1 ∷ own sig xs) []) (ne_eqb x.0 sig ne), ap (λ b. cond b (others sig xs) (x ∷ xs)) (ne_eqb x.0 sig ne))

apart-soups : (sig : ℕ) (ps : List Soup) → Each (λ p. sig < p.sig) ps
    → (own sig (flat_map (λ (p : Soup). map (λ (e : Entry). (p.sig, e)) p.entries) ps) ≡ [])
    × (others sig (flat_map (λ (p : Soup). map (λ (e : Entry). (p.sig, e)) p.entries) ps) ≡ flat_map (λ (p : Soup). map (λ (e : Entry). (p.sig, e)) p.entries) ps)
apart-soups sig [] h = (refl, refl)
apart-soups sig (p ∷ ps) h = go p.entries (apart-soups sig ps h.1)
  where
    go : (es : List Entry) → (own sig (flat_map (λ (p : Soup). map (λ (e : Entry). (p.sig, e)) p.entries) ps) ≡ [])
        × (others sig (flat_map (λ (p : Soup). map (λ (e : Entry). (p.sig, e)) p.entries) ps) ≡ flat_map (λ (p : Soup). map (λ (e : Entry). (p.sig, e)) p.entries) ps)
        → (own sig (map (λ (e : Entry). (p.sig, e)) es ++ flat_map (λ (p : Soup). map (λ (e : Entry). (p.sig, e)) p.entries) ps) ≡ [])
        × (others sig (map (λ (e : Entry). (p.sig, e)) es ++ flat_map (λ (p : Soup). map (λ (e : Entry). (p.sig, e)) p.entries) ps) ≡ map (λ (e : Entry). (p.sig, e)) es ++ flat_map (λ (p : Soup). map (λ (e : Entry). (p.sig, e)) p.entries) ps)
    go [] k = k
    go (e ∷ es) k = apart-one sig (p.sig, e) (map (λ (e : Entry). (p.sig, e)) es ++ flat_map (λ (p : Soup). map (λ (e : Entry). (p.sig, e)) p.entries) ps) (λ same. omega (arith, same, h.0))

own-front : (sig : ℕ) (es : List Entry) (xs : List (ℕ × Entry)) → own sig xs ≡ [] → others sig xs ≡ xs
    → (own sig (map (λ (e : Entry). (sig, e)) es ++ xs) ≡ es) × (others sig (map (λ (e : Entry). (sig, e)) es ++ xs) ≡ xs)
own-front sig [] xs a b = (a, b)
own-front sig (e ∷ es) xs a b =
    let k = own-front sig es xs a b in
    let t = eq-eqb sig sig refl in (
      ap (λ c. cond c (e ∷ own sig (map (λ (e : Entry). (sig, e)) es ++ xs)) []) t ∙ ap (λ l. e ∷ l) k.0,
      ap (λ c. cond c (others sig (map (λ (e : Entry). (sig, e)) es ++ xs)) ((sig, e) ∷ (map (λ (e : Entry). (sig, e)) es ++ xs))) t ∙ k.1,
    )

soups-back : (ps : List Soup) → Pairs (λ (a b : Soup). a.sig < b.sig) ps
    → (with_own (map bare_soup ps) (flat_map (λ (p : Soup). map (λ (e : Entry). (p.sig, e)) p.entries) ps) ≡ ps)
    × (left_over (map bare_soup ps) (flat_map (λ (p : Soup). map (λ (e : Entry). (p.sig, e)) p.entries) ps) ≡ [])
soups-back [] h = (refl, refl)
soups-back (p ∷ ps) h =
    let rest = flat_map (λ (p : Soup). map (λ (e : Entry). (p.sig, e)) p.entries) ps in
    let apart = apart-soups p.sig ps h.0 in
    let front = own-front p.sig p.entries rest apart.0 apart.1 in
    let k = soups-back ps h.1 in (
      ap (λ es. soup p es ∷ with_own (map bare_soup ps) (others p.sig (map (λ (e : Entry). (p.sig, e)) p.entries ++ rest))) front.0
          ∙ ap (λ xs. p ∷ with_own (map bare_soup ps) xs) front.1 ∙ ap (λ qs. p ∷ qs) k.0,
      ap (λ xs. left_over (map bare_soup ps) xs) front.1 ∙ k.1,
    )
  where
    soup : Soup → List Entry → Soup
    soup p es = record p { entries = es }

-- a store is its directory with its entries, and none is left over
pub store-together : (s : Store) → well_formed s ≡ true → together (bare s) (all_entries s) ≡ s
store-together s w = ap (λ ps. store ps) (soups-back s.soups (soups-rise s w)).0
  where
    store : List Soup → Store
    store ps = record s { soups = ps }

pub none-left : (s : Store) → well_formed s ≡ true → left_over (bare s).soups (all_entries s) ≡ []
none-left s w = (soups-back s.soups (soups-rise s w)).1

-- ---- to a store

own-back : (sig : ℕ) (xs : List (ℕ × Entry)) → map (λ (e : Entry). (sig, e)) (own sig xs) ++ others sig xs ≡ xs
own-back sig [] = refl
own-back sig (x ∷ xs) = go (x.0 == sig) (λ t. eqb-true x.0 sig t) (own-back sig xs)
  where
    go : (b : Bool) → (b ≡ true → x.0 ≡ sig) → map (λ (e : Entry). (sig, e)) (own sig xs) ++ others sig xs ≡ xs
        → map (λ (e : Entry). (sig, e)) (cond b (x.1 ∷ own sig xs) []) ++ cond b (others sig xs) (x ∷ xs) ≡ x ∷ xs
    go true same k = ap (λ n. (n, x.1) ∷ (map (λ (e : Entry). (sig, e)) (own sig xs) ++ others sig xs)) (sym (same refl)) ∙ ap (λ l. x ∷ l) k
    go false same k = refl

-- the entries are those of the soups, and what is left over
pub entries-back : (ps : List Soup) (xs : List (ℕ × Entry)) → flat_map (λ (p : Soup). map (λ (e : Entry). (p.sig, e)) p.entries) (with_own ps xs) ++ left_over ps xs ≡ xs
entries-back [] xs = refl
entries-back (p ∷ ps) xs =
    append_assoc (map (λ (e : Entry). (p.sig, e)) (own p.sig xs)) (flat_map (λ (p : Soup). map (λ (e : Entry). (p.sig, e)) p.entries) (with_own ps (others p.sig xs))) (left_over ps (others p.sig xs))
    ∙ ap (λ l. map (λ (e : Entry). (p.sig, e)) (own p.sig xs) ++ l) (entries-back ps (others p.sig xs)) ∙ own-back p.sig xs
