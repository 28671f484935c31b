-- A well-formed store has one soup of a name and one of a signature, and a soup one entry of an id: each is found by what it is.
use Rattle.std.proofs.Common.{arith, ◌≡◌, refl, ap, sym, ◌∙◌, ℕ, ◌<◌, ◌≤◌, List, [], ◌∷◌, true, false, Bool, not, ◌||◌, cond, Some, ◌⊎◌, inl, inr, map, find, ◌==◌}
use Rattle.std.specs.List.{list_any}
use Rattle.std.proofs.lemmas.Slice.Eq.{bytes_eq-Decides}
use Rattle.std.proofs.lemmas.Bool.{eqb-true, eq-eqb, and_parts}
use Rattle.std.proofs.lemmas.Cmp.{nat_list_eq_equiv}
use Rattle.newt_base.specs.Names.{equal_text}
use Rattle.newt_spec_graph.specs.Lists.{Each, Pairs, Among, all_apart, rises}
use Rattle.newt_spec_graph.proofs.Lists.{each-at, each-more, each-list_all, pairs-map, pairs-more, rises-pairs, rises-above, some-same, none-some, both-ways}
use Rattle.newt_spec_store.specs.Store.{Store, Soup, Entry, soup_named, entry_of, change_first, soup_of}
use Rattle.newt_spec_store.specs.Valid.{well_formed, valid_soup}
use Rattle.newt_laws_images.proofs.Stores.{is-store, IsSoup, is-soup}
use Rattle.newt_laws_images.proofs.Assembled.{map-among}

-- ---- lists of which one element passes a test

-- two that both pass do not stand in the list
abbrev pub OnePasses : {X : Type 0} → (X → Bool) → List X → Type 0
OnePasses test xs = Pairs (λ a b. test a ≡ true → test b ≡ true → ⊥) xs

-- what is found passes and is there
pub find-passes : {X : Type 0} (test : X → Bool) (xs : List X) (x : X) → find test xs ≡ Some x → (test x ≡ true) × Among xs x
find-passes test [] x h = absurd (none-some x h)
find-passes test (y ∷ xs) x h = go (find-passes test xs x) (test y) refl h
  where
    go : (find test xs ≡ Some x → (test x ≡ true) × Among xs x) → (b : Bool) → test y ≡ b → cond b (Some y) (find test xs) ≡ Some x → (test x ≡ true) × Among (y ∷ xs) x
    go more true is e = let same = some-same y x e in (ap test (sym same) ∙ is, inl same)
    go more false is e = let r = more e in (r.0, inr r.1)

-- the one that passes is found
pub find-one : {X : Type 0} (test : X → Bool) (xs : List X) (x : X) → OnePasses test xs → Among xs x → test x ≡ true → find test xs ≡ Some x
find-one test [] x one m h = absurd m
find-one test (y ∷ xs) x one m h = go (find-one test xs x one.1) (test y) refl m
  where
    go : (Among xs x → test x ≡ true → find test xs ≡ Some x) → (b : Bool) → test y ≡ b → Among (y ∷ xs) x → cond b (Some y) (find test xs) ≡ Some x
    go more true is (inl k) = ap Some k
    go more true is (inr k) = absurd (each-at (λ b. test y ≡ true → test b ≡ true → ⊥) xs x one.0 k is h)
    go more false is (inl k) = absurd (both-ways (sym is ∙ ap test k ∙ h))
    go more false is (inr k) = more k h

pub only-one : {X : Type 0} (test : X → Bool) (xs : List X) (a b : X) → OnePasses test xs → Among xs a → Among xs b → test a ≡ true → test b ≡ true → a ≡ b
only-one test xs a b one m n h k = some-same a b (sym (find-one test xs a one m h) ∙ find-one test xs b one n k)

-- ---- the first that passes, changed

pub first-among : {X : Type 0} (test : X → Bool) (f : X → X) (xs : List X) (x : X) → find test xs ≡ Some x → Among (change_first test f xs) (f x)
first-among test f [] x h = absurd (none-some x h)
first-among test f (y ∷ xs) x h = go (first-among test f xs x) (test y) h
  where
    go : (find test xs ≡ Some x → Among (change_first test f xs) (f x)) → (b : Bool) → cond b (Some y) (find test xs) ≡ Some x → Among (cond b (f y ∷ xs) (y ∷ change_first test f xs)) (f x)
    go more true e = inl (ap f (some-same y x e))
    go more false e = inr (more e)

-- the others stay
pub first-others : {X : Type 0} (test : X → Bool) (f : X → X) (xs : List X) (z : X) → Among xs z → (test z ≡ true → ⊥) → Among (change_first test f xs) z
first-others test f [] z m n = absurd m
first-others test f (y ∷ xs) z m n = go (λ k. first-others test f xs z k n) (test y) refl m
  where
    go : (Among xs z → Among (change_first test f xs) z) → (b : Bool) → test y ≡ b → Among (y ∷ xs) z → Among (cond b (f y ∷ xs) (y ∷ change_first test f xs)) z
    go more true is (inl k) = absurd (n (ap test (sym k) ∙ is))
    go more true is (inr k) = inr k
    go more false is (inl k) = inl k
    go more false is (inr k) = inr (more k)

-- what stands there is the changed one or another
pub first-parts : {X : Type 0} (test : X → Bool) (f : X → X) (xs : List X) (x z : X) → OnePasses test xs → find test xs ≡ Some x → Among (change_first test f xs) z
    → (f x ≡ z) ⊎ (Among xs z × (test z ≡ true → ⊥))
first-parts test f [] x z one h m = absurd m
first-parts test f (y ∷ xs) x z one h m = go (first-parts test f xs x z one.1) (test y) refl h m
  where
    go : (find test xs ≡ Some x → Among (change_first test f xs) z → (f x ≡ z) ⊎ (Among xs z × (test z ≡ true → ⊥))) → (b : Bool) → test y ≡ b → cond b (Some y) (find test xs) ≡ Some x
        → Among (cond b (f y ∷ xs) (y ∷ change_first test f xs)) z → (f x ≡ z) ⊎ (Among (y ∷ xs) z × (test z ≡ true → ⊥))
    go more true is e (inl k) = inl (ap f (sym (some-same y x e)) ∙ k)
    go more true is e (inr k) = inr (inr k, λ t. each-at (λ b. test y ≡ true → test b ≡ true → ⊥) xs z one.0 k is t)
    go more false is e (inl k) = inr (inl k, λ t. both-ways (sym is ∙ ap test k ∙ t))
    go more false is e (inr k) = elim (more e k) [ inl w ↦ inl w | inr w ↦ inr (inr w.0, w.1) ]

-- what stands there stood there, or is changed from what did
pub among-first : {X : Type 0} (test : X → Bool) (f : X → X) (xs : List X) (z : X) → Among (change_first test f xs) z → Among xs z ⊎ ((x : X) × Among xs x × (f x ≡ z))
among-first test f [] z m = absurd m
among-first test f (x ∷ xs) z m = go (among-first test f xs z) (test x) m
  where
    go : (Among (change_first test f xs) z → Among xs z ⊎ ((y : _) × Among xs y × (f y ≡ z))) → (b : Bool) → Among (cond b (f x ∷ xs) (x ∷ change_first test f xs)) z
        → Among (x ∷ xs) z ⊎ ((y : _) × Among (x ∷ xs) y × (f y ≡ z))
    go more true (inl e) = inr (x, inl refl, e)
    go more true (inr m) = inl (inr m)
    go more false (inl e) = inl (inl e)
    go more false (inr m) = elim (more m) [ inl k ↦ inl (inr k) | inr r ↦ inr (r.0, inr r.1, r.2) ]

-- ---- soups of one name or signature, entries of one id

pub text-same : (a b : List ℕ) → equal_text a b ≡ true → a ≡ b
text-same a b h = (bytes_eq-Decides a b).0 h

none-agrees : (name : List ℕ) (ps : List Soup) → not (list_any (equal_text name) (map (λ (p : Soup). p.name) ps)) ≡ true → Each (λ (q : Soup). equal_text name q.name ≡ true → ⊥) ps
none-agrees name [] h = tt
none-agrees name (q ∷ ps) h = go (equal_text name q.name) h (none-agrees name ps)
  where
    go : (b : Bool) → not (b || list_any (equal_text name) (map (λ (p : Soup). p.name) ps)) ≡ true
        → (not (list_any (equal_text name) (map (λ (p : Soup). p.name) ps)) ≡ true → Each (λ (q : Soup). equal_text name q.name ≡ true → ⊥) ps)
        → (b ≡ true → ⊥) × Each (λ (q : Soup). equal_text name q.name ≡ true → ⊥) ps
    go true k more = absurd (both-ways k)
    go false k more = (both-ways, more k)

names-apart : (name : List ℕ) (ps : List Soup) → all_apart equal_text (map (λ (p : Soup). p.name) ps) ≡ true → OnePasses (λ (p : Soup). equal_text p.name name) ps
names-apart name [] h = tt
names-apart name (p ∷ ps) h =
    let parts = and_parts (not (list_any (equal_text p.name) (map (λ (p : Soup). p.name) ps))) (all_apart equal_text (map (λ (p : Soup). p.name) ps)) h in (
      each-more (λ (q : Soup). equal_text p.name q.name ≡ true → ⊥) (λ (q : Soup). equal_text p.name name ≡ true → equal_text q.name name ≡ true → ⊥) ps
          (λ q apart x y. apart (rw (text-same p.name name x, text-same q.name name y) (nat_list_eq_equiv.refl name))) (none-agrees p.name ps parts.0),
      names-apart name ps parts.1,
    )

pub one-name : (name : List ℕ) (s : Store) → well_formed s ≡ true → OnePasses (λ (p : Soup). equal_text p.name name) s.soups
one-name name s w = names-apart name s.soups (is-store s w).names_apart

pub one-uid : (uid : ℕ) (p : Soup) → rises 0 p.next_uid (map (λ (e : Entry). e.uid) p.entries) ≡ true → OnePasses (λ (e : Entry). e.uid == uid) p.entries
one-uid uid p rising =
    pairs-more (λ (a b : Entry). a.uid < b.uid) (λ (a b : Entry). (a.uid == uid) ≡ true → (b.uid == uid) ≡ true → ⊥) p.entries
    (λ a b _ _ less x y. let k = eqb-true a.uid uid x in let l = eqb-true b.uid uid y in omega (arith, k, l))
    (pairs-map (λ m n. m < n) (λ (e : Entry). e.uid) p.entries (rises-pairs 0 p.next_uid (map (λ (e : Entry). e.uid) p.entries) rising))

pub one-sig-of : (sig high : ℕ) (ps : List Soup) → rises 0 high (map (λ (p : Soup). p.sig) ps) ≡ true → OnePasses (λ (p : Soup). p.sig == sig) ps
one-sig-of sig high ps rising =
    pairs-more (λ (a b : Soup). a.sig < b.sig) (λ (a b : Soup). (a.sig == sig) ≡ true → (b.sig == sig) ≡ true → ⊥) ps
    (λ a b _ _ less x y. let k = eqb-true a.sig sig x in let l = eqb-true b.sig sig y in omega (arith, k, l))
    (pairs-map (λ m n. m < n) (λ (p : Soup). p.sig) ps (rises-pairs 0 high (map (λ (p : Soup). p.sig) ps) rising))

pub one-sig : (sig : ℕ) (s : Store) → well_formed s ≡ true → OnePasses (λ (p : Soup). p.sig == sig) s.soups
one-sig sig s w = one-sig-of sig s.next_soup s.soups (is-store s w).sigs

-- a name equals itself
pub same-text : (name : List ℕ) → equal_text name name ≡ true
same-text name = nat_list_eq_equiv.refl name

-- the soup of a signature is there and has it
pub soup-there : (sig : ℕ) (s : Store) (p : Soup) → soup_of sig s ≡ Some p → (p.sig ≡ sig) × Among s.soups p
soup-there sig s p found = let r = find-passes (λ (p : Soup). p.sig == sig) s.soups p found in (eqb-true p.sig sig r.0, r.1)

-- a soup that is there is found by its signature
pub there-soup : (s : Store) (p : Soup) → well_formed s ≡ true → Among s.soups p → soup_of p.sig s ≡ Some p
there-soup s p w m = find-one (λ (q : Soup). q.sig == p.sig) s.soups p (one-sig p.sig s w) m (eq-eqb p.sig p.sig refl)

-- a soup that is there is found by its name
pub there-named : (s : Store) (p : Soup) → well_formed s ≡ true → Among s.soups p → soup_named p.name s ≡ Some p
there-named s p w m = find-one (λ (q : Soup). equal_text q.name p.name) s.soups p (one-name p.name s w) m (same-text p.name)

-- the soup found by its signature is the one found by its name
pub found_by_name : (sig : ℕ) (s : Store) (p : Soup) → well_formed s ≡ true → soup_of sig s ≡ Some p → soup_named p.name s ≡ Some p
found_by_name sig s p w found = there-named s p w (soup-there sig s p found).1

-- the soup found by its name has this name, and is the one found by its signature
pub found_by_signature : (name : List ℕ) (s : Store) (p : Soup) → well_formed s ≡ true → soup_named name s ≡ Some p → (p.name ≡ name) × (soup_of p.sig s ≡ Some p)
found_by_signature name s p w found =
    let r = find-passes (λ (p : Soup). equal_text p.name name) s.soups p found in (text-same p.name name r.0, there-soup s p w r.1)

-- a soup that is there is valid
pub soup-good : (s : Store) (p : Soup) → well_formed s ≡ true → Among s.soups p → IsSoup p
soup-good s p w m = is-soup p (each-at (λ (p : Soup). valid_soup p ≡ true) s.soups p (each-list_all valid_soup s.soups (is-store s w).soups_fit) m)

-- an entry that is there is found by its id, which is below the next one
pub there-entry : (p : Soup) (e : Entry) → IsSoup p → Among p.entries e → entry_of e.uid p ≡ Some e
there-entry p e good m = find-one (λ (d : Entry). d.uid == e.uid) p.entries e (one-uid e.uid p good.uids) m (eq-eqb e.uid e.uid refl)

pub entry-below : (p : Soup) (e : Entry) → IsSoup p → Among p.entries e → e.uid < p.next_uid
entry-below p e good m = (each-at (λ n. (0 ≤ n) × (n < p.next_uid)) (map (λ (e : Entry). e.uid) p.entries) e.uid
    (rises-above 0 p.next_uid (map (λ (e : Entry). e.uid) p.entries) good.uids) (map-among (λ (e : Entry). e.uid) p.entries e m)).1
