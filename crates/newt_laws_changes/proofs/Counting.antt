-- What a store costs after a change, from what it cost before.
use Rattle.std.proofs.Common.{arith, ◌≡◌, refl, ap, sym, ◌∙◌, subst, ℕ, ◌+◌, List, [], ◌∷◌, ◌++◌, true, false, Bool, not, cond, Some, None, filter, length, find, sum_by, ◌==◌}
use Rattle.std.specs.Prelude.{slice_get}
use Rattle.newt_base.specs.Names.{equal_text}
use Rattle.newt_graph.specs.declared.node.Node.TheVariants.{Large}
use Rattle.newt_graph.specs.Graph.{RawGraph}
use Rattle.newt_spec_graph.specs.Lists.{Each}
use Rattle.newt_spec_graph.proofs.Lists.{each-at, each-from, some-same, none-some}
use Rattle.newt_spec_store.specs.Store.{Store, Soup, Entry, change_first, change_soup, change_entry, make_soup, drop_soup, add_entry, remove_entry, entry_of, soup_named}
use Rattle.newt_spec_image.specs.Objects.{pages_for}
use Rattle.newt_spec_store.specs.Cost.{cost, directory_bytes, soup_bytes, entry_pages, soup_pages}
use Rattle.newt_spec_store.specs.Valid.{well_formed, valid_soup}
use Rattle.newt_laws_images.proofs.Stores.{is-store, is-soup}
use Rattle.newt_laws_images.proofs.Chosen.{OnePasses, one-uid, one-name}
use Rattle.newt_laws_images.proofs.Totals.{total, sum-total}
use Rattle.newt_laws_changes.proofs.Costs.{cost-total, soup-length, directory-length}
use Rattle.newt_laws_changes.proofs.Patched.{with_patch, patched-pages}
use Rattle.newt_laws_changes.proofs.Soups.{found-good}

-- ---- sums

-- the first that passes, changed
total-change : {X : Type 0} (f : X → ℕ) (test : X → Bool) (change : X → X) (xs : List X) (x : X) → find test xs ≡ Some x
    → total f (change_first test change xs) + f x ≡ total f xs + f (change x)
unfolding total
total-change f test change [] x h = absurd (none-some x h)
total-change f test change (y ∷ xs) x h = go (total-change f test change xs x) (test y) h
  where
    go : (find test xs ≡ Some x → total f (change_first test change xs) + f x ≡ total f xs + f (change x)) → (b : Bool) → cond b (Some y) (find test xs) ≡ Some x
        → total f (cond b (change y ∷ xs) (y ∷ change_first test change xs)) + f x ≡ (f y + total f xs) + f (change x)
    go more true e = subst (λ z. (f (change y) + total f xs) + f z ≡ (f y + total f xs) + f (change z)) (some-same y x e) (omega arith)
    go more false e = let k = more e in omega (arith, k)

none-passes : {X : Type 0} (f : X → ℕ) (test : X → Bool) (xs : List X) → Each (λ b. test b ≡ true → ⊥) xs → total f (filter (λ x. not (test x)) xs) ≡ total f xs
unfolding total
none-passes f test [] h = refl
none-passes f test (x ∷ xs) h = go (none-passes f test xs h.1) (test x) refl
  where
    go : total f (filter (λ x. not (test x)) xs) ≡ total f xs → (b : Bool) → test x ≡ b
        → total f (cond (not b) (x ∷ filter (λ x. not (test x)) xs) (filter (λ x. not (test x)) xs)) ≡ f x + total f xs
    go more true e = absurd (h.0 e)
    go more false e = ap (λ n. f x + n) more

-- the one that passes, left out
total-without : {X : Type 0} (f : X → ℕ) (test : X → Bool) (xs : List X) (x : X) → OnePasses test xs → find test xs ≡ Some x
    → total f (filter (λ y. not (test y)) xs) + f x ≡ total f xs
unfolding total
total-without f test [] x one h = absurd (none-some x h)
total-without f test (y ∷ xs) x one h = go (total-without f test xs x one.1) (test y) refl h
  where
    go : (find test xs ≡ Some x → total f (filter (λ y. not (test y)) xs) + f x ≡ total f xs) → (b : Bool) → test y ≡ b → cond b (Some y) (find test xs) ≡ Some x
        → total f (cond (not b) (y ∷ filter (λ y. not (test y)) xs) (filter (λ y. not (test y)) xs)) + f x ≡ f y + total f xs
    go more true is e =
        let rest = none-passes f test xs (each-from (λ b. test b ≡ true → ⊥) xs (λ z here. each-at (λ b. test y ≡ true → test b ≡ true → ⊥) xs z one.0 here is)) in
        let same = ap f (some-same y x e) in
        omega (arith, rest, same)
    go more false is e = let k = more e in omega (arith, k)

total-push : {X : Type 0} (f : X → ℕ) (xs : List X) (x : X) → total f (xs ++ x ∷ []) ≡ total f xs + f x
unfolding total
total-push f [] x = omega arith
total-push f (y ∷ xs) x = let k = total-push f xs x in omega (arith, k)

-- ---- entries of a soup

pages-total : (p : Soup) → soup_pages p ≡ total entry_pages p.entries
pages-total p = sum-total entry_pages p.entries

pub soup-added : (time : ℕ) (graph : RawGraph) (p : Soup) → soup_pages (add_entry time graph p) ≡ soup_pages p + entry_pages (record { uid = p.next_uid; time = time; graph = graph })
soup-added time graph p =
    pages-total (add_entry time graph p) ∙ total-push entry_pages p.entries (record { uid = p.next_uid; time = time; graph = graph })
    ∙ ap (λ n. n + entry_pages (record { uid = p.next_uid; time = time; graph = graph })) (sym (pages-total p))

pub soup-replaced : (uid : ℕ) (change : Entry → Entry) (p : Soup) (e : Entry) → entry_of uid p ≡ Some e
    → soup_pages (change_entry uid change p) + entry_pages e ≡ soup_pages p + entry_pages (change e)
soup-replaced uid change p e found =
    let k = total-change entry_pages (λ (e : Entry). e.uid == uid) change p.entries e found in
    let a = pages-total (change_entry uid change p) in
    let b = pages-total p in
    omega (arith, k, a, b)

pub soup-removed : (uid : ℕ) (p : Soup) (e : Entry) → valid_soup p ≡ true → entry_of uid p ≡ Some e → soup_pages (remove_entry uid p) + entry_pages e ≡ soup_pages p
soup-removed uid p e good found =
    let k = total-without entry_pages (λ (e : Entry). e.uid == uid) p.entries e (one-uid uid p (is-soup p good).uids) found in
    let a = pages-total (remove_entry uid p) in
    let b = pages-total p in
    omega (arith, k, a, b)

-- ---- soups of a store

pub soup-changed : (name : List ℕ) (change : Soup → Soup) (s : Store) (p : Soup) → soup_named name s ≡ Some p
    → total soup_pages (change_soup name change s).soups + soup_pages p ≡ total soup_pages s.soups + soup_pages (change p)
soup-changed name change s p found = total-change soup_pages (λ (p : Soup). equal_text p.name name) change s.soups p found

-- a change of a soup that keeps the length of what the directory says of it
pub directory-kept : (name : List ℕ) (change : Soup → Soup) (s : Store) (p : Soup) → soup_named name s ≡ Some p → length (soup_bytes (change p)) ≡ length (soup_bytes p)
    → length (directory_bytes (change_soup name change s)) ≡ length (directory_bytes s)
directory-kept name change s p found same =
    let k = total-change (λ (p : Soup). length (soup_bytes p)) (λ (p : Soup). equal_text p.name name) change s.soups p found in
    let a = directory-length (change_soup name change s) in
    let b = directory-length s in
    omega (arith, k, a, b, same)

-- ---- what a store costs

-- an entry more
pub cost-added : (name : List ℕ) (time : ℕ) (graph : RawGraph) (s : Store) (p : Soup) → soup_named name s ≡ Some p
    → cost (change_soup name (add_entry time graph) s) ≡ cost s + entry_pages (record { uid = p.next_uid; time = time; graph = graph })
cost-added name time graph s p found =
    let more = soup-changed name (add_entry time graph) s p found in
    let one = soup-added time graph p in
    let same = ap pages_for (directory-kept name (add_entry time graph) s p found (soup-length (add_entry time graph p) ∙ sym (soup-length p))) in
    let a = cost-total (change_soup name (add_entry time graph) s) in
    let b = cost-total s in
    omega (arith, more, one, same, a, b)

-- an entry in place of another
pub cost-replaced : (name : List ℕ) (uid : ℕ) (change : Entry → Entry) (s : Store) (p : Soup) (e : Entry) → soup_named name s ≡ Some p → entry_of uid p ≡ Some e
    → cost (change_soup name (change_entry uid change) s) + entry_pages e ≡ cost s + entry_pages (change e)
cost-replaced name uid change s p e found there =
    let more = soup-changed name (change_entry uid change) s p found in
    let one = soup-replaced uid change p e there in
    let same = ap pages_for (directory-kept name (change_entry uid change) s p found (soup-length (change_entry uid change p) ∙ sym (soup-length p))) in
    let a = cost-total (change_soup name (change_entry uid change) s) in
    let b = cost-total s in
    omega (arith, more, one, same, a, b)

-- other bytes, as many, in an entry's large binary
pub cost-patched : (name : List ℕ) (uid node class : ℕ) (old bytes : List ℕ) (change : Entry → Entry) (s : Store) (p : Soup) (e : Entry) → soup_named name s ≡ Some p → entry_of uid p ≡ Some e
    → slice_get e.graph.nodes node ≡ Some (Large class old) → length bytes ≡ length old → change e ≡ with_patch e node bytes
    → cost (change_soup name (change_entry uid change) s) ≡ cost s
cost-patched name uid node class old bytes change s p e found there large as_many changes =
    let k = cost-replaced name uid change s p e found there in
    let same = ap entry_pages changes ∙ patched-pages e node class old bytes large as_many in
    omega (arith, k, same)

-- an entry less
pub cost-removed : (name : List ℕ) (uid : ℕ) (s : Store) (p : Soup) (e : Entry) → well_formed s ≡ true → soup_named name s ≡ Some p → entry_of uid p ≡ Some e
    → cost (change_soup name (remove_entry uid) s) + entry_pages e ≡ cost s
cost-removed name uid s p e w found there =
    let more = soup-changed name (remove_entry uid) s p found in
    let one = soup-removed uid p e (found-good valid_soup (λ (p : Soup). equal_text p.name name) s.soups p (is-store s w).soups_fit found) there in
    let same = ap pages_for (directory-kept name (remove_entry uid) s p found (soup-length (remove_entry uid p) ∙ sym (soup-length p))) in
    let a = cost-total (change_soup name (remove_entry uid) s) in
    let b = cost-total s in
    omega (arith, more, one, same, a, b)

-- another declaration in a soup
pub cost-declared : (name : List ℕ) (change : Soup → Soup) (s : Store) (p : Soup) → soup_named name s ≡ Some p → (change p).entries ≡ p.entries
    → cost (change_soup name change s) + pages_for (length (directory_bytes s)) ≡ cost s + pages_for (length (directory_bytes (change_soup name change s)))
cost-declared name change s p found same =
    let more = soup-changed name change s p found in
    let kept = ap (λ (es : List Entry). sum_by entry_pages es) same in
    let a = cost-total (change_soup name change s) in
    let b = cost-total s in
    omega (arith, more, kept, a, b)

-- a soup more
pub cost-made : (name : List ℕ) (s : Store) → cost (make_soup name s) + pages_for (length (directory_bytes s)) ≡ cost s + pages_for (length (directory_bytes (make_soup name s)))
cost-made name s =
    let none = total-push soup_pages s.soups (record { name = name; sig = s.next_soup; next_uid = 0; specs = []; tags = None; info = None; entries = [] }) in
    let a = cost-total (make_soup name s) in
    let b = cost-total s in
    omega (arith, none, a, b)

-- a soup less
pub cost-dropped : (name : List ℕ) (s : Store) (p : Soup) → well_formed s ≡ true → soup_named name s ≡ Some p
    → cost (drop_soup name s) + soup_pages p + pages_for (length (directory_bytes s)) ≡ cost s + pages_for (length (directory_bytes (drop_soup name s)))
cost-dropped name s p w found =
    let less = total-without soup_pages (λ (p : Soup). equal_text p.name name) s.soups p (one-name name s w) found in
    let a = cost-total (drop_soup name s) in
    let b = cost-total s in
    omega (arith, less, a, b)
