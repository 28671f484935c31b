-- What a change does to a store without its entries, by the signatures of its soups.
use Rattle.std.proofs.Common.{◌≡◌, refl, ap, sym, ◌∙◌, ℕ, ◌+◌, List, [], ◌∷◌, true, false, Bool, IsTrue, not, cond, Some, None, map, filter, ◌==◌}
use Rattle.std.proofs.lemmas.Bool.{eq-eqb, eqb-true}
use Rattle.std.proofs.lemmas.List.{map-append}
use Rattle.newt_base.specs.Names.{equal_text}
use Rattle.newt_graph.specs.Graph.{RawGraph}
use Rattle.newt_spec_graph.specs.Lists.{Each}
use Rattle.newt_spec_graph.proofs.Lists.{each-from, each-more, both-ways}
use Rattle.newt_spec_store.specs.Laid.{bare, bare_soup}
use Rattle.newt_spec_store.specs.Store.{Store, Soup, change_first, change_soup, make_soup, drop_soup, add_entry, remove_entry, soup_of, without_soup, uid_taken, take_uid_of}
use Rattle.newt_spec_store.specs.Valid.{well_formed}
use Rattle.newt_laws_images.proofs.Chosen.{same-text, soup-there}
use Rattle.newt_laws_changes.proofs.Members.{same-sig, same-name}
use Rattle.newt_laws_changes.proofs.Soups.{first-map}

abbrev with_soups : Store → ℕ → List Soup → Store
with_soups s next soups = record { name = s.name; sig = s.sig; next_soup = next; soups = soups }

-- filters by tests that agree
filter-map : {X Y : Type 0} (f : X → Y) (test : X → Bool) (other : Y → Bool) (xs : List X) → Each (λ x. test x ≡ other (f x)) xs → map f (filter test xs) ≡ filter other (map f xs)
filter-map f test other [] h = refl
filter-map f test other (x ∷ xs) h = go (test x) (other (f x)) h.0 (filter-map f test other xs h.1)
  where
    go : (a b : Bool) → a ≡ b → map f (filter test xs) ≡ filter other (map f xs) → map f (cond a (x ∷ filter test xs) (filter test xs)) ≡ cond b (f x ∷ filter other (map f xs)) (filter other (map f xs))
    go true true e more = ap (λ ys. f x ∷ ys) more
    go true false e more = absurd (both-ways (sym e))
    go false true e more = absurd (both-ways e)
    go false false e more = more

-- the first that passes, changed, by tests that agree
pub change-map : {X Y : Type 0} (f : X → Y) (test : X → Bool) (other : Y → Bool) (change : X → X) (changed : Y → Y) (xs : List X) → Each (λ x. test x ≡ other (f x)) xs
    → ((x : X) → f (change x) ≡ changed (f x)) → map f (change_first test change xs) ≡ change_first other changed (map f xs)
change-map f test other change changed [] h k = refl
change-map f test other change changed (x ∷ xs) h k = go (test x) (other (f x)) h.0 (change-map f test other change changed xs h.1 k)
  where
    go : (a b : Bool) → a ≡ b → map f (change_first test change xs) ≡ change_first other changed (map f xs)
        → map f (cond a (change x ∷ xs) (x ∷ change_first test change xs)) ≡ cond b (changed (f x) ∷ map f xs) (f x ∷ change_first other changed (map f xs))
    go true true e more = ap (λ y. y ∷ map f xs) (k x)
    go true false e more = absurd (both-ways (sym e))
    go false true e more = absurd (both-ways e)
    go false false e more = ap (λ ys. f x ∷ ys) more

pub bool-same : (a b : Bool) → (a ≡ true → b ≡ true) → (b ≡ true → a ≡ true) → a ≡ b
bool-same true b h k = sym (h refl)
bool-same false true h k = k refl
bool-same false false h k = refl

-- ---- the changes

pub made_bare : (name : List ℕ) (s : Store) → bare (make_soup name s) ≡ make_soup name (bare s)
made_bare name s = ap (with_soups s (s.next_soup + 1)) (map-append bare_soup s.soups (record { name = name; sig = s.next_soup; next_uid = 0; specs = []; tags = None; info = None; entries = [] } ∷ []))

pub removed_bare : (name : List ℕ) (uid : ℕ) (s : Store) → bare (change_soup name (remove_entry uid) s) ≡ bare s
removed_bare name uid s = ap (with_soups s s.next_soup) (first-map bare_soup (λ p. equal_text p.name name) (remove_entry uid) s.soups (λ p. refl))

module _ (s : Store) (sig : ℕ) (p : Soup) (w : IsTrue (well_formed s)) (found : soup_of sig s ≡ Some p) where
  tests-same : Each (λ (q : Soup). equal_text q.name p.name ≡ ((bare_soup q).sig == sig)) s.soups
  tests-same = each-from (λ (q : Soup). equal_text q.name p.name ≡ (q.sig == sig)) s.soups (λ q m. bool-same (equal_text q.name p.name) (q.sig == sig)
      (λ h. eq-eqb q.sig sig (ap (λ (r : Soup). r.sig) (same-name s sig p w found q m h) ∙ (soup-there sig s p found).0))
      (λ h. ap (λ (r : Soup). equal_text r.name p.name) (same-sig s sig p w found q m (eqb-true q.sig sig h)) ∙ same-text p.name))

  nots-same : Each (λ (q : Soup). not (equal_text q.name p.name) ≡ not ((bare_soup q).sig == sig)) s.soups
  nots-same = each-more _ _ s.soups (λ q h. ap not h) tests-same

  pub dropped_bare : bare (drop_soup p.name s) ≡ without_soup sig (bare s)
  dropped_bare = ap (with_soups s s.next_soup) (filter-map bare_soup (λ q. not (equal_text q.name p.name)) (λ q. not (q.sig == sig)) s.soups nots-same)

  pub added_bare : (now : ℕ) (g : RawGraph) → bare (change_soup p.name (add_entry now g) s) ≡ take_uid_of sig (bare s)
  added_bare now g = ap (with_soups s s.next_soup)
      (change-map bare_soup (λ q. equal_text q.name p.name) (λ q. q.sig == sig) (add_entry now g) uid_taken s.soups tests-same (λ q. refl))
