-- What the directory says of a store when one soup changes.
use Rattle.std.proofs.Common.{◌≡◌, refl, ap, ◌∙◌, ℕ, List, [], ◌∷◌, ◌++◌, true, false, Bool, cond, flat_map, length}
use Rattle.newt_base.specs.Text.{be16, be32}
use Rattle.newt_base.specs.Names.{equal_text}
use Rattle.newt_spec_store.specs.Cost.{directory_bytes, soup_bytes, text_bytes, counted}
use Rattle.newt_spec_store.specs.Store.{Store, Soup, change_first, change_soup, remove_entry}
use Rattle.newt_laws_changes.proofs.Soups.{first-length}

first-flat : {X : Type 0} (g : X → List ℕ) (test : X → Bool) (change : X → X) (xs : List X) → ((x : X) → g (change x) ≡ g x) → flat_map g (change_first test change xs) ≡ flat_map g xs
first-flat g test change [] h = refl
first-flat g test change (x ∷ xs) h = go (first-flat g test change xs h) (test x)
  where
    go : flat_map g (change_first test change xs) ≡ flat_map g xs → (b : Bool) → flat_map g (cond b (change x ∷ xs) (x ∷ change_first test change xs)) ≡ flat_map g (x ∷ xs)
    go more true = ap (λ y. y ++ flat_map g xs) (h x)
    go more false = ap (λ ys. g x ++ ys) more

first-counted : {X : Type 0} (g : X → List ℕ) (test : X → Bool) (change : X → X) (xs : List X) → ((x : X) → g (change x) ≡ g x) → counted g (change_first test change xs) ≡ counted g xs
first-counted g test change xs h = ap (λ n. n ∷ flat_map g (change_first test change xs)) (first-length test change xs) ∙ ap (λ ys. length xs ∷ ys) (first-flat g test change xs h)

-- a change of a soup of which the directory says the same
pub same-directory : (name : List ℕ) (f : Soup → Soup) (s : Store) → ((p : Soup) → soup_bytes (f p) ≡ soup_bytes p) → directory_bytes (change_soup name f s) ≡ directory_bytes s
same-directory name f s h = ap (λ soups. text_bytes s.name ++ be32 s.sig ++ be16 s.next_soup ++ soups) (first-counted soup_bytes (λ (p : Soup). equal_text p.name name) f s.soups h)

-- the directory does not show that an entry is removed
pub removed-directory : (name : List ℕ) (uid : ℕ) (s : Store) → directory_bytes (change_soup name (remove_entry uid) s) ≡ directory_bytes s
removed-directory name uid s = same-directory name (remove_entry uid) s (λ p. refl)
