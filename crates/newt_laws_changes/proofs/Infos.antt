-- The info frames of a changed store are in normal form.
use Rattle.std.proofs.Common.{◌≡◌, ap, sym, ◌∙◌, List, [], ◌∷◌, IsTrue, true, not, Some, None, ◌⊎◌, inl, inr, ℕ}
use Rattle.newt_base.specs.Names.{equal_text}
use Rattle.newt_graph.specs.Graph.{RawGraph, IsGraph}
use Rattle.newt_spec_graph.specs.Lists.{Among}
use Rattle.newt_spec_graph.proofs.Lists.{among-append, among-filter, none-some}
use Rattle.newt_spec_store.specs.Store.{Store, Soup, change_soup, make_soup, drop_soup, soup_of}
use Rattle.newt_spec_store.specs.Valid.{well_formed}
use Rattle.newt_laws_images.proofs.Chosen.{among-first, first-parts, one-name, found_by_name}

abbrev pub AreNormal : Store → Type 0
AreNormal s = (p : Soup) (g : RawGraph) → Among s.soups p → p.info ≡ Some g → IsGraph g

-- a soup that keeps its info frame
pub changed-infos : (name : List ℕ) (f : Soup → Soup) (s : Store) → ((p : Soup) → (f p).info ≡ p.info) → AreNormal s → AreNormal (change_soup name f s)
changed-infos name f s keeps h p g m e = go (among-first (λ (q : Soup). equal_text q.name name) f s.soups p m)
  where
    go : Among s.soups p ⊎ ((q : Soup) × Among s.soups q × (f q ≡ p)) → IsGraph g
    go (inl n) = h p g n e
    go (inr r) = h r.0 g r.1 (sym (keeps r.0) ∙ ap (λ (q : Soup). q.info) r.2 ∙ e)

-- a soup that gets another
pub declared-infos : (s : Store) (sig : ℕ) (p : Soup) → IsTrue (well_formed s) → soup_of sig s ≡ Some p → (f : Soup → Soup)
    → ((g : RawGraph) → (f p).info ≡ Some g → IsGraph g) → AreNormal s → AreNormal (change_soup p.name f s)
declared-infos s sig p w found f fits h q g m e = go (first-parts (λ (r : Soup). equal_text r.name p.name) f s.soups p q (one-name p.name s w) (found_by_name sig s p w found) m)
  where
    go : (f p ≡ q) ⊎ (Among s.soups q × (equal_text q.name p.name ≡ true → ⊥)) → IsGraph g
    go (inl k) = fits g (ap (λ (r : Soup). r.info) k ∙ e)
    go (inr k) = h q g k.0 e

pub dropped-infos : (name : List ℕ) (s : Store) → AreNormal s → AreNormal (drop_soup name s)
dropped-infos name s h p g m e = h p g (among-filter (λ (q : Soup). not (equal_text q.name name)) s.soups p m).0 e

pub made-infos : (name : List ℕ) (s : Store) → AreNormal s → AreNormal (make_soup name s)
made-infos name s h p g m e = go (among-append s.soups _ p m)
  where
    go : Among s.soups p ⊎ Among (record { name = name; sig = s.next_soup; next_uid = 0; specs = []; tags = None; info = None; entries = [] } ∷ []) p → IsGraph g
    go (inl n) = h p g n e
    go (inr (inl k)) = absurd (none-some g (ap (λ (r : Soup). r.info) k ∙ e))
    go (inr (inr n)) = absurd n
