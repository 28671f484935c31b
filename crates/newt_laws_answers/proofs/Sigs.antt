-- A soup that is found by its name is found by its signature.
use Rattle.std.proofs.Common.{◌≡◌, refl, ap, ◌∙◌, ℕ, List, true, find, Some, ◌==◌}
use Rattle.std.proofs.lemmas.Bool.{eq-eqb, eqb-true}
use Rattle.std.proofs.lemmas.Slice.Eq.{bytes_eq-Decides}
use Rattle.newt_base.specs.Names.{equal_text}
use Rattle.newt_spec_graph.specs.Lists.{Among}
use Rattle.newt_spec_store.specs.Store.{Store, Soup, soup_named}
use Rattle.newt_spec_store.specs.Valid.{well_formed}
use Rattle.newt_laws_images.proofs.Assembled.{one-sig}
use Rattle.newt_laws_images.proofs.Placed.{soups-rise}
use Rattle.newt_laws_world.proofs.Settled.{find-passes, find-some}

-- it has that name
pub named-name : (s : Store) (name : List ℕ) (p : Soup) → soup_named name s ≡ Some p → p.name ≡ name
named-name s name p found = (bytes_eq-Decides p.name name).0 (find-passes (λ (q : Soup). equal_text q.name name) s.soups p found).0

pub soup-of-sig : (s : Store) (name : List ℕ) (p : Soup) → well_formed s ≡ true → soup_named name s ≡ Some p → find (λ q. q.sig == p.sig) s.soups ≡ Some p
soup-of-sig s name p ok found =
    let among : Among s.soups p = (find-passes (λ (q : Soup). equal_text q.name name) s.soups p found).1 in
    let r = find-some (λ (q : Soup). q.sig == p.sig) s.soups p among (eq-eqb p.sig p.sig refl) in
    let f = find-passes (λ (q : Soup). q.sig == p.sig) s.soups r.0 r.1 in
    r.1 ∙ ap Some (one-sig s.soups r.0 p (soups-rise s ok) f.1 among (eqb-true r.0.sig p.sig f.0))
