-- What is found in a directory, and in the store that it is of.
use Rattle.std.proofs.Common.{◌≡◌, ℕ, ◌==◌, Bool, true, false, cond, List, [], ◌∷◌, map, length, Option, Some, None, refl, sym, ◌∙◌, ap}
use Rattle.std.specs.List.{find}
use Rattle.std.specs.Option.{is_some, option_map, option_and_then}
use Rattle.newt_base.specs.Names.{equal_text}
use Rattle.newt_spec_image.specs.Objects.{Objects}
use Rattle.newt_spec_store.specs.Laid.{bare_soup as emptied}
use Rattle.newt_spec_store.specs.Store.{Soup, Store, Entry, soup_named, entry_of, soup_of, entry_at}
use Rattle.newt_spec_store.specs.Lies.{Places, IsIn}
use Rattle.newt_soupdir.specs.Bare.{bare_soup, bare_store}
use Rattle.newt_soupdir.specs.declared.rows.Directory.{Directory}
use Rattle.newt_laws_images.proofs.Made.{map-length}
use Rattle.newt_laws_changes.proofs.Members.{entry_is_in, is_in_found}
use Rattle.newt_laws_changes.proofs.Places.{place-there}
use Rattle.newt_laws_changes.specs.Written.{Names}
use Rattle.newt_store_catalog.specs.Stands.{Describes}

find-emptied : (test : Soup → Bool) → ((p : Soup) → test (emptied p) ≡ test p) → (soups : List Soup) → find test (map emptied soups) ≡ option_map emptied (find test soups)
find-emptied test same [] = refl
find-emptied test same (p ∷ soups) = by (test (emptied p)) (test p) (same p) (find-emptied test same soups) where
  by : (a b : Bool) → a ≡ b → find test (map emptied soups) ≡ option_map emptied (find test soups)
      → cond a (Some (emptied p)) (find test (map emptied soups)) ≡ option_map emptied (cond b (Some p) (find test soups))
  by true true e more = refl
  by true false e more = absurd (cc)
  by false true e more = absurd (cc)
  by false false e more = more

pub some-emptied : (o : Option Soup) → is_some (option_map emptied o) ≡ is_some o
some-emptied None = refl
some-emptied (Some p) = refl

pub emptied-some : (o : Option Soup) (q : Soup) → option_map emptied o ≡ Some q → (p : Soup) × (o ≡ Some p) × (emptied p ≡ q)
emptied-some None q e = absurd (let isnt : None ≡ Some q = e in cc)
emptied-some (Some p) q e = (p, refl, cc)

module _ (directory : Directory) (place : Places) (names : Names) (texts : Objects) (s : Store) (d : Describes directory place names texts s) where
  pub named-same : (name : List ℕ) → soup_named name (bare_store directory) ≡ option_map emptied (soup_named name s)
  named-same name = ap (soup_named name) (sym d.bare_is) ∙ find-emptied (λ p. equal_text p.name name) (λ p. refl) s.soups

  pub soup-same : (sig : ℕ) → soup_of sig (bare_store directory) ≡ option_map emptied (soup_of sig s)
  soup-same sig = ap (soup_of sig) (sym d.bare_is) ∙ find-emptied (λ p. p.sig == sig) (λ p. refl) s.soups

  pub named-some : (name : List ℕ) → is_some (soup_named name s) ≡ is_some (soup_named name (bare_store directory))
  named-some name = sym (some-emptied (soup_named name s)) ∙ ap is_some (sym (named-same name))

  pub soup-some : (sig : ℕ) → is_some (soup_of sig s) ≡ is_some (soup_of sig (bare_store directory))
  soup-some sig = sym (some-emptied (soup_of sig s)) ∙ ap is_some (sym (soup-same sig))

  pub as-many : length s.soups ≡ length directory.soups
  as-many = sym (map-length emptied s.soups) ∙ ap (λ (t : Store). length t.soups) d.bare_is ∙ map-length bare_soup directory.soups

  pub next-same : s.next_soup ≡ directory.next_soup
  next-same = ap (λ (t : Store). t.next_soup) d.bare_is

  -- an entry that is there has a place, and one that is not has none
  pub placed-entry : (sig uid id : ℕ) → place sig uid ≡ Some id → (e : Entry) × (entry_at sig uid s ≡ Some e) × IsIn s sig e × (e.uid ≡ uid)
  placed-entry sig uid id at =
      let w = place-there texts place s sig uid id d.lies at in
      let f = is_in_found sig s w.0 d.formed w.1 in
      (w.0, ap (λ (o : Option Soup). option_and_then (entry_of uid) o) f.1 ∙ ap (λ (u : ℕ). entry_of u f.0) (sym w.2) ∙ f.2, w.1, w.2)

  pub entry-placed : (sig uid : ℕ) (e : Entry) → entry_at sig uid s ≡ Some e → (p : Soup) × (soup_of sig s ≡ Some p) × (entry_of uid p ≡ Some e) × IsIn s sig e × (e.uid ≡ uid) × (id : ℕ) × (place sig uid ≡ Some id)
  entry-placed sig uid e there = cases (soup_of sig s) refl there where
    cases : (o : Option Soup) → soup_of sig s ≡ o → option_and_then (entry_of uid) o ≡ Some e → (p : Soup) × (soup_of sig s ≡ Some p) × (entry_of uid p ≡ Some e) × IsIn s sig e × (e.uid ≡ uid) × (id : ℕ) × (place sig uid ≡ Some id)
    cases None o is = absurd (let isnt : None ≡ Some e = is in cc)
    cases (Some p) o is =
        let w = entry_is_in sig uid s p e o is in
        let r = d.lies.records sig e w.0 in
        (p, o, is, w.0, w.1, r.0, ap (place sig) (sym w.1) ∙ r.1)
