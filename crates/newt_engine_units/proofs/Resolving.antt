-- Where the entry of an alias is.
use Rattle.std.proofs.Common.{◌≡◌, refl, ap, sym, ◌∙◌, ℕ, List, [], ◌∷◌, Bool, true, false, cond, map, find, Option, Some, None, option_map, option_and_then, ◌==◌}
use Rattle.std.specs.Prelude.{is_some}
use Rattle.std.proofs.lemmas.Bool.{eqb-true}
use Rattle.newt_spec_graph.proofs.Lists.{some-same, none-some, both-ways}
use Rattle.newt_spec_store.specs.Laid.{bare, bare_soup}
use Rattle.newt_spec_store.specs.Store.{Store, Soup, Entry, entry_of, soup_of, entry_at}
use Rattle.newt_spec_world.specs.Alias.{Alias, resolved}
use Rattle.newt_spec_world.specs.Reply.{Reply}
use Rattle.newt_spec_world.specs.World.{World, mounted_store}
use Rattle.newt_laws_world.proofs.Settled.{find-passes}
use Rattle.newt_laws_answers.specs.Faces.{faces, shows, first_showing}
use Rattle.newt_laws_answers.proofs.Faces.{find-none, find-found}
use Rattle.newt_engine_units.specs.declared.units.Slot.{Slot}
use Rattle.newt_engine_units.specs.Faces.{card_face, card_faces}
use Rattle.newt_engine_units.specs.Spots.{spot_in, spot_reply}
use Rattle.newt_engine_units.specs.Stands.{card_at}
use Rattle.newt_engine_units.proofs.Shown.{position-passes}

-- ---- the unit that shows a signature

-- a card is there
pub showing-card : {C : Type 0} (soups : C → Store) (slots : List (Slot C)) (sig u : ℕ) → first_showing sig (card_faces soups slots) ≡ Some u → (card : C) × (card_at slots u ≡ Some card)
showing-card soups slots sig u h = go (card_at slots u) refl (position-passes (shows sig) (λ u. card_face soups (card_at slots u)) 0 8 u h)
  where
    go : (c : Option _) → card_at slots u ≡ c → shows sig (card_face soups c) ≡ true → (card : _) × (card_at slots u ≡ Some card)
    go None e x = absurd (both-ways x)
    go (Some card) e x = (card, e)

-- ---- what is resolved

pub resolved-none : (w : World) (a : Alias) → first_showing a.store (faces w) ≡ None → resolved w a ≡ None
resolved-none w a h = ap (option_and_then (λ (m : ℕ × Store). spot_in m.0 a.soup a.uid m.1)) (find-none w a.store h)

pub resolved-there : (w : World) (a : Alias) (u : ℕ) (s : Store) → first_showing a.store (faces w) ≡ Some u → mounted_store w u ≡ Some s → resolved w a ≡ spot_in u a.soup a.uid s
resolved-there w a u s h k = ap (option_and_then (λ (m : ℕ × Store). spot_in m.0 a.soup a.uid m.1)) (find-found w a.store u s h k)

-- ---- the reply

module _ (u soup uid : ℕ) (s : Store) where
  pub spot-gone : is_some (entry_at soup uid s) ≡ false → spot_reply (spot_in u soup uid s) ≡ Reply.nil
  spot-gone h = go (soup_of soup s) h
    where
      entry : (p : Soup) (o : Option Entry) → is_some o ≡ false → spot_reply (option_map (λ e. record { unit = u; soup = p; entry = e }) o) ≡ Reply.nil
      entry p None h = refl
      entry p (Some e) h = absurd (both-ways (sym h))

      go : (o : Option Soup) → is_some (option_and_then (entry_of uid) o) ≡ false → spot_reply (option_and_then (λ p. option_map (λ e. record { unit = u; soup = p; entry = e }) (entry_of uid p)) o) ≡ Reply.nil
      go None h = refl
      go (Some p) h = entry p (entry_of uid p) h

  pub spot-there : (name : List ℕ) → option_map (λ p. p.name) (soup_of soup s) ≡ Some name → is_some (entry_at soup uid s) ≡ true → spot_reply (spot_in u soup uid s) ≡ Reply.where_is u name uid
  spot-there name named h = go (soup_of soup s) named h
    where
      entry : (p : Soup) → p.name ≡ name → (o : Option Entry) → entry_of uid p ≡ o → is_some o ≡ true → spot_reply (option_map (λ e. record { unit = u; soup = p; entry = e }) o) ≡ Reply.where_is u name uid
      entry p is None e h = absurd (both-ways h)
      entry p is (Some x) e h =
          ap {B = Reply} (λ n. Reply.where_is u n x.uid) is ∙ ap {B = Reply} (λ n. Reply.where_is u name n) (eqb-true x.uid uid (find-passes (λ (y : Entry). y.uid == uid) p.entries x e).0)

      go : (o : Option Soup) → option_map (λ p. p.name) o ≡ Some name → is_some (option_and_then (entry_of uid) o) ≡ true
          → spot_reply (option_and_then (λ p. option_map (λ e. record { unit = u; soup = p; entry = e }) (entry_of uid p)) o) ≡ Reply.where_is u name uid
      go None n h = absurd (none-some name n)
      go (Some p) n h = entry p (some-same p.name name n) (entry_of uid p) refl h

-- ---- the soups of a card

bare-of : (sig : ℕ) (ps : List Soup) → option_map (λ p. p.name) (find (λ p. p.sig == sig) (map bare_soup ps)) ≡ option_map (λ p. p.name) (find (λ p. p.sig == sig) ps)
bare-of sig [] = refl
bare-of sig (p ∷ ps) = go (p.sig == sig) (bare-of sig ps)
  where
    go : (b : Bool) → option_map (λ p. p.name) (find (λ p. p.sig == sig) (map bare_soup ps)) ≡ option_map (λ p. p.name) (find (λ p. p.sig == sig) ps)
        → option_map (λ p. p.name) (cond b (Some (bare_soup p)) (find (λ p. p.sig == sig) (map bare_soup ps))) ≡ option_map (λ p. p.name) (cond b (Some p) (find (λ p. p.sig == sig) ps))
    go true h = refl
    go false h = h

-- the name of a soup is known
pub name-known : (sig : ℕ) (s t : Store) → bare s ≡ t → option_map (λ p. p.name) (soup_of sig t) ≡ option_map (λ p. p.name) (soup_of sig s)
name-known sig s t known = ap (λ (t : Store). option_map (λ (p : Soup). p.name) (soup_of sig t)) (sym known) ∙ bare-of sig s.soups

-- no such soup, so no such entry
pub no-soup-entry : (sig uid : ℕ) (s : Store) → option_map (λ p. p.name) (soup_of sig s) ≡ None → is_some (entry_at sig uid s) ≡ false
no-soup-entry sig uid s h = go (soup_of sig s) h
  where
    go : (o : Option Soup) → option_map (λ p. p.name) o ≡ None → is_some (option_and_then (entry_of uid) o) ≡ false
    go None h = refl
    go (Some p) h = absurd (none-some p.name (sym h))
