-- What is removed is gone.
use Rattle.std.proofs.Common.{◌≡◌, refl, ap, sym, ◌∙◌, subst, ℕ, ◌<◌, ◌≤◌, List, true, not, Some, map, ◌==◌}
use Rattle.std.proofs.lemmas.Bool.{eq-eqb}
use Rattle.newt_base.specs.Names.{equal_text}
use Rattle.newt_spec_store.specs.Store.{Store, Soup, Entry, soup_named, change_soup, remove_entry, drop_soup}
use Rattle.newt_spec_store.specs.Valid.{well_formed, valid_soup}
use Rattle.newt_spec_graph.specs.Lists.{Among}
use Rattle.newt_laws_changes.specs.Later.{EntryGone, SoupGone}
use Rattle.newt_laws_images.proofs.Chosen.{find-passes, first-among}
use Rattle.newt_spec_graph.proofs.Lists.{each-at, each-list_all, among-filter, rises-above}
use Rattle.newt_laws_changes.proofs.Members.{not-itself}
use Rattle.newt_laws_world.proofs.Soups.{is-store, IsSoup, is-soup, with-soup, without-entry}
use Rattle.newt_laws_images.proofs.Assembled.{map-among, one-sig}
use Rattle.newt_laws_images.proofs.Placed.{soups-rise}

sig-given : (s : Store) (p : Soup) → well_formed s ≡ true → Among s.soups p → p.sig < s.next_soup
sig-given s p w m = (each-at (λ n. (0 ≤ n) × (n < s.next_soup)) (map (λ (p : Soup). p.sig) s.soups) p.sig
    (rises-above 0 s.next_soup (map (λ (p : Soup). p.sig) s.soups) (is-store s w).sigs) (map-among (λ (p : Soup). p.sig) s.soups p m)).1

pub removed-gone : (s : Store) (name : List ℕ) (p : Soup) (e : Entry) → well_formed s ≡ true → soup_named name s ≡ Some p → Among p.entries e → EntryGone p.sig e.uid (change_soup name (remove_entry e.uid) s)
removed-gone s name p e w found here = record {
  sig_given = sig-given s p w among;
  uid_given = λ q m is. subst (λ (r : Soup). e.uid < r.next_uid) (sym (same q m is)) below;
  not_there = λ q x m is n at.
      let f = among-filter (λ (x : Entry). not (x.uid == e.uid)) p.entries x (subst (λ (r : Soup). Among r.entries x) (same q m is) n) in
      not-itself (x.uid == e.uid) f.1 (eq-eqb x.uid e.uid at);
}
  where
    among : Among s.soups p
    among = (find-passes (λ (p : Soup). equal_text p.name name) s.soups p found).1

    good : IsSoup p
    good = is-soup p (each-at (λ (p : Soup). valid_soup p ≡ true) s.soups p (each-list_all valid_soup s.soups (is-store s w).soups_fit) among)

    below : e.uid < p.next_uid
    below = (each-at (λ n. (0 ≤ n) × (n < p.next_uid)) (map (λ (e : Entry). e.uid) p.entries) e.uid (rises-above 0 p.next_uid (map (λ (e : Entry). e.uid) p.entries) good.uids) (map-among (λ (e : Entry). e.uid) p.entries e here)).1

    after : well_formed (change_soup name (remove_entry e.uid) s) ≡ true
    after = with-soup name (remove_entry e.uid) s w (λ p. refl) (λ p. refl) (λ p _ ok. without-entry e.uid p ok)

    same : (q : Soup) → Among (change_soup name (remove_entry e.uid) s).soups q → q.sig ≡ p.sig → q ≡ remove_entry e.uid p
    same q m is = one-sig (change_soup name (remove_entry e.uid) s).soups q (remove_entry e.uid p) (soups-rise (change_soup name (remove_entry e.uid) s) after) m
        (first-among (λ (p : Soup). equal_text p.name name) (remove_entry e.uid) s.soups p found) is

pub dropped-gone : (s : Store) (name : List ℕ) (p : Soup) → well_formed s ≡ true → soup_named name s ≡ Some p → SoupGone p.sig (drop_soup name s)
dropped-gone s name p w found = record {
  sig_given = sig-given s p w f.1;
  not_there = λ q m is.
      let k = among-filter (λ (p : Soup). not (equal_text p.name name)) s.soups q m in
      not-itself (equal_text q.name name) k.1 (ap (λ (r : Soup). equal_text r.name name) (one-sig s.soups q p (soups-rise s w) k.0 f.1 is) ∙ f.0);
}
  where
    f : (equal_text p.name name ≡ true) × Among s.soups p
    f = find-passes (λ (p : Soup). equal_text p.name name) s.soups p found
