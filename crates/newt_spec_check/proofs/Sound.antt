-- Where objects are read as a store, none of the rows of objects holds.
use Rattle.std.proofs.Common.{arith, ◌≡◌, ◌≢◌, refl, ap, sym, ◌∙◌, subst, ℕ, ◌%◌, ◌<◌, ◌≤◌, ◌==◌, nat_lt, nat_le, List, true, false, Bool, not, ◌&&◌, ◌⊎◌, inl, inr, length, sum_by, cond, find, filter, flat_map, Option, Some, None, option_map, option_and_then}
use Rattle.std.specs.List.{list_any}
use Rattle.std.specs.FinMap as map
use Rattle.std.proofs.lemmas.Bool.{eq-eqb, eqb-true, lt-ltb, ltb-true, le-leb, and_parts, cases_Bool, cases_lt}
use Rattle.newt_graph.specs.Graph.{RawGraph}
use Rattle.newt_spec_image.specs.Objects.{Objects, pages_for}
use Rattle.newt_spec_image.specs.Pages.{cap}
use Rattle.newt_spec_nsof.specs.Text.{AreBytes}
use Rattle.newt_spec_graph.specs.Lists.{Each, Pairs, Among}
use Rattle.newt_spec_graph.proofs.Lists.{each-from, none-some, some-same, both-ways, filter-among, flat_map-among}
use Rattle.newt_spec_store.specs.Laid.{bare}
use Rattle.newt_spec_store.specs.Lies.{ReadsGraphs, directory_read, entry_read}
use Rattle.newt_spec_store.specs.Store.{Entry, Soup, Store}
use Rattle.newt_spec_store.specs.StoreOf.{store_of, entry_row}
use Rattle.newt_laws_images.specs.Found.{HasGiven, ids_named}
use Rattle.newt_laws_images.proofs.Again.{over}
use Rattle.newt_laws_images.proofs.Finite.{object-get, entry-get, get-entry}
use Rattle.newt_laws_images.proofs.Known.{names-apart}
use Rattle.newt_laws_images.proofs.Parts.{reading}
use Rattle.newt_laws_images.proofs.Refused.{has-directory, has-record, has-names, stands-twice}
use Rattle.newt_spec_check.specs.Damage.{if_missing, directory_in, no_directory, is_odd, is_given, is_again, entry_of, is_named_before, is_sound, is_bad_record, bad_entry, all_named, count_of, is_stray, bad_large, pages_taken, if_above, too_costly, first_object}
use Rattle.newt_spec_check.proofs.Counts.{apart-count}
use Rattle.newt_spec_check.proofs.Finds.{none-find, any-true, among-any}

pub both : (a b : Bool) → a ≡ true → b ≡ true → (a && b) ≡ true
both a b h k = grind (arith, h, k)

pub given-true : (d : Store) (x : ℕ × Entry) → HasGiven d x.0 x.1.uid → is_given d x ≡ true
given-true d x g = among-any (λ (p : Soup). (p.sig == x.0) && nat_lt x.1.uid p.next_uid) d.soups g.soup g.is_soup
    (both (g.soup.sig == x.0) (nat_lt x.1.uid g.soup.next_uid) (eq-eqb g.soup.sig x.0 g.of_sig) (lt-ltb x.1.uid g.soup.next_uid g.below))

pub again-some : (x : ℕ × Entry) (o : Option (ℕ × Entry)) → is_again x o ≡ true → (y : ℕ × Entry) × (o ≡ Some y) × (x.0 ≡ y.0) × (x.1.uid ≡ y.1.uid)
again-some x None h = absurd (both-ways h)
again-some x (Some y) h = let r = and_parts (x.0 == y.0) (x.1.uid == y.1.uid) h in (y, refl, eqb-true x.0 y.0 r.0, eqb-true x.1.uid y.1.uid r.1)

if-true : (b c : Bool) → (b ≡ true → c ≡ false) → (b && c) ≡ false
if-true true c h = h refl
if-true false c h = refl

module _ (graph_of : List ℕ → Option RawGraph) (version : ℕ) (objects : Objects) (blocks : ℕ) (s : Store) (h : store_of graph_of version (map.entries objects) blocks ≡ Some s) where
  its-directory : directory_in graph_of version (map.entries objects) ≡ Some (bare s)
  its-directory = let d = has-directory graph_of version objects blocks s h in ap (option_and_then (directory_read graph_of version)) (object-get objects 0 ∙ d.1) ∙ d.2

  pub sound-directory : no_directory graph_of version (map.entries objects) ≡ None
  sound-directory = ap (if_missing 0) its-directory

  not-before : (o : ℕ × List ℕ) (x : ℕ × Entry) → Among (map.entries objects) o → o.0 % 2 ≡ 1 → entry_read graph_of objects o.1 ≡ Some x → is_named_before graph_of version (map.entries objects) o.0 x ≡ false
  not-before o x m odd read = go (list_any test (map.entries objects)) refl
    where
      test : ℕ × List ℕ → Bool
      test p = is_odd p && nat_lt p.0 o.0 && is_again x (entry_of graph_of version (map.entries objects) p)

      go : (b : Bool) → is_named_before graph_of version (map.entries objects) o.0 x ≡ b → b ≡ false
      go false e = refl
      go true e =
          let r = any-true (λ (p : ℕ × List ℕ). is_odd p && nat_lt p.0 o.0 && is_again x (entry_of graph_of version (map.entries objects) p)) (map.entries objects) e in
          let p = and_parts (is_odd r.0 && nat_lt r.0.0 o.0) (is_again x (entry_of graph_of version (map.entries objects) r.0)) r.2 in
          let q = and_parts (is_odd r.0) (nat_lt r.0.0 o.0) p.0 in
          let y = again-some x (entry_of graph_of version (map.entries objects) r.0) p.1 in
          let less = ltb-true r.0.0 o.0 q.1 in
          absurd (stands-twice graph_of version objects blocks s h o.0 r.0.0 o.1 r.0.1 x.0 x.1 y.0.1 (entry-get objects o.0 o.1 m) (entry-get objects r.0.0 r.0.1 r.1) odd (eqb-true (r.0.0 % 2) 1 q.0)
          (λ k. omega (arith, less, k)) read (y.1 ∙ ap (λ n. Some (n, y.0.1)) (sym y.2)) y.3)

  not-bad : (o : ℕ × List ℕ) → Among (map.entries objects) o → is_bad_record graph_of version (map.entries objects) (bare s) o ≡ false
  not-bad o m = if-true (is_odd o) (not (is_sound graph_of version (map.entries objects) (bare s) o.0 (entry_of graph_of version (map.entries objects) o))) (λ e.
      let odd = eqb-true (o.0 % 2) 1 e in
      let r = has-record graph_of version objects blocks s h o.0 o.1 (entry-get objects o.0 o.1 m) odd in
      ap (λ x. not (is_sound graph_of version (map.entries objects) (bare s) o.0 x)) r.2
      ∙ ap not (both _ _ (given-true (bare s) (r.0, r.1) r.4) (ap not (not-before o (r.0, r.1) m odd r.2))))

  pub sound-entries : bad_entry graph_of version (map.entries objects) ≡ None
  sound-entries = ap (option_and_then (λ d. first_object (is_bad_record graph_of version (map.entries objects) d) (map.entries objects))) its-directory
      ∙ ap (option_map (λ (o : ℕ × List ℕ). o.0)) (none-find (is_bad_record graph_of version (map.entries objects) (bare s)) (map.entries objects) (each-from _ (map.entries objects) not-bad))

  not-stray : (o : ℕ × List ℕ) → Among (map.entries objects) o → is_stray (map.entries objects) o ≡ false
  not-stray o m = if-true (not (is_odd o) && nat_lt 0 o.0) (not (count_of o.0 (all_named (map.entries objects)) == 1)) (λ e.
      let p = and_parts (not (is_odd o)) (nat_lt 0 o.0) e in
      let above = ltb-true 0 o.0 p.1 in
      let r = has-names graph_of version objects blocks s h o.0 o.1 (entry-get objects o.0 o.1 m) (λ k. omega (arith, above, k)) (even o.0 p.0) in
      let named = flat_map-among (λ (o : ℕ × List ℕ). ids_named o.1) (filter is_odd (map.entries objects)) (r.0, r.1) o.0
      (filter-among is_odd (map.entries objects) (r.0, r.1) (among r.0 r.1 r.2) (eq-eqb (r.0 % 2) 1 r.3)) r.4 in
      ap not (eq-eqb _ 1 (apart-count o.0 (all_named (map.entries objects)) (names-apart graph_of version objects blocks s (reading graph_of version (map.entries objects) blocks s h)) named)))
    where
      even : (n : ℕ) → not (n % 2 == 1) ≡ true → n % 2 ≡ 0
      even n e = grind (arith, e)

      among : (id : ℕ) (bytes : List ℕ) → map.get objects id ≡ Some bytes → Among (map.entries objects) (id, bytes)
      among id bytes k = get-entry objects id bytes k

  pub sound-larges : bad_large (map.entries objects) ≡ None
  sound-larges = ap (option_map (λ (o : ℕ × List ℕ). o.0)) (none-find (is_stray (map.entries objects)) (map.entries objects) (each-from _ (map.entries objects) not-stray))

  pub sound-cost : ReadsGraphs graph_of → ((id : ℕ) (bytes : List ℕ) → map.get objects id ≡ Some bytes → (id ≡ 0) ⊎ (id % 2 ≡ 1) → AreBytes bytes) → too_costly blocks (map.entries objects) ≡ None
  sound-cost reads are_bytes = go (cases_lt (cap blocks) (pages_taken (map.entries objects)))
    where
      go : (cap blocks < pages_taken (map.entries objects)) ⊎ (pages_taken (map.entries objects) ≤ cap blocks) → too_costly blocks (map.entries objects) ≡ None
      go (inl more) = absurd (over graph_of version objects blocks s reads are_bytes h more)
      go (inr few) = ap (λ b. cond b None (Some (pages_taken (map.entries objects)))) (le-leb (pages_taken (map.entries objects)) (cap blocks) few)
