-- A changed store is well formed where the refusals of the change do not hold.
use Rattle.std.proofs.Common.{arith, ◌≡◌, refl, ap, sym, ◌∙◌, subst, ℕ, ◌<◌, List, IsTrue, true, length, Some, None, ◌==◌}
use Rattle.std.specs.Prelude.{slice_get}
use Rattle.newt_base.specs.Names.{equal_text, is_name}
use Rattle.newt_graph.specs.declared.node.Node.TheVariants.{Large}
use Rattle.newt_graph.specs.Graph.{RawGraph}
use Rattle.newt_spec_graph.proofs.Lists.{each-at, each-list_all, some-same}
use Rattle.newt_spec_store.specs.Store.{Store, Soup, Entry, soup_named, entry_of, change_soup, change_entry, make_soup, drop_soup, add_entry, remove_entry, soup_of}
use Rattle.newt_spec_store.specs.Valid.{well_formed, valid_soup, valid_entry}
use Rattle.newt_laws_images.proofs.Chosen.{find-passes, found_by_name, soup-good}
use Rattle.newt_laws_changes.proofs.Patched.{with_patch, patched-valid}
use Rattle.newt_laws_changes.proofs.Soups.{with-entry, with-change-at, with-soup, with-new-soup, without-entry, without-soup}

pub made_formed : (name : List ℕ) (s : Store) → IsTrue (well_formed s) → IsTrue (is_name name) → soup_named name s ≡ None → length s.soups < 250 → s.next_soup < 65535
    → IsTrue (well_formed (make_soup name s))
made_formed name s w good new room ids = with-new-soup name s w good new room (λ e. omega (arith, e, ids))

pub dropped_formed : (name : List ℕ) (s : Store) → IsTrue (well_formed s) → IsTrue (well_formed (drop_soup name s))
dropped_formed name s w = without-soup name s w

pub removed_formed : (name : List ℕ) (uid : ℕ) (s : Store) → IsTrue (well_formed s) → IsTrue (well_formed (change_soup name (remove_entry uid) s))
removed_formed name uid s w = with-soup name (remove_entry uid) s w (λ p. refl) (λ p. refl) (λ p _ ok. without-entry uid p ok)

pub added_formed : (sig : ℕ) (s : Store) (p : Soup) (now : ℕ) (g : RawGraph) → IsTrue (well_formed s) → soup_of sig s ≡ Some p → p.next_uid < 536870911
    → IsTrue (valid_entry (record { uid = p.next_uid; time = now; graph = g })) → IsTrue (well_formed (change_soup p.name (add_entry now g) s))
added_formed sig s p now g w found room fits = with-soup p.name (add_entry now g) s w (λ q. refl) (λ q. refl)
    (λ q here ok. let same : p ≡ q = some-same p q (sym (found_by_name sig s p w found) ∙ here) in
    subst (λ (q : Soup). valid_soup (add_entry now g q) ≡ true) same (with-entry now g p (subst (λ (q : Soup). valid_soup q ≡ true) (sym same) ok) (λ e. omega (arith, e, room)) fits))

pub replaced_formed : (name : List ℕ) (uid : ℕ) (change : Entry → Entry) (s : Store) (p : Soup) (e : Entry) → IsTrue (well_formed s) → soup_named name s ≡ Some p → entry_of uid p ≡ Some e
    → (change e).uid ≡ e.uid → IsTrue (valid_entry (change e)) → IsTrue (well_formed (change_soup name (change_entry uid change) s))
replaced_formed name uid change s p e w found here same_uid fits = with-soup name (change_entry uid change) s w (λ q. refl) (λ q. refl)
    (λ q there ok. let same : p ≡ q = some-same p q (sym found ∙ there) in
    let one : (d : Entry) → entry_of uid q ≡ Some d → e ≡ d = λ d at. some-same e d (sym here ∙ ap (entry_of uid) same ∙ at) in
    with-change-at uid change q ok (λ d at. subst (λ (x : Entry). (change x).uid ≡ x.uid) (one d at) same_uid)
    (λ d at _. subst (λ (x : Entry). valid_entry (change x) ≡ true) (one d at) fits))

pub patched_formed : (name : List ℕ) (uid node class : ℕ) (old bytes : List ℕ) (change : Entry → Entry) (s : Store) (p : Soup) (e : Entry) → IsTrue (well_formed s) → soup_named name s ≡ Some p
    → entry_of uid p ≡ Some e → slice_get e.graph.nodes node ≡ Some (Large class old) → length bytes ≡ length old → change e ≡ with_patch e node bytes
    → IsTrue (well_formed (change_soup name (change_entry uid change) s))
patched_formed name uid node class old bytes change s p e w found here large as_many changes = replaced_formed name uid change s p e w found here (ap (λ (d : Entry). d.uid) changes)
    (ap valid_entry changes ∙ patched-valid e node class old bytes large as_many ∙ good)
  where
    good : valid_entry e ≡ true
    good = each-at (λ (d : Entry). valid_entry d ≡ true) p.entries e
        (each-list_all valid_entry p.entries (soup-good s p w (find-passes (λ (q : Soup). equal_text q.name name) s.soups p found).1).entries_fit)
        (find-passes (λ (d : Entry). d.uid == uid) p.entries e here).1
