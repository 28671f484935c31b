-- A new store, and what is known of an entry that is in a store.
use Rattle.std.proofs.Common.{arith, ◌≡◌, refl, sym, ◌∙◌, subst, ℕ, ◌≤◌, ◌<◌, List, [], IsTrue, true, Some, None}
use Rattle.newt_base.specs.Names.{is_name}
use Rattle.newt_spec_image.specs.Objects.{Objects}
use Rattle.newt_spec_graph.specs.Lists.{Among}
use Rattle.newt_spec_graph.proofs.Lists.{each-at, each-list_all, none-some}
use Rattle.newt_spec_store.specs.Cost.{directory_bytes}
use Rattle.newt_spec_store.specs.Lies.{IsIn, LiesIn}
use Rattle.newt_spec_store.specs.Store.{Store, Soup, Entry, change_soup, add_entry, remove_entry, soup_of}
use Rattle.newt_spec_store.specs.Valid.{well_formed, valid_entry}
use Rattle.newt_laws_changes.specs.Written.{HeadAlone}
use Rattle.newt_laws_images.proofs.Chosen.{soup-good}
use Rattle.newt_laws_changes.proofs.Formed.{added_formed, removed_formed}

-- a store without soups has no entries
empty-in : (s : Store) (t : ℕ) (e : Entry) → s.soups ≡ [] → IsIn s t e → ⊥
empty-in s t e none i = subst (λ soups. Among soups i.soup) none i.is_soup

-- a store without soups lies in its directory alone
pub fresh_lies : (objects : Objects) (s : Store) → s.soups ≡ [] → HeadAlone (directory_bytes s) objects → (lies' : LiesIn objects (λ sig uid. None) s) × ((r : ℕ) → lies'.named r ≡ [])
fresh_lies objects s none h = (
  record {
    named = λ r. [];
    directory = h.head_is;
    records = λ t e i. absurd (empty-in s t e none i);
    once = λ id other o m n. absurd m;
    only_these = λ id bytes got n. absurd (none-some bytes (sym (h.no_others id n) ∙ got));
    names = λ r o m. absurd m;
    places = λ t u id at. absurd (none-some id at);
    infos = λ p g m e. absurd (subst (λ (soups : List Soup). Among soups p) none m);
    skeletons = λ t e i. absurd (empty-in s t e none i);
    times = λ t e i. absurd (empty-in s t e none i);
  },
  λ r. refl,
)

pub fresh_formed : (name : List ℕ) (sig : ℕ) → IsTrue (is_name name) → sig ≤ 536870911 → IsTrue (well_formed (record { name = name; sig = sig; next_soup = 0; soups = [] }))
fresh_formed name sig good fits = grind (arith, good, fits)

-- an entry of a well-formed store is valid, whatever id and minute it gets
pub in_valid : (s : Store) (t : ℕ) (e : Entry) → IsTrue (well_formed s) → IsIn s t e → (uid time : ℕ) → IsTrue (valid_entry (record { uid = uid; time = time; graph = e.graph }))
in_valid s t e w i uid time = each-at (λ (e : Entry). valid_entry e ≡ true) i.soup.entries e (each-list_all valid_entry i.soup.entries (soup-good s i.soup w i.is_soup).entries_fit) i.is_entry

-- an entry moved leaves the store well formed
pub moved_formed : (sig to uid : ℕ) (s : Store) (p q : Soup) (e : Entry) (now : ℕ) → IsTrue (well_formed s) → soup_of to s ≡ Some q → q.next_uid < 536870911 → IsIn s sig e
    → IsTrue (well_formed (change_soup p.name (remove_entry uid) (change_soup q.name (add_entry now e.graph) s)))
moved_formed sig to uid s p q e now w target room i =
    removed_formed p.name uid (change_soup q.name (add_entry now e.graph) s) (added_formed to s q now e.graph w target room (in_valid s sig e w i q.next_uid now))
