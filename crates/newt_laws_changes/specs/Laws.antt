-- What the laws of changes say.
use Rattle.std.specs.Prelude.{ℕ, ◌≡◌, ◌<◌, ◌≤◌, List, [], IsTrue, length, slice_get, Some, None, ◌+◌}
use Rattle.newt_base.specs.Names.{is_name}
use Rattle.newt_graph.specs.Graph.{RawGraph, IsGraph}
use Rattle.newt_graph.specs.declared.node.Node.TheVariants.{Large}
use Rattle.newt_spec_image.specs.Objects.{Objects, pages_for}
use Rattle.newt_spec_store.specs.Cost.{directory_bytes, cost, entry_pages, soup_pages}
use Rattle.newt_spec_nsof.specs.Lengths.{skeleton}
use Rattle.newt_spec_store.specs.Lies.{Places, IsIn, LiesIn}
use Rattle.newt_spec_store.specs.StoreOf.{fill}
use Rattle.newt_spec_store.specs.Store.{Store, Soup, Entry, soup_named, entry_of, change_soup, change_entry, make_soup, add_entry, remove_entry, drop_soup, soup_of}
use Rattle.newt_spec_store.specs.Valid.{well_formed, valid_entry}
use Rattle.newt_laws_changes.specs.Written.{Names, HeadAlone, HeadWritten, EntryWritten, EntryRewritten, EntryErased, SoupErased, EntryMoved, EntryPatched}

-- A store that is changed lies in the objects that the change writes, and its records name what the
-- change says (this project's own).
pub record ChangedStoresLie : Type 0 where
  pub fresh : (objects : Objects) (s : Store) → s.soups ≡ []
      → HeadAlone (directory_bytes s) objects
      → (lies' : LiesIn objects (λ sig uid. None) s) × ((r : ℕ) → lies'.named r ≡ [])
  pub made : (name : List ℕ) (objects objects' : Objects) (place : Places) (s : Store)
      → (lies : LiesIn objects place s)
      → HeadWritten (directory_bytes (make_soup name s)) objects objects'
      → (lies' : LiesIn objects' place (make_soup name s))
      × ((r : ℕ) → lies'.named r ≡ lies.named r)
  pub dropped : (sig : ℕ) (objects objects' : Objects) (place place' : Places)
      (named' : Names) (s : Store) (p : Soup) → (lies : LiesIn objects place s)
      → IsTrue (well_formed s)
      → soup_of sig s ≡ Some p → SoupErased sig (directory_bytes (drop_soup p.name s)) objects
      objects' place place' lies.named named'
      → (lies' : LiesIn objects' place' (drop_soup p.name s))
      × ((r : ℕ) → lies'.named r ≡ named' r)
  pub added : (sig id now : ℕ) (ids : List ℕ) (g : RawGraph) (objects objects' : Objects)
      (place place' : Places) (named' : Names) (s : Store) (p : Soup)
      → (lies : LiesIn objects place s) → IsTrue (well_formed s) → soup_of sig s ≡ Some p
      → IsGraph (skeleton g) → now < 4294967296
      → EntryWritten sig (record { uid = p.next_uid; time = now; graph = g }) id ids
      (directory_bytes (change_soup p.name (add_entry now g) s)) objects objects' place place'
      lies.named named'
      → (lies' : LiesIn objects' place' (change_soup p.name (add_entry now g) s))
      × ((r : ℕ) → lies'.named r ≡ named' r)
  pub declared : (sig : ℕ) (change : Soup → Soup) (objects objects' : Objects)
      (place : Places) (s : Store) (p : Soup) → (lies : LiesIn objects place s)
      → IsTrue (well_formed s)
      → soup_of sig s ≡ Some p → (change p).sig ≡ p.sig → (change p).entries ≡ p.entries
      → ((g : RawGraph) → (change p).info ≡ Some g → IsGraph g)
      → HeadWritten (directory_bytes (change_soup p.name change s)) objects objects'
      → (lies' : LiesIn objects' place (change_soup p.name change s))
      × ((r : ℕ) → lies'.named r ≡ lies.named r)
  pub replaced : (sig uid id : ℕ) (ids : List ℕ) (change : Entry → Entry)
      (objects objects' : Objects) (place : Places) (named' : Names) (s : Store) (p : Soup)
      (e : Entry)
      → (lies : LiesIn objects place s) → IsTrue (well_formed s) → soup_of sig s ≡ Some p
      → entry_of uid p ≡ Some e → (change e).uid ≡ e.uid → IsGraph (skeleton (change e).graph)
      → (change e).time < 4294967296 → EntryRewritten sig uid (change e) id ids objects objects'
      place lies.named named'
      → (lies' : LiesIn objects' place (change_soup p.name (change_entry uid change) s))
      × ((r : ℕ) → lies'.named r ≡ named' r)
  pub patched : (sig uid id node o : ℕ) (bytes : List ℕ) (change : Entry → Entry)
      (objects objects' : Objects) (place : Places) (s : Store) (p : Soup) (e : Entry)
      → (lies : LiesIn objects place s) → IsTrue (well_formed s) → soup_of sig s ≡ Some p
      → entry_of uid p ≡ Some e → change e ≡ record e { graph = fill e.graph (node, bytes) }
      → EntryPatched sig uid id node o e.graph bytes objects objects' place lies.named
      → (lies' : LiesIn objects' place (change_soup p.name (change_entry uid change) s))
      × ((r : ℕ) → lies'.named r ≡ lies.named r)
  pub removed : (sig uid id : ℕ) (objects objects' : Objects) (place place' : Places)
      (named' : Names) (s : Store) (p : Soup) → (lies : LiesIn objects place s)
      → IsTrue (well_formed s)
      → soup_of sig s ≡ Some p → EntryErased sig uid id objects objects' place place' lies.named
      named'
      → (lies' : LiesIn objects' place' (change_soup p.name (remove_entry uid) s))
      × ((r : ℕ) → lies'.named r ≡ named' r)
  pub moved : (sig uid old to id now : ℕ) (ids : List ℕ) (g : RawGraph)
      (objects objects' : Objects) (place place' : Places) (named' : Names) (s : Store)
      (p q : Soup)
      → (lies : LiesIn objects place s) → IsTrue (well_formed s) → soup_of sig s ≡ Some p
      → soup_of to s ≡ Some q → IsGraph (skeleton g) → now < 4294967296 → q.next_uid < 536870911
      → IsTrue (valid_entry (record { uid = q.next_uid; time = now; graph = g }))
      → EntryMoved sig uid old to (record { uid = q.next_uid; time = now; graph = g }) id ids
      (directory_bytes (change_soup p.name (remove_entry uid)
      (change_soup q.name (add_entry now g) s)))
      objects objects' place place' lies.named named'
      → (lies' : LiesIn objects' place' (change_soup p.name (remove_entry uid)
      (change_soup q.name (add_entry now g) s))) × ((r : ℕ) → lies'.named r ≡ named' r)

-- A changed store is well formed where the refusals of the change do not hold (this project's own).
pub record ChangedStoresAreFormed : Type 0 where
  pub fresh : (name : List ℕ) (sig : ℕ) → IsTrue (is_name name) → sig ≤ 536870911
      → IsTrue (well_formed (record { name = name; sig = sig; next_soup = 0; soups = [] }))
  pub made : (name : List ℕ) (s : Store) → IsTrue (well_formed s) → IsTrue (is_name name)
      → soup_named name s ≡ None → length s.soups < 250 → s.next_soup < 65535
      → IsTrue (well_formed (make_soup name s))
  pub dropped : (name : List ℕ) (s : Store) → IsTrue (well_formed s)
      → IsTrue (well_formed (drop_soup name s))
  pub added : (sig now : ℕ) (g : RawGraph) (s : Store) (p : Soup) → IsTrue (well_formed s)
      → soup_of sig s ≡ Some p → p.next_uid < 536870911
      → IsTrue (valid_entry (record { uid = p.next_uid; time = now; graph = g }))
      → IsTrue (well_formed (change_soup p.name (add_entry now g) s))
  pub replaced : (name : List ℕ) (uid : ℕ) (change : Entry → Entry) (s : Store) (p : Soup)
      (e : Entry) → IsTrue (well_formed s) → soup_named name s ≡ Some p → entry_of uid p ≡ Some e
      → (change e).uid ≡ e.uid → IsTrue (valid_entry (change e))
      → IsTrue (well_formed (change_soup name (change_entry uid change) s))
  pub patched : (name : List ℕ) (uid node class : ℕ) (old bytes : List ℕ)
      (change : Entry → Entry) (s : Store) (p : Soup) (e : Entry) → IsTrue (well_formed s)
      → soup_named name s ≡ Some p
      → entry_of uid p ≡ Some e → slice_get e.graph.nodes node ≡ Some (Large class old)
      → length bytes ≡ length old → change e ≡ record e { graph = fill e.graph (node, bytes) }
      → IsTrue (well_formed (change_soup name (change_entry uid change) s))
  pub removed : (name : List ℕ) (uid : ℕ) (s : Store) → IsTrue (well_formed s)
      → IsTrue (well_formed (change_soup name (remove_entry uid) s))
  pub moved : (sig uid to now : ℕ) (s : Store) (p q : Soup) (e : Entry)
      → IsTrue (well_formed s) → soup_of to s ≡ Some q → q.next_uid < 536870911 → IsIn s sig e
      → IsTrue (well_formed (change_soup p.name (remove_entry uid)
      (change_soup q.name (add_entry now e.graph) s)))

-- What a store costs after a change, from what it cost before (this project's own).
pub record CostsAddUp : Type 0 where
  pub added : (name : List ℕ) (time : ℕ) (graph : RawGraph) (s : Store) (p : Soup)
      → soup_named name s ≡ Some p
      → cost (change_soup name (add_entry time graph) s) ≡ cost s
      + entry_pages (record { uid = p.next_uid; time = time; graph = graph })
  pub replaced : (name : List ℕ) (uid : ℕ) (change : Entry → Entry) (s : Store) (p : Soup)
      (e : Entry) → soup_named name s ≡ Some p → entry_of uid p ≡ Some e
      → cost (change_soup name (change_entry uid change) s) + entry_pages e ≡ cost s
      + entry_pages (change e)
  pub patched : (name : List ℕ) (uid node class : ℕ) (old bytes : List ℕ)
      (change : Entry → Entry) (s : Store) (p : Soup) (e : Entry) → soup_named name s ≡ Some p
      → entry_of uid p ≡ Some e
      → slice_get e.graph.nodes node ≡ Some (Large class old) → length bytes ≡ length old
      → change e ≡ record e { graph = fill e.graph (node, bytes) }
      → cost (change_soup name (change_entry uid change) s) ≡ cost s
  pub removed : (name : List ℕ) (uid : ℕ) (s : Store) (p : Soup) (e : Entry)
      → IsTrue (well_formed s) → soup_named name s ≡ Some p → entry_of uid p ≡ Some e
      → cost (change_soup name (remove_entry uid) s) + entry_pages e ≡ cost s
  pub declared : (name : List ℕ) (change : Soup → Soup) (s : Store) (p : Soup)
      → soup_named name s ≡ Some p → (change p).entries ≡ p.entries
      → cost (change_soup name change s) + pages_for (length (directory_bytes s)) ≡ cost s
      + pages_for (length (directory_bytes (change_soup name change s)))
  pub made : (name : List ℕ) (s : Store)
      → cost (make_soup name s) + pages_for (length (directory_bytes s)) ≡ cost s
      + pages_for (length (directory_bytes (make_soup name s)))
  pub dropped : (name : List ℕ) (s : Store) (p : Soup) → IsTrue (well_formed s)
      → soup_named name s ≡ Some p
      → cost (drop_soup name s) + soup_pages p + pages_for (length (directory_bytes s)) ≡ cost s
      + pages_for (length (directory_bytes (drop_soup name s)))
