-- A store that is written to a unit whole. All of it is this project's own.
use Rattle.std.specs.Prelude.{◌≡◌, ℕ, ◌+◌, ◌%◌, ◌<◌, ◌≤◌, true, List, [], length, map as map_list, sum_by, None, Some, IfSome}
use Rattle.std.specs.FinMap as map
use Rattle.newt_graph.specs.Graph.{IsGraph}
use Rattle.newt_spec_image.specs.Pages.{Change}
use Rattle.newt_spec_image.specs.Objects.{Objects}
use Rattle.newt_spec_graph.specs.Lists.{Among, Each, Pairs}
use Rattle.newt_spec_store.specs.Cost.{cost, entry_pages}
use Rattle.newt_spec_store.specs.Image.{all_entries}
use Rattle.newt_spec_store.specs.Laid.{bare}
use Rattle.newt_spec_store.specs.Lies.{LiesIn, Places}
use Rattle.newt_spec_store.specs.Store.{Entry, Store}
use Rattle.newt_spec_store.specs.Valid.{valid}
use Rattle.newt_objects.specs.Held.{Held, held, IsUnplanned}
use Rattle.newt_objects.specs.Changing.{IsUnderWay}
use Rattle.newt_soupdir.specs.Bare.{bare_store}
use Rattle.newt_soupdir.specs.declared.rows.Directory.{Directory}
use Rattle.newt_entries.specs.Full.{as_entry, told}
use Rattle.newt_entries.specs.declared.full.FullEntry.{FullEntry}
use Rattle.newt_objects_commit.specs.Batch.{AddsPages, AreApart, AreOnce, HasEntries, HasEntry, IsOnTheWay, LeadsTo, large_ids, new_pages}
use Rattle.newt_objects_commit.specs.declared.batch.NewEntry.{NewEntry}
use Rattle.newt_store.specs.Next.{IsEntryOf}

-- A directory and entries are those of this store, all of them in its order, and it may stand on a
-- unit of so many blocks: it is valid there, its graphs are in normal form, and its minutes fit in
-- four bytes.
pub record AreStore (blocks : ℕ) (s : Store) (d : Directory) (es : List FullEntry) : Type 0 where
  pub is_valid : valid blocks s ≡ true
  pub directory : bare s ≡ bare_store d
  pub entries : all_entries s ≡ map_list told es
  pub infos : Each (λ p. IfSome p.info IsGraph) s.soups
  pub graphs : Each (λ x. IsGraph x.1.graph × (x.1.time < 4294967296)) (all_entries s)

-- ---- ids, given in rising order

-- Even ids after a first one, up to a last one, which fit in four bytes; no two are one.
pub record AreNextIds (first last : ℕ) (ids : List ℕ) : Type 0 where
  pub last_even : last % 2 ≡ 0
  pub no_less : first ≤ last
  pub even : (id : ℕ) → Among ids id → id % 2 ≡ 0
  pub fit : (id : ℕ) → Among ids id → id < 4294967296
  pub above : (id : ℕ) → Among ids id → first < id
  pub most : (id : ℕ) → Among ids id → id ≤ last
  pub once : AreOnce ids

-- the soup and the id of what is written, and of an entry
abbrev pub new_name : NewEntry → ℕ × ℕ
new_name n = (n.sig, n.uid)

abbrev pub entry_name : ℕ × Entry → ℕ × ℕ
entry_name x = (x.0, x.1.uid)

-- what is written for an entry
abbrev pub IsNewOf : FullEntry → NewEntry → Type 0
IsNewOf e n = IsEntryOf e.soup e.uid e.time e.graph n

-- What is written for an entry: its record's object has this id, and those of its large binaries
-- are after the last one so far, up to another.
pub record IsNumbered (e : FullEntry) (id last next : ℕ) (n : NewEntry) : Type 0 where
  pub of_entry : IsNewOf e n
  pub id_is : n.id ≡ id
  pub above : (o : ℕ) → Among (large_ids n) o → last < o
  pub most : (o : ℕ) → Among (large_ids n) o → o ≤ next
  pub next_even : next % 2 ≡ 0
  pub no_less : last ≤ next

-- What is written for entries: for each one, in their order, with objects that no other has, of
-- which records are below one id and large binaries are up to another.
pub record AreNew (es : List FullEntry) (id last : ℕ) (ns : List NewEntry) : Type 0 where
  pub names : map_list new_name ns ≡ map_list entry_name (map_list told es)
  pub of_entries : (n : NewEntry) → Among ns n → (e : FullEntry) × Among es e × IsNewOf e n
  pub each_written : (e : FullEntry) → Among es e → (n : NewEntry) × Among ns n × IsNewOf e n
  pub apart : Pairs AreApart ns
  pub below : (n : NewEntry) → Among ns n → n.id < id
  pub most : (n : NewEntry) (o : ℕ) → Among ns n → Among (large_ids n) o → o ≤ last
  pub pages : sum_by (λ n. new_pages (Some n)) ns ≡ sum_by (λ e. entry_pages (as_entry e)) es

-- ---- plans

-- no odd id from one on has a plan, and no even one after another
abbrev pub AreFreeFrom : (id last : ℕ) → Held → Type 0
AreFreeFrom id last objects = ((o : ℕ) → o % 2 ≡ 1 → id ≤ o → IsUnplanned objects o) × ((o : ℕ) → o % 2 ≡ 0 → last < o → IsUnplanned objects o)

-- One more entry can be planned: its record gets an odd id, the last large binary has an even one,
-- no object is held, no plan has one of the ids after, and what is planned is on the way.
pub record HasRoomFrom (id last : ℕ) (objects : Held) (batch : Change) : Type 0 where
  pub odd : id % 2 ≡ 1
  pub even : last % 2 ≡ 0
  pub none : (o : ℕ) → held objects o ≡ None
  pub free : AreFreeFrom id last objects
  pub way : IsOnTheWay objects batch

-- One more entry is planned: nothing that is held goes, and the ids after its own stay free.
pub record PlansOneEntry (e : FullEntry) (id last next : ℕ) (old : Held) (before : Change) (new : Held) (after : Change) : Type 0 where
  pub one : NewEntry
  pub is : IsNumbered e id last next one
  pub way : LeadsTo (HasEntry (Some one)) old before new after
  pub pages : AddsPages (entry_pages (as_entry e)) 0 before after
  pub free : AreFreeFrom (id + 2) next new

-- Entries are planned: so many pages are put for them.
pub record PlansEntries (es : List FullEntry) (id last : ℕ) (old : Held) (before : Change) (new : Held) (after : Change) : Type 0 where
  pub ones : List NewEntry
  pub are : AreNew es id last ones
  pub way : LeadsTo (HasEntries ones) old before new after
  pub pages : AddsPages (sum_by (λ e. entry_pages (as_entry e)) es) 0 before after
  pub free : AreFreeFrom id last new

-- The batch makes of nothing objects that a store lies in, with as many puts as the store costs
-- pages, for each store that a directory and entries are.
pub record WritesStore (d : Directory) (es : List FullEntry) (batch : Change) : Type 0 where
  pub objects : Held
  pub texts : Objects
  pub way : IsUnderWay objects batch map.empty texts
  pub lies : (blocks : ℕ) (s : Store) → AreStore blocks s d es → (place : Places) × LiesIn texts place s
  pub costs : (blocks : ℕ) (s : Store) → AreStore blocks s d es → length batch.puts ≡ cost s
  pub no_deletes : batch.deletes ≡ []
