-- The damage of an image: the first of nine rows that holds, or none. Each row is a test of the
-- whole image, and gives the place where it holds. The rows after the fifth are tests of objects,
-- and hold of no image that has none. All of it is this project's own.
use Rattle.std.specs.Prelude.{ℕ, zero, suc, ◌+◌, ◌%◌, ◌==◌, nat_le, nat_lt, ◌&&◌, not, Bool, true, false, if◌then◌else◌, min, List, [], ◌∷◌, length, take, drop, map as list_map, filter, flat_map, find, fold, sum_by, Option, Some, None, option_map, option_and_then}
use Rattle.std.specs.List.{list_any}
use Rattle.std.specs.Option.{unwrap_or}
use Rattle.std.specs.FinMap as map
use Rattle.newt_graph.specs.Graph.{RawGraph}
use Rattle.newt_spec_image.specs.Records.{bank_start, bank_bytes, chosen_bank, versioned, version, length_at, body}
use Rattle.newt_spec_image.specs.Pages.{Pages, pages, is_change, object_id, cap}
use Rattle.newt_spec_image.specs.Objects.{pages_for}
use Rattle.newt_spec_store.specs.ImageStore.{table_of, is_page_of, objects_of}
use Rattle.newt_spec_store.specs.Image.{ObjectList}
use Rattle.newt_spec_store.specs.Lies.{directory_read}
use Rattle.newt_spec_store.specs.OfImage.{blocks_of}
use Rattle.newt_spec_store.specs.Store.{Entry, Store}
use Rattle.newt_spec_store.specs.StoreOf.{EntryRow, only, entry_row, entry_of_row, object_bytes}
use Rattle.newt_spec_store.specs.Valid.{valid_entry}
use Rattle.newt_spec_check.specs.declared.Layer.{Layer}
use Rattle.newt_spec_check.specs.declared.Layer.TheVariants as layer

-- what is damaged, and where
pub record Damage : Type 0 where
  pub layer : Layer
  pub place : ℕ

-- the place, where something is missing; else none
abbrev pub if_missing : {X : Type 0} → ℕ → Option X → Option ℕ
if_missing place None = Some place
if_missing place (Some x) = None

-- ---- votes and header

-- votes: they choose no bank
abbrev pub no_bank : List ℕ → Option ℕ
no_bank image = if_missing 0 (chosen_bank image)

-- the first byte of a bank
abbrev pub start_of : List ℕ → ℕ → ℕ
start_of image bank = bank_start (blocks_of image) bank

-- what a bank holds after a header of version 1 or 2, with the version
abbrev pub versioned_in : List ℕ → ℕ → Option (ℕ × List ℕ)
versioned_in image bank = versioned (bank_bytes (blocks_of image) bank image)

-- header: the first byte of the chosen bank, where its first 16 bytes are not a header
abbrev pub no_header : List ℕ → Option ℕ
no_header image =
    option_and_then (λ bank. if_missing (start_of image bank) (versioned_in image bank)) (chosen_bank image)

-- ---- records and payloads

-- a gate of 0: the byte of the image at which it stands, and the bytes of the bank after it
abbrev pub Gate : Type 0
Gate = ℕ × List ℕ

-- The gates of 0 in these bytes. The first byte stands at `at` in the image, and the first `skip`
-- bytes are passed over. The list ends at a gate that is not 0, or with the bytes.
abbrev pub gates_after : ℕ → ℕ → List ℕ → List Gate
gates_after at skip [] = []
gates_after at (suc skip) (byte ∷ rest) = gates_after (suc at) skip rest
gates_after at zero (gate ∷ rest) =
    if gate == 0 then (at, rest) ∷ gates_after (suc at) (4 + length_at rest) rest else []

-- the gates of 0 in a bank that begins at a place, after its header
abbrev pub bank_gates : ℕ → List ℕ → List Gate
bank_gates start = gates_after (start + 16) 0

-- the gates of 0 of the chosen bank, the first one first
abbrev pub gates : List ℕ → List Gate
gates image = unwrap_or (option_and_then (λ bank. option_map (bank_gates (start_of image bank)) (body image)) (chosen_bank image)) []

-- the place of the first gate after which the bytes pass a test
abbrev pub first_gate : (List ℕ → Bool) → List Gate → Option ℕ
first_gate test gs = option_map (λ g. g.0) (find (λ g. test g.1) gs)

-- the length or the payload after a gate leaves the bank
abbrev pub leaves_bank : List ℕ → Bool
leaves_bank rest = not (nat_le (4 + length_at rest) (length rest))

-- the payload after a gate does not have the form of a change
abbrev pub is_unformed : List ℕ → Bool
is_unformed rest = not (is_change (take (length_at rest) (drop 4 rest)))

-- record: the first gate whose length or payload leaves the bank
abbrev pub long_record : List ℕ → Option ℕ
long_record image = first_gate leaves_bank (gates image)

-- payload: the gate of the first record whose payload does not have the form of a change
abbrev pub bad_payload : List ℕ → Option ℕ
bad_payload image = first_gate is_unformed (gates image)

-- ---- objects

-- the least of some numbers
abbrev pub least : List ℕ → Option ℕ
least [] = None
least (n ∷ ns) = Some (fold min n ns)

-- A page is not the one page of its part of its object. The object lacks a part, or has this part
-- twice, or has no such part, or is not as long as this page says.
abbrev pub is_astray : Pages → ℕ × List ℕ → Bool
is_astray live e = not (is_page_of (table_of live (object_id e.1)) e)

-- the ids of the objects that have such a page
abbrev pub broken_ids : Pages → List ℕ
broken_ids live = list_map (λ e. object_id e.1) (filter (is_astray live) (map.entries live))

-- object: the least id of an object whose parts are missing, doubled, too high or of other length
abbrev pub broken_object : List ℕ → Option ℕ
broken_object image = option_and_then (λ live. least (broken_ids live)) (pages image)

-- a row of the objects, with their ids, where the image has objects
abbrev pub of_objects : (ObjectList → Option ℕ) → List ℕ → Option ℕ
of_objects row image =
    option_and_then (λ live. option_and_then (λ objects. row (map.entries objects)) (objects_of live)) (pages image)

-- the least id of an object that passes a test: objects stand in the order of their ids
abbrev pub first_object : (ℕ × List ℕ → Bool) → ObjectList → Option ℕ
first_object test objects = option_map (λ o. o.0) (find test objects)

-- objects with odd ids are the records of entries
abbrev pub is_odd : ℕ × List ℕ → Bool
is_odd o = o.0 % 2 == 1

-- ---- the records of entries

-- a soup of the directory has given the id of this entry
abbrev pub is_given : Store → ℕ × Entry → Bool
is_given d x = list_any (λ p. (p.sig == x.0) && nat_lt x.1.uid p.next_uid) d.soups

-- what was read is the entry of the same id in the same soup
abbrev pub is_again : ℕ × Entry → Option (ℕ × Entry) → Bool
is_again x None = false
is_again x (Some y) = (x.0 == y.0) && (x.1.uid == y.1.uid)

module _ (graph_of : List ℕ → Option RawGraph) (version : ℕ) (objects : ObjectList) where
  -- the directory that object 0 is read as
  abbrev pub directory_in : Option Store
  directory_in = option_and_then (directory_read graph_of version) (object_bytes objects 0)

  -- directory: object 0 is missing or is not a directory
  abbrev pub no_directory : Option ℕ
  no_directory = if_missing 0 directory_in

  -- the entry of a record, with the signature of its soup and the bytes of its large binaries
  abbrev pub entry_of : ℕ × List ℕ → Option (ℕ × Entry)
  entry_of o = only (λ x. valid_entry x.1) (option_and_then (entry_of_row graph_of objects) (entry_row o.1))

  -- a record with a smaller id names the entry
  abbrev pub is_named_before : ℕ → ℕ × Entry → Bool
  is_named_before id x = list_any (λ o. is_odd o && nat_lt o.0 id && is_again x (entry_of o)) objects

  -- an entry was read, a soup has given its id, and no record with a smaller id names it
  abbrev pub is_sound : Store → ℕ → Option (ℕ × Entry) → Bool
  is_sound d id None = false
  is_sound d id (Some x) = is_given d x && not (is_named_before id x)

  -- the record of an object breaks a rule
  abbrev pub is_bad_record : Store → ℕ × List ℕ → Bool
  is_bad_record d o = is_odd o && not (is_sound d o.0 (entry_of o))

  -- entry: the least odd id whose object fails one of these tests. Its record is read as an entry.
  -- A soup of the directory has given the entry's id. No record with a smaller id names the entry.
  abbrev pub bad_entry : Option ℕ
  bad_entry = option_and_then (λ d. first_object (is_bad_record d) objects) directory_in

-- ---- large binaries and cost

-- the ids that a record names
abbrev pub ids_in : Option EntryRow → List ℕ
ids_in None = []
ids_in (Some row) = list_map (λ l. l.1) row.larges

-- the ids that all records name, one after the other
abbrev pub all_named : ObjectList → List ℕ
all_named objects = flat_map (λ o. ids_in (entry_row o.1)) (filter is_odd objects)

-- how often a number stands among others
abbrev pub count_of : ℕ → List ℕ → ℕ
count_of n ns = length (filter (λ m. n == m) ns)

-- an object with an even id above 0 is not named exactly once
abbrev pub is_stray : ObjectList → ℕ × List ℕ → Bool
is_stray objects o = not (is_odd o) && nat_lt 0 o.0 && not (count_of o.0 (all_named objects) == 1)

-- large: the least even id above 0 that is not named exactly once over all entries
abbrev pub bad_large : ObjectList → Option ℕ
bad_large objects = first_object (is_stray objects) objects

-- the pages that the objects take
abbrev pub pages_taken : ObjectList → ℕ
pages_taken objects = sum_by (λ o. pages_for (length o.1)) objects

-- a number, where it is above another
abbrev pub if_above : ℕ → ℕ → Option ℕ
if_above most n = if nat_le n most then None else Some n

-- cost: the pages of all objects, where they are more than a unit of so many blocks takes
abbrev pub too_costly : ℕ → ObjectList → Option ℕ
too_costly blocks objects = if_above (cap blocks) (pages_taken objects)

-- ---- the first row that holds

-- the first layer that has a place
abbrev pub first_row : List (Layer × Option ℕ) → Option Damage
first_row [] = None
first_row ((at, None) ∷ rows) = first_row rows
first_row ((at, Some place) ∷ rows) = Some (record { layer = at; place = place })

-- The damage of an image, where `graph_of` reads the texts of entries; none where no row holds.
abbrev pub damage : (List ℕ → Option RawGraph) → List ℕ → Option Damage
damage graph_of image = first_row (
    (layer.Votes, no_bank image)
    ∷ (layer.Header, no_header image)
    ∷ (layer.RecordPlace, long_record image)
    ∷ (layer.Payload, bad_payload image)
    ∷ (layer.Object, broken_object image)
    ∷ (layer.Directory, of_objects (no_directory graph_of (version image)) image)
    ∷ (layer.Entry, of_objects (bad_entry graph_of (version image)) image)
    ∷ (layer.Large, of_objects bad_large image)
    ∷ (layer.Cost, of_objects (too_costly (blocks_of image)) image)
    ∷ [])
