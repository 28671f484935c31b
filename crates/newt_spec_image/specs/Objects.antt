-- The objects that pages hold. An object is cut into parts, one for each of its pages. This
-- project's own format.
use Rattle.std.specs.Prelude.{◌≡◌, ℕ, suc, ◌+◌, ◌-◌, ◌*◌, ◌/◌, max, List, [], ◌∷◌, ◌++◌, length, take, drop, replicate, slice_get, Option, Some}
use Rattle.std.specs.List.{flat_map}
use Rattle.std.specs.Int.{to_be_bytes, w32}
use Rattle.std.specs.Option.{option_map, unwrap_or}
use Rattle.std.specs.Ordering.{nat_cmp}
use Rattle.std.specs.FinMap as map
use Rattle.newt_spec_image.specs.Pages.{Pages, Put, object_id, part_number, object_length, page_data}

-- how many pages an object of n bytes has: one for each 500 bytes begun, and one where it has no
-- bytes
abbrev pub pages_for : ℕ → ℕ
pages_for n = max 1 ((n + 499) / 500)

-- An extent: the length of an object, and the numbers of the pages of its parts, in order.
pub record Extent : Type 0 where
  pub length : ℕ
  pub numbers : List ℕ

-- the extent of each object, by the object's id
abbrev pub Table : Type 0
Table = ℕ → Option Extent

-- the page is this part of an object of this length
pub record IsPart (id part size : ℕ) (page : List ℕ) : Type 0 where
  pub of_object : object_id page ≡ id
  pub of_part : part_number page ≡ part
  pub of_size : object_length page ≡ size

-- The table of the objects of these pages. Each part of each object has one page, and each page is
-- one part of one object.
pub record IsTableOf (live : Pages) (table : Table) : Type 0 where
  pub whole : (id : ℕ) (x : Extent) → table id ≡ Some x → length x.numbers ≡ pages_for x.length
  pub parts : (id part number : ℕ) (x : Extent) → table id ≡ Some x → slice_get x.numbers part ≡ Some number
      → (page : List ℕ) × (map.get live number ≡ Some page) × IsPart id part x.length page
  pub pages : (number : ℕ) (page : List ℕ) → map.get live number ≡ Some page
      → (x : Extent) × (table (object_id page) ≡ Some x) × (slice_get x.numbers (part_number page) ≡ Some number)

-- the data of the page of this number
abbrev pub data_at : Pages → ℕ → List ℕ
data_at pages number = page_data (unwrap_or (map.get pages number) [])

-- the bytes of an object: the data of its pages, joined, as far as its length goes
abbrev pub joined : Pages → Extent → List ℕ
joined pages x = take x.length (flat_map (data_at pages) x.numbers)

-- the bytes of each object, by the object's id
abbrev pub Objects : Type 0
Objects = map.FinMap nat_cmp (List ℕ)

-- These are the objects of these pages.
pub record AreObjectsOf (live : Pages) (objects : Objects) : Type 0 where
  pub table : Table
  pub is_table : IsTableOf live table
  pub each : (id : ℕ) → map.get objects id ≡ option_map (joined live) (table id)

-- the bytes of a part: the 500 bytes of the object that begin there, or what is left of them
abbrev pub part_bytes : ℕ → List ℕ → List ℕ
part_bytes part bytes = take 500 (drop (500 * part) bytes)

-- How the page of a part is written: the header, the bytes of the part, and zeros.
unfoldable pub written_page : ℕ → ℕ → ℕ → List ℕ → List ℕ
written_page id part size bytes = to_be_bytes w32 id ++ to_be_bytes w32 part ++ to_be_bytes w32 size ++ bytes ++ replicate (500 - length bytes) 0

-- the pages of an object's parts, from this part on, under these page numbers
abbrev pub written_parts : ℕ → ℕ → List ℕ → List ℕ → List Put
written_parts part id bytes [] = []
written_parts part id bytes (number ∷ numbers) = (number, written_page id part (length bytes) (part_bytes part bytes)) ∷ written_parts (suc part) id bytes numbers
