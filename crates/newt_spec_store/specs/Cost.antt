-- What a store costs in pages, and the bytes of its directory. This project's own.
use Rattle.std.specs.Prelude.{ℕ, ◌+◌, ◌*◌, ◌/◌, List, [], ◌∷◌, ◌++◌, map, length, flat_map, sum_by, sum, Option, Some, None}
use Rattle.newt_base.specs.Text.{be16, be32}
use Rattle.newt_spec_image.specs.Objects.{pages_for}
use Rattle.newt_graph.specs.Graph.{RawGraph}
use Rattle.newt_graph.specs.declared.node.Node.{Node}
use Rattle.newt_graph.specs.declared.node.Node.TheVariants.{Large}
use Rattle.newt_spec_nsof.specs.Flat.{flat}
use Rattle.newt_spec_nsof.specs.Lengths.{skeleton}
use Rattle.newt_spec_store.specs.declared.Kind.{Kind}
use Rattle.newt_spec_store.specs.declared.Kind.TheVariants as kind
use Rattle.newt_spec_store.specs.declared.Order.{Order}
use Rattle.newt_spec_store.specs.declared.Order.TheVariants as order
use Rattle.newt_spec_store.specs.Keys.{IndexPart, Path}
use Rattle.newt_spec_store.specs.Store.{Entry, TagTable, Soup, Store}

-- ---- the bytes of the directory

-- a count in one byte, and the items (this project's own)
abbrev pub counted : {X : Type 0} → (X → List ℕ) → List X → List ℕ
counted bytes xs = length xs ∷ flat_map bytes xs

-- a count in one byte, and the bytes of a text (this project's own)
abbrev pub text_bytes : List ℕ → List ℕ
text_bytes text = length text ∷ text

-- a path: its names as texts (this project's own)
abbrev pub path_bytes : Path → List ℕ
path_bytes = counted text_bytes

-- the byte of a type (this project's own)
abbrev pub kind_byte : Kind → ℕ
kind_byte kind.Text = 0
kind_byte kind.Int = 1
kind_byte kind.Char = 2
kind_byte kind.Symbol = 3

-- the byte of a direction (this project's own)
abbrev pub direction_byte : Order → ℕ
direction_byte order.Ascend = 0
direction_byte order.Descend = 1

-- a part of an index: type, direction, path (this project's own)
abbrev pub part_bytes : IndexPart → List ℕ
part_bytes p = kind_byte p.kind ∷ direction_byte p.direction ∷ path_bytes p.path

-- a tags declaration: its path and its symbols (this project's own)
abbrev pub table_bytes : TagTable → List ℕ
table_bytes t = path_bytes t.path ++ counted text_bytes t.symbols

-- an info frame: the length of its flat text in two bytes, and the text (this project's own)
abbrev pub info_bytes : RawGraph → List ℕ
info_bytes g = be16 (length (flat g)) ++ flat g

-- What a soup has of a tags declaration and an info frame. The first byte is 0 for neither, 1 for a
-- declaration, 2 for an info frame and 3 for both. Then come the declaration and the info frame.
-- (this project's own)
abbrev pub extra_bytes : Option TagTable → Option RawGraph → List ℕ
extra_bytes None None = 0 ∷ []
extra_bytes (Some t) None = 1 ∷ table_bytes t
extra_bytes None (Some g) = 2 ∷ info_bytes g
extra_bytes (Some t) (Some g) = 3 ∷ table_bytes t ++ info_bytes g

-- a soup in the directory: name, signature in two bytes, next entry id in four, indexes, tags and
-- info (this project's own)
abbrev pub soup_bytes : Soup → List ℕ
soup_bytes p =
    text_bytes p.name ++ be16 p.sig ++ be32 p.next_uid ++ counted (counted part_bytes) p.specs ++ extra_bytes p.tags p.info

-- the directory: the name of the store, its signature in four bytes, the next soup signature in
-- two, and the soups (this project's own)
abbrev pub directory_bytes : Store → List ℕ
directory_bytes s = text_bytes s.name ++ be32 s.sig ++ be16 s.next_soup ++ counted soup_bytes s.soups

-- ---- numbers of pages

-- the length of a large binary, none of another node (a word of these definitions)
abbrev pub large_length : Node → List ℕ
large_length (Large _ bytes) = length bytes ∷ []
large_length _ = []

-- the lengths of the large binaries of a graph, in order of node number (a word of these
-- definitions)
abbrev pub large_lengths : RawGraph → List ℕ
large_lengths g = flat_map large_length g.nodes

-- how many bytes the flat text of a graph has without those of its large binaries (this project's
-- own)
abbrev pub skeleton_length : RawGraph → ℕ
skeleton_length g = length (flat (skeleton g))

-- The pages of an entry's record. The record is 12 bytes, the flat text of its skeleton, and 12
-- bytes for each large binary. (this project's own)
abbrev pub record_pages : Entry → ℕ
record_pages e = pages_for (12 + skeleton_length e.graph + 12 * length (large_lengths e.graph))

-- the pages of an entry: those of its record, and those of each large binary (this project's own)
abbrev pub entry_pages : Entry → ℕ
entry_pages e = record_pages e + sum (map pages_for (large_lengths e.graph))

-- the pages of a soup's entries (this project's own)
abbrev pub soup_pages : Soup → ℕ
soup_pages p = sum_by entry_pages p.entries

-- the pages of the directory (this project's own)
abbrev pub directory_pages : Store → ℕ
directory_pages s = pages_for (length (directory_bytes s))

-- the cost of a store: the pages of its directory, and those of all its entries (this project's
-- own)
abbrev pub cost : Store → ℕ
cost s = directory_pages s + sum_by soup_pages s.soups

-- The bytes of a batch that puts and deletes so many pages: 516 for each page that it puts, 4 for
-- each that it deletes, and 9 more. (this project's own)
abbrev pub pages_bytes : ℕ → ℕ → ℕ
pages_bytes put gone = 9 + 516 * put + 4 * gone

-- the most pages that so many bytes of an object, one after another, can lie in (this project's
-- own)
abbrev pub range_pages : ℕ → ℕ
range_pages count = (count + 499) / 500 + 1

-- the bytes of the batch that writes so many bytes into a large binary: it puts the pages that they
-- lie in (this project's own)
abbrev pub patch_bytes : ℕ → ℕ
patch_bytes count = pages_bytes (range_pages count) 0
