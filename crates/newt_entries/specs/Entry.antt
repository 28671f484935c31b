-- Entry records as a program has them.
use Rattle.std.specs.Prelude.{◌≡◌, ℕ, zero, suc, ◌==◌, Bool, ◌&&◌, ◌++◌, nat_lt, bytes_eq, List, [], ◌∷◌, length, map, flat_map, drop, fold, zip, Option, Some, None, Result, Ok, Err, if◌then◌else◌}
use Rattle.std.specs.List.{list_all, enumerate_from}
use Rattle.newt_base.specs.Text.{be16, be32, be32_at}
use Rattle.newt_graph.specs.declared.node.Node.{Node}
use Rattle.newt_graph.specs.Graph.{RawGraph}
use Rattle.newt_spec_nsof.specs.Flat.{flat}
use Rattle.newt_spec_nsof.specs.Lengths.{skeleton}
use Rattle.newt_spec_store.specs.Image.{larges, large_in}
use Rattle.newt_spec_store.specs.Laid.{row_of_large}
use Rattle.newt_spec_store.specs.Lies.{is_record}
use Rattle.newt_spec_store.specs.StoreOf.{LargeRow, EntryRow as PlainRow, fill}
use Rattle.newt_entries.specs.declared.row.EntryRow.{EntryRow}
use Rattle.newt_entries.specs.declared.row.LargeAt.{LargeAt}

-- the node, object and length of a large binary
abbrev pub row_at : LargeAt → LargeRow
row_at l = (l.node, l.object, l.length)

-- the bytes of such a row: four for each number
abbrev pub large_bytes : LargeAt → List ℕ
large_bytes l = be32 l.node ++ be32 l.object ++ be32 l.length

-- how a row is written: its head, the flat text of its skeleton, and its large binaries
abbrev pub row_bytes : EntryRow → List ℕ
row_bytes row = be16 row.soup ++ be16 (length row.larges) ++ be32 row.uid ++ be32 row.time
    ++ flat row.skeleton ++ flat_map large_bytes row.larges

-- what a row says: its fields with the flat text of the skeleton, and the skeleton
abbrev pub said : EntryRow → PlainRow × RawGraph
said row = (record { soup = row.soup; uid = row.uid; time = row.time; text = flat row.skeleton; larges = map row_at row.larges }, row.skeleton)

-- The graph has this skeleton, and its large binaries with these objects are the rows.
pub record AreRowsOf (bare : RawGraph) (rows : List LargeAt) (g : RawGraph) (ids : List ℕ) : Type 0 where
  pub skeleton_is : bare ≡ skeleton g
  pub each_named : length (larges g) ≡ length ids
  pub rows_are : map row_at rows ≡ map row_of_large (zip (larges g) ids)

-- so many rows of large binaries at the front of bytes
abbrev pub rows_in : ℕ → List ℕ → List LargeRow
rows_in zero bytes = []
rows_in (suc n) bytes = (be32_at bytes 0, be32_at bytes 4, be32_at bytes 8) ∷ rows_in n (drop 12 bytes)

-- the rows name each large binary of the nodes, in order, and none of these has bytes; the nodes
-- are numbered from k on
abbrev pub names_from : ℕ → List Node → List LargeRow → Bool
names_from k nodes rows =
    bytes_eq (map (λ l. l.0) (flat_map large_in (enumerate_from k nodes))) (map (λ l. l.0) rows) && list_all (λ l. length l.1 == 0) (flat_map large_in (enumerate_from k nodes))

-- a skeleton and its rows may be those of an entry
abbrev pub fits : List LargeRow → RawGraph → Bool
fits rows g = is_record (record { soup = 0; uid = 0; time = 0; text = []; larges = rows }, g)

-- the graph of rows and their skeleton, with these bytes in its large binaries
abbrev pub filled : List LargeRow → RawGraph → List (List ℕ) → RawGraph
filled rows g bs = fold fill g (zip (map (λ l. l.0) rows) bs)
