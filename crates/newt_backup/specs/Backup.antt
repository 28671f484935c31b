-- The backup of a store: one graph that has the bytes of its directory and of each of its entries.
-- This project's own.
use Rattle.std.specs.List.{sum_by}
use Rattle.std.specs.Prelude.{◌≡◌, ℕ, zero, suc, ◌+◌, ◌/◌, ◌<◌, ◌≤◌, All, true, List, [], ◌∷◌, ◌++◌, map, length, take, drop, codes, None, IfSome}
use Rattle.newt_base.specs.Text.{be16, be32}
use Rattle.newt_graph.specs.declared.node.Node.{Node}
use Rattle.newt_graph.specs.declared.node.Node.TheVariants.{Symbol, Binary, Array, Frame}
use Rattle.newt_graph.specs.declared.node.Ref.{Ref}
use Rattle.newt_graph.specs.declared.node.Ref.TheVariants.{Node as At}
use Rattle.newt_graph.specs.Graph.{RawGraph, IsGraph}
use Rattle.newt_spec_nsof.specs.Text.{AreBytes}
use Rattle.newt_spec_nsof.specs.Flat.{flat}
use Rattle.newt_spec_graph.specs.Lists.{Each}
use Rattle.newt_spec_store.specs.Store.{Entry, Store}
use Rattle.newt_spec_store.specs.Cost.{directory_bytes}
use Rattle.newt_spec_store.specs.Image.{all_entries}
use Rattle.newt_spec_store.specs.Valid.{valid}

-- ---- bytes in pieces

-- so many pieces from the front of bytes: 500,000 bytes each, the last of them what is left
abbrev pub pieces_from : ℕ → List ℕ → List (List ℕ)
pieces_from zero bytes = []
pieces_from (suc n) bytes = take 500_000 bytes ∷ pieces_from n (drop 500_000 bytes)

-- how many pieces bytes are cut into
abbrev pub piece_count : List ℕ → ℕ
piece_count bytes = (length bytes + 499_999) / 500_000

-- the pieces of bytes: each has 500,000 bytes, and the last 1 to 500,000
abbrev pub pieces : List ℕ → List (List ℕ)
pieces bytes = pieces_from (piece_count bytes) bytes

-- ---- the nodes of a backup, in the order in which a walk meets them.
-- The frame is node 0, its tags are 1 and 2, the cut of the directory is 3, its first piece 4, and
-- the symbol `bytes` 5. Then come its other pieces, the array of the entries, and the cut of each
-- entry.

-- so many nodes in a row, from this number on
abbrev pub in_a_row : ℕ → ℕ → List Ref
in_a_row at zero = []
in_a_row at (suc n) = At at ∷ in_a_row (at + 1) n

-- bytes as the plain array of their pieces: the array is node `at`, and the pieces, binaries of
-- class `bytes`, stand after it
abbrev pub cut : ℕ → List ℕ → List Node
cut at bytes = Array None (in_a_row (at + 1) (piece_count bytes)) ∷ map (Binary 5) (pieces bytes)

-- the same for the bytes that stand first, as node 3: the class stands after the first piece
abbrev pub first_cut : List ℕ → List Node
first_cut bytes =
    let others = drop 500_000 bytes in
    Array None (At 4 ∷ in_a_row 6 (piece_count others)) ∷ Binary 5 (take 500_000 bytes) ∷ Symbol (codes "bytes") ∷ map (Binary 5) (pieces others)

-- where the cuts of texts stand, one after another
abbrev pub cuts_at : ℕ → List (List ℕ) → List Ref
cuts_at at [] = []
cuts_at at (text ∷ texts) = At at ∷ cuts_at (at + (1 + piece_count text)) texts

-- the cuts of texts, one after another
abbrev pub cuts : ℕ → List (List ℕ) → List Node
cuts at [] = []
cuts at (text ∷ texts) = cut at text ++ cuts (at + (1 + piece_count text)) texts

-- which node the array of the entries is
abbrev pub entries_at : List ℕ → ℕ
entries_at directory = 6 + piece_count (drop 500_000 directory)

-- the frame of a directory's cut and the array of the cuts of entries
unfoldable pub packed : List ℕ → List (List ℕ) → RawGraph
packed directory entries =
    let at = entries_at directory in
    record {
      nodes = Frame (1 ∷ 2 ∷ []) (At 3 ∷ At at ∷ []) ∷ Symbol (codes "directory") ∷ Symbol (codes "entries")
          ∷ (first_cut directory ++ Array None (cuts_at (at + 1) entries) ∷ cuts (at + 1) entries);
      root = At 0;
    }

-- what can be packed: bytes, not too many of them, and not too many texts
pub record CanPack (d : List ℕ) (es : List (List ℕ)) : Type 0 where
  pub directory : AreBytes d
  pub entries : All AreBytes es
  pub few : length es ≤ 15_977
  pub short : length d + sum_by (λ text. length text) es ≤ 7_989_000

-- ---- the backup of a store

-- an entry whole, with its soup's signature: the signature in two bytes, id and time in four each,
-- and the flat text with the bytes of its large binaries
abbrev pub full : ℕ → Entry → List ℕ
full soup e = be16 soup ++ be32 e.uid ++ be32 e.time ++ flat e.graph

-- all entries of a store whole: the soups in the order in which they were made, and the entries of
-- each in order of id
abbrev pub fulls : Store → List (List ℕ)
fulls s = map (λ x. full x.0 x.1) (all_entries s)

-- The backup of a store.
abbrev pub backup : Store → RawGraph
backup s = packed (directory_bytes s) (fulls s)

-- ---- which graphs are backups

-- A store of some unit: it fits on the largest one. What else holds for every store that a program
-- has: graphs are in normal form, also those of info frames, and minutes fit in four bytes.
pub record IsKept (s : Store) : Type 0 where
  pub valid : valid 4099 s ≡ true
  pub infos : Each (λ p. IfSome p.info IsGraph) s.soups
  pub graphs : Each (λ x. IsGraph x.1.graph × (x.1.time < 4294967296)) (all_entries s)

-- no store has this backup
abbrev pub Unbacked : RawGraph → Type 0
Unbacked g = (s : Store) → IsKept s → backup s ≡ g → ⊥
