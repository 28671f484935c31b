-- The records of entries, as objects of an image. This project's own format.
use Rattle.std.specs.Prelude.{ℕ, List, [], ◌∷◌, ◌++◌, map, length, flat_map, zip}
use Rattle.std.specs.List.{enumerate_from}
use Rattle.newt_base.specs.Text.{be16, be32}
use Rattle.newt_graph.specs.declared.node.Node.{Node}
use Rattle.newt_graph.specs.declared.node.Node.TheVariants.{Large}
use Rattle.newt_graph.specs.Graph.{RawGraph}
use Rattle.newt_spec_nsof.specs.Flat.{flat}
use Rattle.newt_spec_nsof.specs.Lengths.{skeleton}
use Rattle.newt_spec_store.specs.Store.{Entry, Store}

-- the objects of an image: the id of each, and its bytes (this project's own)
abbrev pub ObjectList : Type 0
ObjectList = List (ℕ × List ℕ)

-- the number and the bytes of a large binary, none of another node (a word of these definitions)
abbrev pub large_in : ℕ × Node → List (ℕ × List ℕ)
large_in (n, Large _ bytes) = (n, bytes) ∷ []
large_in _ = []

-- the large binaries of a graph, in order of node number: the number of each, and its bytes (a word
-- of these definitions)
abbrev pub larges : RawGraph → List (ℕ × List ℕ)
larges g = flat_map large_in (enumerate_from 0 g.nodes)

-- a large binary in a record: node number, object id and length, in four bytes each (this project's
-- own)
abbrev pub large_row : (ℕ × List ℕ) × ℕ → List ℕ
large_row (l, id) = be32 l.0 ++ be32 id ++ be32 (length l.1)

-- An entry's record, where its large binaries have these object ids. First come the signature of
-- its soup and the number of its large binaries, in two bytes each, and its id and time, in four
-- bytes each. Then come the flat text of its skeleton and the rows of its large binaries. (this
-- project's own)
abbrev pub entry_bytes : ℕ → Entry → List ℕ → List ℕ
entry_bytes soup e ids =
    be16 soup ++ be16 (length ids) ++ be32 e.uid ++ be32 e.time ++ flat (skeleton e.graph)
    ++ flat_map large_row (zip (larges e.graph) ids)

-- all entries of a store, each with its soup's signature (a word of these definitions)
abbrev pub all_entries : Store → List (ℕ × Entry)
all_entries s = flat_map (λ p. map (λ e. (p.sig, e)) p.entries) s.soups
