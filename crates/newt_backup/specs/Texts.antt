-- The texts of a backup's nodes, read without a look at its arrays.
use Rattle.std.specs.Prelude.{ℕ, nat_lt, List, [], ◌∷◌, ◌++◌, length, drop, map, Option, None, option_map, option_and_then, if◌then◌else◌}
use Rattle.newt_base.specs.Text.{be16_at, be32_at}
use Rattle.newt_graph.specs.declared.node.Node.{Node}
use Rattle.newt_graph.specs.declared.node.Node.TheVariants.{Symbol, Str, Binary, Large, Array, Frame}
use Rattle.newt_nsof_flat.specs.Stream.{stream_graph}
use Rattle.newt_spec_store.specs.Store.{Entry, Store}
use Rattle.newt_spec_graph.specs.Graph.{every}
use Rattle.newt_spec_store.specs.Lies.{directory_read}

-- the bytes of the binaries up to the next array, joined, and so on from each array to the next
-- one; `text` are the bytes before
abbrev pub texts_from : List ℕ → List Node → List (List ℕ)
texts_from text [] = text ∷ []
texts_from text (Array _ _ ∷ nodes) = text ∷ texts_from [] nodes
texts_from text (Binary _ bytes ∷ nodes) = texts_from (text ++ bytes) nodes
texts_from text (Symbol _ ∷ nodes) = texts_from text nodes
texts_from text (Str _ ∷ nodes) = texts_from text nodes
texts_from text (Large _ _ ∷ nodes) = texts_from text nodes
texts_from text (Frame _ _ ∷ nodes) = texts_from text nodes

-- the entry whole that a text has, and its soup's signature; the text of its graph may be any that
-- spells it
unfoldable pub full_read : List ℕ → Option (ℕ × Entry)
full_read text =
    if nat_lt (length text) 10 then None
    else option_map (λ g. (be16_at text 0, record { uid = be32_at text 2; time = be32_at text 6; graph = g })) (stream_graph (drop 10 text))

-- a directory and entries
abbrev pub with_entries : Option (List (ℕ × Entry)) → Option Store → Option (Store × List (ℕ × Entry))
with_entries xs d = option_and_then (λ d. option_map (λ xs. (d, xs)) xs) d

-- the directory and the entries of texts: the second text is the directory's, the third is that of
-- the array of the entries, and the entries' texts follow
abbrev pub contents_read : List (List ℕ) → Option (Store × List (ℕ × Entry))
contents_read (_ ∷ directory ∷ _ ∷ entries) = with_entries (every (map full_read entries)) (directory_read stream_graph 2 directory)
contents_read _ = None
