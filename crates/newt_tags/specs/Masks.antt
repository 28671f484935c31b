-- A mask: which symbols of a tags declaration an entry has, a bit for each (this project's own).
use Rattle.std.specs.Prelude.{ℕ, ◌+◌, ◌*◌, ◌/◌, ◌%◌, Bool, ◌==◌, List, [], ◌∷◌, map, filter_map, Option, Some, None, if◌then◌else◌}
use Rattle.newt_graph.specs.declared.node.Node.{Node}
use Rattle.newt_graph.specs.declared.node.Node.TheVariants.{Symbol, Array}
use Rattle.newt_graph.specs.Graph.{RawGraph}
use Rattle.newt_spec_graph.specs.Slots.{value_at}
use Rattle.newt_spec_store.specs.Store.{TagTable}
use Rattle.newt_spec_query.specs.Tags.{symbol_name, symbols_at, is_among}

-- the symbols of a value that leads to this node, or to none: those of `symbols_in` (a word of
-- these definitions)
abbrev pub symbols_of : List Node → Option Node → List (List ℕ)
symbols_of nodes o = elim o [
  | Some (Symbol name) ↦ name ∷ []
  | Some (Array _ values) ↦ filter_map (symbol_name nodes) values
  | _ ↦ []
]

-- the number whose bits these are, the lowest first (a word of these definitions)
abbrev pub number : List Bool → ℕ
number [] = 0
number (bit ∷ bits) = (if bit then 1 else 0) + 2 * number bits

-- the bit of each symbol of the declaration: whether the entry has it at the declaration's path
-- (this project's own)
abbrev pub bits_of : TagTable → RawGraph → List Bool
bits_of t g = map (is_among (symbols_at g (value_at g t.path))) t.symbols

-- the mask of an entry (this project's own)
unfoldable pub mask_of : TagTable → RawGraph → ℕ
mask_of t g = number (bits_of t g)

-- the mask of an entry by the declaration of its soup, 0 without one (this project's own)
abbrev pub mask_by : Option TagTable → RawGraph → ℕ
mask_by None g = 0
mask_by (Some t) g = mask_of t g

-- the symbols whose bits are set (this project's own)
abbrev pub selected : ℕ → List (List ℕ) → List (List ℕ)
selected mask [] = []
selected mask (symbol ∷ symbols) = if mask % 2 == 1 then symbol ∷ selected (mask / 2) symbols else selected (mask / 2) symbols

-- the tags that a mask means; none without a declaration (this project's own)
abbrev pub tags_by : Option TagTable → ℕ → List (List ℕ)
tags_by None mask = []
tags_by (Some t) mask = selected mask t.symbols
