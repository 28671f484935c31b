-- An entry's tags, and what a query asks of them. Tags and the four tests are Newton's (Newton
-- Programmer's Guide 2.0, tags). That the declaration names a path, and that a symbol that it does
-- not list is a tag of no entry, is this project's own.
use Rattle.std.specs.Prelude.{ℕ, Bool, true, not, ◌&&◌, List, [], ◌∷◌, filter, filter_map, Option, Some, None}
use Rattle.std.specs.List.{list_all, list_any}
use Rattle.newt_base.specs.Names.{same_name}
use Rattle.newt_graph.specs.declared.node.Ref.{Ref}
use Rattle.newt_graph.specs.declared.node.Node.{Node}
use Rattle.newt_graph.specs.declared.node.Node.TheVariants.{Symbol, Array}
use Rattle.newt_graph.specs.Graph.{RawGraph}
use Rattle.newt_spec_graph.specs.Graph.{object}
use Rattle.newt_spec_graph.specs.Slots.{value_at}
use Rattle.newt_spec_store.specs.Store.{TagTable}

-- the name of the symbol that a reference leads to, if it leads to one (a word of these
-- definitions)
abbrev pub symbol_name : List Node → Ref → Option (List ℕ)
symbol_name nodes r = elim (object nodes r) [ Some (Symbol name) ↦ Some name | _ ↦ None ]

-- a symbol, or the symbols of an array, in which other values are passed over (this project's own)
abbrev pub symbols_in : List Node → Ref → List (List ℕ)
symbols_in nodes r = elim (object nodes r) [
  | Some (Symbol name) ↦ name ∷ []
  | Some (Array _ values) ↦ filter_map (symbol_name nodes) values
  | _ ↦ []
]

-- the same of a value that may be missing (a word of these definitions)
abbrev pub symbols_at : RawGraph → Option Ref → List (List ℕ)
symbols_at g None = []
symbols_at g (Some r) = symbols_in g.nodes r

-- the name is one of these but for the case of letters (Newton Formats 1.1, symbols)
abbrev pub is_among : List (List ℕ) → List ℕ → Bool
is_among names name = list_any (same_name name) names

-- the symbols of the declaration that the entry has at its path; none without a declaration
-- (Newton Programmer's Guide 2.0, tags; the declaration is this project's own)
abbrev pub tags_of : Option TagTable → RawGraph → List (List ℕ)
tags_of None g = []
tags_of (Some t) g = filter (is_among (symbols_at g (value_at g t.path))) t.symbols

-- the four lists that a query may give: exactly these tags, all of them, any of them, none of them
-- (Newton Programmer's Guide 2.0, tags)
pub record TagSpec : Type 0 where
  pub equal : Option (List (List ℕ))
  pub all : Option (List (List ℕ))
  pub any : Option (List (List ℕ))
  pub none_of : Option (List (List ℕ))

-- the test holds of what is given, or nothing is given (a word of these definitions)
abbrev pub if_given : {X : Type 0} → (X → Bool) → Option X → Bool
if_given test None = true
if_given test (Some x) = test x

-- all tests that are given hold of these tags (Newton Programmer's Guide 2.0, tags)
abbrev pub tags_pass : TagSpec → List (List ℕ) → Bool
tags_pass spec tags =
    if_given (λ names. list_all (is_among tags) names && list_all (is_among names) tags) spec.equal
    && if_given (λ names. list_all (is_among tags) names) spec.all
    && if_given (λ names. list_any (is_among tags) names) spec.any
    && if_given (λ names. not (list_any (is_among tags) names)) spec.none_of
