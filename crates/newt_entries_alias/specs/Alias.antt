-- Aliases as a program has them, and their graphs. It is this project's own that an alias is an
-- array with class `alias` and the three numbers.
use Rattle.std.specs.Prelude.{◌≡◌, ℕ, ◌≤◌, Bool, List, [], ◌∷◌, Option, Some, None, codes, option_map, option_and_then, if◌then◌else◌}
use Rattle.newt_base.specs.Names.{same_name}
use Rattle.newt_graph.specs.declared.node.Node.{Node}
use Rattle.newt_graph.specs.declared.node.Node.TheVariants.{Symbol, Array}
use Rattle.newt_graph.specs.declared.node.Ref.{Ref}
use Rattle.newt_graph.specs.declared.node.Ref.TheVariants as refs
use Rattle.newt_graph.specs.Graph.{RawGraph, integer}
use Rattle.newt_spec_literal.specs.Printed.{literal}
use Rattle.newt_spec_query.specs.Tags.{symbol_name, if_given}
use Rattle.newt_spec_world.specs.Alias as plain
use Rattle.newt_spec_world.specs.Reply.{alias_text}
use Rattle.newt_entries_alias.specs.declared.alias.Alias.{Alias}

-- the alias of the plain world
abbrev pub alias_said : Alias → plain.Alias
alias_said a = record { store = a.store; soup = a.soup; uid = a.uid }

-- the nodes of an alias: the array, and its class
unfoldable pub alias_nodes : Alias → List Node
alias_nodes a = Array (Some 1) (integer a.store ∷ integer a.soup ∷ integer a.uid ∷ []) ∷ Symbol (codes "alias") ∷ []

-- the graph of an alias
abbrev pub alias_graph : Alias → RawGraph
alias_graph a = record { nodes = alias_nodes a; root = refs.Node 0 }

-- the three numbers of an alias are those of integers
pub record Fits (a : Alias) : Type 0 where
  pub store : a.store ≤ 536_870_911
  pub soup : a.soup ≤ 536_870_911
  pub uid : a.uid ≤ 536_870_911

-- the class of an array is named alias
abbrev pub is_alias_class : List Node → ℕ → Bool
is_alias_class nodes class = if_given (same_name (codes "alias")) (symbol_name nodes (refs.Node class))

-- the alias of an array with this class and these values
unfoldable pub array_alias : List Node → ℕ → List Ref → Option plain.Alias
array_alias nodes class (s ∷ p ∷ u ∷ []) =
    if is_alias_class nodes class then
    option_and_then (λ a. option_and_then (λ b. option_map (λ c. record { store = a; soup = b; uid = c }) (plain.natural u)) (plain.natural p)) (plain.natural s)
    else None
array_alias nodes class _ = None

-- the alias of an object
abbrev pub node_alias : List Node → Node → Option plain.Alias
node_alias nodes (Array (Some class) values) = array_alias nodes class values
node_alias nodes _ = None

-- the printed text of a graph is that of the alias
unfoldable pub IsPrinted : Alias → RawGraph → Type 0
IsPrinted a g = literal g ≡ alias_text a.store a.soup a.uid
