-- Aliases of entries. That an alias names an entry and resolves to it or to nil is Newton's (Newton
-- Programmer's Guide 2.0, entry aliases). Its form as a literal is this project's own.
use Rattle.std.specs.Prelude.{ℕ, ◌/◌, ◌%◌, ◌==◌, [], ◌∷◌, find, Option, Some, None, option_map, option_and_then, pos, codes, if◌then◌else◌}
use Rattle.newt_base.specs.Names.{same_name}
use Rattle.newt_graph.specs.declared.node.Ref.{Ref}
use Rattle.newt_graph.specs.declared.node.Ref.TheVariants.{Imm, Node as At}
use Rattle.newt_graph.specs.declared.node.Node.TheVariants.{Array}
use Rattle.newt_graph.specs.Graph.{RawGraph}
use Rattle.newt_spec_graph.specs.Graph.{object}
use Rattle.newt_spec_store.specs.Store.{Entry, Soup, entry_of}
use Rattle.newt_spec_query.specs.Tags.{symbol_name, if_given}
use Rattle.newt_spec_world.specs.World.{World, mounted}

-- an alias: the signatures of a store and a soup, and an entry id (this project's own)
pub record Alias : Type 0 where
  pub store : ℕ
  pub soup : ℕ
  pub uid : ℕ

-- an integer that is not negative (Newton Formats 1.1, immediates)
abbrev pub natural : Ref → Option ℕ
natural (Imm (pos w)) = if w % 4 == 0 then Some (w / 4) else None
natural _ = None

-- the alias that a literal writes down: an array with class `alias` and three such integers (this
-- project's own)
abbrev pub alias_of : RawGraph → Option Alias
alias_of g = elim (object g.nodes g.root) [
  | Some (Array (Some class) (s ∷ p ∷ u ∷ [])) ↦
      if if_given (same_name (codes "alias")) (symbol_name g.nodes (At class)) then
      option_and_then (λ a. option_and_then (λ b. option_map (λ c. record { store = a; soup = b; uid = c }) (natural u)) (natural p)) (natural s)
      else None
  | _ ↦ None
]

-- ---- the entry that an alias names

-- a spot, where an entry is: its unit, its soup, and the entry (a word of these definitions)
pub record Spot : Type 0 where
  pub unit : ℕ
  pub soup : Soup
  pub entry : Entry

-- the entry that has these signatures and this id in a mounted store, else none (Newton
-- Programmer's Guide 2.0, entry aliases)
abbrev pub resolved : World → Alias → Option Spot
resolved w a =
    option_and_then (λ m. option_and_then (λ p. option_map (λ e. record { unit = m.0; soup = p; entry = e })
    (entry_of a.uid p)) (find (λ p. p.sig == a.soup) m.1.soups))
    (find (λ m. m.1.sig == a.store) (mounted w))
