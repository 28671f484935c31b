-- A walk over nodes in any order, and the order in which it first meets them.
use Rattle.std.specs.Prelude.{◌≡◌, ℕ, zero, suc, Bool, true, false, ◌&&◌, ◌==◌, nat_lt, nat_le, List, [], ◌∷◌, ◌++◌, length, map, Option, Some, None, Result, Ok, Err, if◌then◌else◌, slice_get, get_or}
use Rattle.std.specs.List.{position_from}
use Rattle.newt_graph.specs.declared.node.Node.{Node}
use Rattle.newt_graph.specs.declared.node.Node.TheVariants.{Symbol, Str, Binary, Large, Array, Frame}
use Rattle.newt_graph.specs.declared.node.Ref.{Ref}
use Rattle.newt_graph.specs.declared.node.Ref.TheVariants as refs
use Rattle.newt_graph.specs.declared.fault.GraphFault.{GraphFault}
use Rattle.newt_graph.specs.declared.fault.GraphFault.TheVariants.{Limit, Memory}
use Rattle.newt_graph.specs.Limits.{most_nodes, most_open}
use Rattle.newt_graph.specs.Graph.{RawGraph, are_light}
use Rattle.newt_graph.specs.Raw.{renamed_ref, renamed}
use Rattle.newt_graph.specs.Steps.{◌>>=◌}

-- a call failed: of a limit only where the definition gives none; want of memory says nothing of it
abbrev pub Fails : {Y : Type 0} → GraphFault → Option Y → Type 0
Fails Limit read = read ≡ None
Fails Memory read = Unit {0}

-- the result of a call, seen by `view`, is what the definition gives; or the call failed
abbrev pub Gives : {X Y : Type 0} → (X → Y) → Result X GraphFault → Option Y → Type 0
Gives view (Ok x) read = read ≡ Some (view x)
Gives view (Err e) read = Fails e read

-- what a walk has met: the numbers of the nodes, in order; and how many nodes there are
pub record Seen : Type 0 where
  pub order : List ℕ
  pub count : ℕ

-- where node k stands among the numbers that were met
unfoldable pub place : List ℕ → ℕ → Option ℕ
place order k = position_from (λ j. j == k) 0 order

-- there is no number
abbrev pub is_none : Option ℕ → Bool
is_none None = true
is_none (Some i) = false

-- 1 where there is no number, else 0
abbrev pub free : Option ℕ → ℕ
free None = 1
free (Some i) = 0

-- node k is one of the nodes, and was not met yet
abbrev pub is_new : Seen → ℕ → Bool
is_new seen k = nat_lt k seen.count && is_none (place seen.order k)

-- node k is met after all others
abbrev pub added : Seen → ℕ → Seen
added seen k = record { order = seen.order ++ k ∷ []; count = seen.count }

-- a class or a tag is met; a symbol leads no further
unfoldable pub meet_label : Seen → ℕ → Seen
meet_label seen k = if is_new seen k then added seen k else seen

-- tags are met one after another
unfoldable pub meet_labels : Seen → List ℕ → Seen
meet_labels seen [] = seen
meet_labels seen (k ∷ ks) = meet_labels (meet_label seen k) ks

-- the class of an array is met, if it has one
abbrev pub meet_class : Seen → Option ℕ → Seen
meet_class seen None = seen
meet_class seen (Some k) = meet_label seen k

-- how a value is met; none where too many containers would be open
abbrev pub Step : Type 0
Step = Seen → Ref → Option Seen

-- values are met one after another
unfoldable pub meet_each : Step → Seen → List Ref → Option Seen
meet_each step seen [] = Some seen
meet_each step seen (value ∷ values) = step seen value >>= λ next. meet_each step next values

-- the values in a container are met; none where no further container may be open
abbrev pub within : Option Step → Seen → List Ref → Option Seen
within None seen values = None
within (Some step) seen values = meet_each step seen values

-- what a node leads to is met: its class or its tags, then its values
unfoldable pub enter : Option Step → Seen → Option Node → Option Seen
enter inner seen None = Some seen
enter inner seen (Some (Symbol name)) = Some seen
enter inner seen (Some (Str units)) = Some seen
enter inner seen (Some (Binary class bytes)) = Some (meet_label seen class)
enter inner seen (Some (Large class bytes)) = Some (meet_label seen class)
enter inner seen (Some (Array class values)) = within inner (meet_class seen class) values
enter inner seen (Some (Frame tags values)) = within inner (meet_labels seen tags) values

-- a value is met: a node that is new, and then what it leads to
unfoldable pub meet_by : List Node → Option Step → Step
meet_by nodes inner seen (refs.Imm w) = Some seen
meet_by nodes inner seen (refs.Node k) = if is_new seen k then enter inner (added seen k) (slice_get nodes k) else Some seen

-- a value and all that it leads to is met; none where more containers would be open than `room`
unfoldable pub meet : List Node → ℕ → Step
meet nodes zero seen value = meet_by nodes None seen value
meet nodes (suc room) seen value = meet_by nodes (Some (λ seen value. meet nodes room seen value)) seen value

-- no number stands twice
abbrev pub Once : List ℕ → Type 0
Once order = (i k : ℕ) → slice_get order i ≡ Some k → place order k ≡ Some i

-- ---- new numbers

-- the number; 0 where there is none
abbrev pub found : Option ℕ → ℕ
found None = 0
found (Some i) = i

-- the new number of a node: its place among those that were met
abbrev pub number : List ℕ → ℕ → ℕ
number order k = found (place order k)

-- the nodes of these numbers, with new numbers for what they refer to
abbrev pub moved : List Node → List ℕ → List ℕ → List Node
moved nodes order ks = map (λ k. renamed (number order) (get_or nodes k (Str []))) ks

-- the graph, where its nodes and its bytes are within the limits
abbrev pub limited : RawGraph → Option RawGraph
limited h = if nat_le (length h.nodes) most_nodes && are_light h.nodes then Some h else None

-- the nodes that were met, in order, with new numbers
abbrev pub numbered : RawGraph → Seen → RawGraph
numbered g seen = record { nodes = moved g.nodes seen.order seen.order; root = renamed_ref (number seen.order) g.root }

-- the normal form of what the root reaches; none where a limit of graphs would be passed
unfoldable pub normal_form : RawGraph → Option RawGraph
normal_form g = meet g.nodes most_open (record { order = []; count = length g.nodes }) g.root >>= λ seen. limited (numbered g seen)
