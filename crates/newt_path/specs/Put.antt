-- What it means that a value was put at a path.
use Rattle.std.specs.Prelude.{◌≡◌, ℕ, false, List, Option, Some, None, slice_get}
use Rattle.newt_graph.specs.declared.node.Ref.{Ref}
use Rattle.newt_graph.specs.declared.node.Ref.TheVariants.{Node as At}
use Rattle.newt_graph.specs.declared.node.Node.TheVariants.{Frame}
use Rattle.newt_graph.specs.Graph.{RawGraph}
use Rattle.newt_graph.specs.Raw.{IsNormalForm}
use Rattle.newt_graph.specs.Meeting.{normal_form}
use Rattle.newt_spec_graph.specs.Limits.{is_within}
use Rattle.newt_spec_graph.specs.Slots.{value_below}

-- There is a raw graph, and this graph is its normal form, both by the relation and by the function
-- that finds it. (this project's own)
abbrev pub IsFormOf : Option RawGraph → RawGraph → Type 0
IsFormOf None graph = ⊥
IsFormOf (Some raw) graph = IsNormalForm raw graph × (normal_form raw ≡ Some graph)

-- There is a raw graph, and no graph is its normal form: what would be it passes a limit. (this
-- project's own)
abbrev pub PassesALimit : Option RawGraph → Type 0
PassesALimit None = ⊥
PassesALimit (Some raw) = ((graph : RawGraph) → IsNormalForm raw graph → ⊥) × (is_within (normal_form raw) ≡ false)

-- node n is a frame, and some path leads to it from the root (a word of these definitions)
pub record IsFrameOf (graph : RawGraph) (n : ℕ) : Type 0 where
  pub path : List (List ℕ)
  pub leads : value_below graph.nodes graph.root path ≡ Some (At n)
  pub tags : List ℕ
  pub values : List Ref
  pub at : slice_get graph.nodes n ≡ Some (Frame tags values)
