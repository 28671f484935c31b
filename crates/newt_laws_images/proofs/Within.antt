-- A graph in normal form is within the limits of one graph.
use Rattle.std.proofs.Common.{arith, ◌≡◌, refl, ap, List, true, Some, None, is_some}
use Rattle.std.proofs.lemmas.List.Sums.{list_all-from_AllPass}
use Rattle.newt_graph.specs.Draft.{is_small}
use Rattle.newt_graph.specs.declared.node.Node.{Node}
use Rattle.newt_graph.specs.declared.node.Node.TheVariants.{Symbol, Str, Binary, Large, Array, Frame}
use Rattle.newt_graph.specs.Graph.{RawGraph, IsGraph, IsNode}
use Rattle.newt_graph.specs.Meeting.{normal_form}
use Rattle.newt_graph.proofs.Follows.{form_is_found, own_form}
use Rattle.newt_spec_graph.specs.Limits.{within_limits}

-- a node that meets the rules of a graph is within the limits
pub node-within : (nodes : List Node) (node : Node) → IsNode nodes node → is_small node ≡ true
node-within nodes (Symbol name) h = refl
node-within nodes (Str units) h = let k = h.few in grind arith
node-within nodes (Binary class bytes) h = let k = h.1.few in grind arith
node-within nodes (Large class bytes) h = let k = h.1.few in grind arith
node-within nodes (Array None values) h = grind (arith, h)
node-within nodes (Array (Some class) values) h = let k = h.1 in grind arith
node-within nodes (Frame tags values) h = let k = h.are_tags.few in grind arith

pub graph-within : (g : RawGraph) → IsGraph g → within_limits g ≡ true
graph-within g h =
    let own : normal_form g ≡ Some g = form_is_found g g (own_form g h) in
    let some = ap is_some own in
    let each = list_all-from_AllPass is_small g.nodes (λ k d inside. node-within g.nodes _ (h.each k d inside)) in
    grind (arith, some, each)
