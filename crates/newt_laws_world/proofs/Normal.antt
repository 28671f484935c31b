-- A graph in normal form is its own normal form.
use Rattle.std.proofs.Common.{◌≡◌, Some}
use Rattle.newt_graph.specs.Graph.{RawGraph, IsGraph}
use Rattle.newt_graph.specs.Meeting.{normal_form}
use Rattle.newt_graph.proofs.Follows.{form_is_found, own_form}

-- a graph is its own normal form
pub own-normal : (g : RawGraph) → IsGraph g → normal_form g ≡ Some g
own-normal g h = form_is_found g g (own_form g h)
