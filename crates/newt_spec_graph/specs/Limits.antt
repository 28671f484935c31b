-- The limits of one graph (this project's own).
use Rattle.std.specs.Prelude.{Bool, false, ◌&&◌, Option, Some, None, is_some}
use Rattle.std.specs.List.{list_all}
use Rattle.newt_graph.specs.Draft.{is_small}
use Rattle.newt_graph.specs.Graph.{RawGraph}
use Rattle.newt_graph.specs.Meeting.{normal_form}

-- Each node is within the limits, and there is a normal form. So its nodes, its open arrays and
-- frames, and its bytes together are within theirs. (this project's own)
abbrev pub within_limits : RawGraph → Bool
within_limits g = is_some (normal_form g) && list_all is_small g.nodes

-- there is a graph, and it is within the limits (this project's own)
abbrev pub is_within : Option RawGraph → Bool
is_within None = false
is_within (Some g) = within_limits g
