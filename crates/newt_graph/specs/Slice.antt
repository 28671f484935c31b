-- Nodes that stand together among the nodes of a graph.
use Rattle.std.specs.Prelude.{◌≡◌, ℕ, List, ◌++◌, length}
use Rattle.newt_graph.specs.declared.node.Node.{Node}

-- the new nodes stand among all nodes, directly after the first `met` of them
pub record At (nodes new : List Node) (met : ℕ) : Type 0 where
  pub before : List Node
  pub later : List Node
  pub whole : nodes ≡ before ++ (new ++ later)
  pub met_is : length before ≡ met
