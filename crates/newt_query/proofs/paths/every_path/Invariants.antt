use Rattle.std.proofs.Common.{◌≡◌, drop, map}
use Rattle.newt_spec_graph.specs.Graph.{every}
use Rattle.newt_spec_query.specs.Spec.{path_of}
use Rattle.newt_tags.proofs.Looked.{before}
use Rattle.newt_query.proofs.paths.every_path.Given as goal

-- the paths so far and those that are left are those of the whole
abbrev pub invariant-loop-value : goal.invariant-loop-value
invariant-loop-value l = before l.items.items (every (map (path_of l.graph.nodes) (drop l.value-index l.values))) ≡ every (map (path_of l.fn.graph.nodes) l.fn.values)
