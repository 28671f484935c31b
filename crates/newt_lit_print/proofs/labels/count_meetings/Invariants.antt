use Rattle.std.proofs.Common.{◌≡◌, ◌++◌, fold, length, map, replicate, take, ◌∷◌}
use Rattle.std.specs.Prelude.{flat_map}
use Rattle.newt_graph.specs.Raw.{labels_of, values_of}
use Rattle.newt_graph.specs.declared.node.Ref.TheVariants as refs
use Rattle.newt_lit_print.specs.Meetings.{met_by}
use Rattle.newt_lit_print.specs.declared.labels.Meetings.TheVariants.{None as NoMeeting}
use Rattle.newt_lit_print.proofs.labels.count_meetings.Given as goal

abbrev pub invariant-loop-node : goal.invariant-loop-node
invariant-loop-node l = l.meetings.items ≡ fold met_by (replicate (length l.nodes) NoMeeting) (l.fn.root ∷ flat_map (λ node. map refs.Node (labels_of node) ++ values_of node) (take l.node-index l.nodes))
