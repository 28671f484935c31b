use Rattle.std.proofs.Common.{◌≡◌, fold, map, take}
use Rattle.newt_graph.specs.declared.node.Ref.TheVariants as refs
use Rattle.newt_lit_print.specs.Meetings.{met_by}
use Rattle.newt_lit_print.proofs.labels.meet_tags.Given as goal

abbrev pub invariant-loop-tag : goal.invariant-loop-tag
invariant-loop-tag l = l.meetings ≡ fold met_by l.fn.meetings (map refs.Node (take l.tag-index l.tags))
