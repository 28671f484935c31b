use Rattle.std.proofs.Common.{◌≡◌, drop}
use Rattle.newt_spec_graph.specs.Slots.{value_below}
use Rattle.newt_path.proofs.value.value_below.Given as goal

-- what is left of the names leads from here to where the whole leads
abbrev pub invariant-loop-name : goal.invariant-loop-name
invariant-loop-name l = value_below l.nodes l.value (drop l.name-index l.names) ≡ value_below l.fn.nodes l.fn.value l.fn.names
