use Rattle.std.proofs.Common.{◌≡◌, ◌++◌, drop}
use Rattle.newt_query.specs.Filter.{strings_in}
use Rattle.newt_query.proofs.text.strings.Given as goal

-- the strings so far and those of the nodes that are left are those of the whole
abbrev pub invariant-loop-node : goal.invariant-loop-node
invariant-loop-node l = l.items.items ++ strings_in (drop l.node-index l.nodes) ≡ strings_in l.fn.nodes
