-- The strings so far, and those that are left.
use Rattle.newt_query.proofs.Turns.{strings-more, strings-end}
use Rattle.newt_query.proofs.text.strings.Goals as goal

pub loop-node-preserved : goal.loop-node-preserved
loop-node-preserved c =
    strings-more c.args.nodes.now c.loop-node.items.items _ c.loop-node.node-index c.node-item.result c.push_string.new.items.items
    c.loop-node.invariant c.loop-node-test.true c.node-item.is c.in_ok-push_string.ensures

pub returns : goal.returns
returns c = strings-end c.args.nodes.now c.loop-node.items.items _ c.loop-node.node-index c.loop-node.invariant c.loop-node-test.false
