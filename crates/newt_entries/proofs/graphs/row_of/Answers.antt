use Rattle.std.proofs.Common.{arith, ap, length}
use Rattle.newt_entries.proofs.Steps.{made-few}
use Rattle.newt_entries.proofs.graphs.row_of.Goals as goal

pub returns-clause-few : goal.returns-clause-few
returns-clause-few c =
    let few = made-few c.in_ok-larges.larges.items c.nodes.result.now c.args.ids.now c.in_ok-larges.ensures in
    let nodes = ap length c.nodes.ensures.value in
    let most = c.nodes.ensures.graph.few in
    let same = ap length c.of.ensures in
    omega (arith, few, nodes, most, same)
