use Rattle.std.proofs.Common.{◌∙◌}
use Rattle.newt_entries_alias.proofs.Graphs.{read_at}
use Rattle.newt_entries_alias.proofs.alias.Alias.read.Goals as goal

pub returns : goal.returns
returns c =
    let found = c.in_ok-node.ensures.lookup in
    c.of_node.ensures ∙ read_at c.args.graph.now c.nodes-nodes.result.now c.in-Node.n c.in_ok-node.node.now c.nodes-nodes.ensures.value c.in-Node.ensures.value found.3.0 found.1
