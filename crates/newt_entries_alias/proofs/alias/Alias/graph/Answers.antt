use Rattle.std.proofs.Common.{◌∙◌, List, ap, sym, subst}
use Rattle.newt_graph.specs.declared.node.Node.{Node}
use Rattle.newt_graph.specs.declared.node.Ref.TheVariants as refs
use Rattle.newt_graph.specs.Graph.{RawGraph, IsGraph}
use Rattle.newt_spec_world.specs.Alias as plain
use Rattle.newt_entries_alias.specs.Alias.{IsPrinted}
use Rattle.newt_entries_alias.proofs.Graphs.{graph_is, alias_is, printed_is}
use Rattle.newt_entries_alias.proofs.alias.Alias.graph.Goals as goal

abbrev of_nodes : List Node → RawGraph
of_nodes nodes = record { nodes = nodes; root = refs.Node 0 }

pub of-requires : goal.of-requires
of-requires c = subst (λ (ns : List Node). IsGraph (of_nodes ns)) (sym c.in_ok-nodes.ensures) (graph_is c.args.self.now c.requires)

pub returns-clause-read : goal.returns-clause-read
returns-clause-read c = ap plain.alias_of (c.of.ensures ∙ ap of_nodes c.in_ok-nodes.ensures) ∙ alias_is c.args.self.now

pub returns-clause-printed : goal.returns-clause-printed
returns-clause-printed c = subst (IsPrinted c.args.self.now) (sym (c.of.ensures ∙ ap of_nodes c.in_ok-nodes.ensures)) (printed_is c.args.self.now c.requires)
