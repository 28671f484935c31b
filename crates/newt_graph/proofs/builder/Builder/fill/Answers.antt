use Rattle.std.proofs.Common.{rules}
use Rattle.newt_graph.specs.Names.{number_of}
use Rattle.newt_graph.proofs.Drafts.{filled}
use Rattle.newt_graph.proofs.Known.{knows_set}
use Rattle.newt_graph.proofs.builder.Builder.fill.Goals as goal

pub invariant_of-self : goal.invariant_of-self
invariant_of-self c = record {
  draft = filled c.self.inside.nodes.items c.args.n c.args.node c.index.result.now c.self.inside.total c.payload.result c.payload-2.result (search rules) c.requires.filling (search rules) (search rules) (search rules) (search rules) c.self.invariant.draft;
  knows = knows_set (number_of c.self.inside.names.numbers) c.self.inside.nodes.items c.args.n c.args.node c.requires.filling c.self.invariant.knows;
}
