use Rattle.std.proofs.Common.{◌∙◌, rules}
use Rattle.newt_graph.specs.declared.node.Ref.TheVariants.{Node as At}
use Rattle.newt_spec_query.specs.Tags.{symbol_name}
use Rattle.newt_tags.proofs.Looked.{named_slot}
use Rattle.newt_tags.proofs.slots.is_slot.Goals as goal

pub returns-in-Some : goal.returns-in-Some
returns-in-Some c = c.is_one_of.ensures ∙ named_slot c.args.names.now (λ n. n.now) (symbol_name c.args.nodes.now (At c.args.tag)) c.in-Some.name.now (search rules)
