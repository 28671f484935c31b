use Rattle.std.proofs.Common.{◌∙◌}
use Rattle.newt_lit_read.proofs.Labels.{label_found}
use Rattle.newt_lit_read.proofs.building.Building.labelled_node.Goals as goal

pub returns : goal.returns
returns c = rw (← c.self.view_is) (c.copied.ensures ∙ c.get.ensures.value ∙ label_found c.args.label c.self.inside.labels.entries)
