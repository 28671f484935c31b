use Rattle.std.proofs.Common.{◌∙◌, ap}
use Rattle.std.specs.List.{flat_map}
use Rattle.newt_entries.specs.Filling.{bytes_in}
use Rattle.newt_entries.proofs.Steps.{bytes-larges}
use Rattle.newt_entries.proofs.graphs.larges_of.Goals as goal

pub returns : goal.returns
returns c = c.in_ok-larges.ensures ∙ ap (flat_map bytes_in) c.nodes.ensures.value ∙ bytes-larges 0 c.args.graph.now.nodes
