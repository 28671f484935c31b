use Rattle.std.proofs.Common.{◌≡◌, ◌∙◌, map, rules}
use Rattle.newt_spec_query.specs.Tags.{symbols_in, is_among}
use Rattle.newt_tags.specs.Masks.{number}
use Rattle.newt_tags.proofs.Bits.{mask_none, mask_some}
use Rattle.newt_tags.proofs.table.TagTable.mask_of.Goals as goal

pub returns-in-None-clause-value : goal.returns-in-None-clause-value
returns-in-None-clause-value c = mask_none c.args.self.now c.args.graph.now (search rules)

pub returns-in-Some-clause-value : goal.returns-in-Some-clause-value
returns-in-Some-clause-value c =
    let read : c.mask.result ≡ number (map (is_among (symbols_in c.args.graph.now.nodes c.in-Some.value)) c.args.self.now.symbols) = search rules in
    read ∙ mask_some c.args.self.now c.args.graph.now c.in-Some.value (search rules)
