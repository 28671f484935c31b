use Rattle.std.proofs.Common.{◌==◌, not, rules}
use Rattle.std.proofs.lemmas.Fn.{filter_same}
use Rattle.newt_index_ranges.specs.declared.rows.SoupRanges.{SoupRanges}
use Rattle.newt_index_ranges.proofs.ranges.keep_others.Goals as goal

pub returns : goal.returns
returns c = filter_same _ (λ (r : SoupRanges). not (r.sig == c.args.sig)) _ (λ x b q r. search rules) _ _ c.retain.ensures.filtered
