use Rattle.std.proofs.Common.{not, rules}
use Rattle.std.proofs.lemmas.Fn.{filter_same}
use Rattle.newt_index_ranges.specs.Rows.{has_paths}
use Rattle.newt_index_ranges.proofs.indexes.keep_other_paths.Goals as goal

pub returns : goal.returns
returns c = filter_same _ (λ v. not (has_paths c.args.paths.now v)) _ (λ x b q r. search rules) _ _ c.retain.ensures.filtered
