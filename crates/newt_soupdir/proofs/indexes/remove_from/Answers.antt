use Rattle.std.proofs.Common.{not, rules}
use Rattle.std.proofs.lemmas.Fn.{filter_same}
use Rattle.newt_spec_store.specs.Keys.{IndexSpec, paths_of, same_paths}
use Rattle.newt_soupdir.proofs.indexes.remove_from.Goals as goal

pub returns : goal.returns
returns c = filter_same _ (λ (spec : IndexSpec). not (same_paths (paths_of spec) c.args.paths.now)) _ (λ x b q r. search rules) _ _ c.retain.ensures.filtered
