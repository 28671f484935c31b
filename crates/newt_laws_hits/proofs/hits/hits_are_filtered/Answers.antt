use Rattle.newt_laws_hits.proofs.Passing.{filtered}
use Rattle.newt_laws_hits.proofs.hits.hits_are_filtered.Goals as goal

pub returns : goal.returns
returns c = filtered
