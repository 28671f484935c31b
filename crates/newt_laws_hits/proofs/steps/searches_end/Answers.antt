use Rattle.newt_laws_hits.proofs.Searches.{next-fewer, previous-fewer}
use Rattle.newt_laws_hits.proofs.steps.searches_end.Goals as goal

pub returns-clause-next : goal.returns-clause-next
returns-clause-next c stores q at h apart formed = next-fewer stores q apart formed at h

pub returns-clause-previous : goal.returns-clause-previous
returns-clause-previous c stores q at h apart formed = previous-fewer stores q apart formed at h
