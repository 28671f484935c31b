use Rattle.newt_laws_hits.proofs.Stepping.{fewer-after, fewer-before}
use Rattle.newt_laws_hits.proofs.walks.walks_end.Goals as goal

pub returns-clause-next : goal.returns-clause-next
returns-clause-next c = fewer-after

pub returns-clause-previous : goal.returns-clause-previous
returns-clause-previous c = fewer-before
