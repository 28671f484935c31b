use Rattle.newt_laws_hits.proofs.Searches.{first-count, next-count}
use Rattle.newt_laws_hits.proofs.steps.searches_count.Goals as goal

pub returns-clause-first : goal.returns-clause-first
returns-clause-first c = first-count

pub returns-clause-next : goal.returns-clause-next
returns-clause-next c stores q at apart formed = next-count stores q apart formed at
