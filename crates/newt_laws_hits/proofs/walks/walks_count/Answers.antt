use Rattle.newt_laws_hits.proofs.Stepping.{next-counted, first-counts}
use Rattle.newt_laws_hits.proofs.walks.walks_count.Goals as goal

pub returns-clause-next : goal.returns-clause-next
returns-clause-next c index keep hs place rise = next-counted index keep hs rise place

pub returns-clause-first : goal.returns-clause-first
returns-clause-first c = first-counts
