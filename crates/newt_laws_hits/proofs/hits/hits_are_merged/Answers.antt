use Rattle.newt_laws_hits.proofs.Members.{merged-is, members-agree}
use Rattle.newt_laws_hits.proofs.hits.hits_are_merged.Goals as goal

pub returns-clause-merged : goal.returns-clause-merged
returns-clause-merged c = merged-is

pub returns-clause-agree : goal.returns-clause-agree
returns-clause-agree c = members-agree
