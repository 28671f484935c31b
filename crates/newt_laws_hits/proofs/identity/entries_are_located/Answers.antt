use Rattle.newt_laws_hits.proofs.Origins.{known-located, shown-looked-up}
use Rattle.newt_laws_hits.proofs.identity.entries_are_located.Goals as goal

pub returns-clause-known : goal.returns-clause-known
returns-clause-known c stores s p uid apart formed = known-located stores apart formed s p uid

pub returns-clause-shown : goal.returns-clause-shown
returns-clause-shown c = shown-looked-up
