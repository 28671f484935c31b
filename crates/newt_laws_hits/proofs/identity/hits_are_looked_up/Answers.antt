use Rattle.newt_laws_hits.proofs.Origins.{same-looked-up, named-looked-up, settled-looked-up}
use Rattle.newt_laws_hits.proofs.identity.hits_are_looked_up.Goals as goal

pub returns-clause-same : goal.returns-clause-same
returns-clause-same c stores q at apart formed = same-looked-up stores apart formed q at

pub returns-clause-named : goal.returns-clause-named
returns-clause-named c stores q store soup uid apart formed = named-looked-up stores apart formed q store soup uid

pub returns-clause-settled : goal.returns-clause-settled
returns-clause-settled c stores q at apart formed = settled-looked-up stores apart formed q at
