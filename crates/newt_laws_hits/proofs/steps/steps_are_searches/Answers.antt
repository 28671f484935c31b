use Rattle.newt_laws_hits.proofs.Searches.{first-search, last-search, next-search, previous-search, at_key-search}
use Rattle.newt_laws_hits.proofs.steps.steps_are_searches.Goals as goal

pub returns-clause-first : goal.returns-clause-first
returns-clause-first c = first-search

pub returns-clause-last : goal.returns-clause-last
returns-clause-last c = last-search

pub returns-clause-next : goal.returns-clause-next
returns-clause-next c stores q at apart formed = next-search stores q apart formed at

pub returns-clause-previous : goal.returns-clause-previous
returns-clause-previous c stores q at apart formed = previous-search stores q apart formed at

pub returns-clause-at_key : goal.returns-clause-at_key
returns-clause-at_key c stores q k apart formed = at_key-search stores q apart formed k
