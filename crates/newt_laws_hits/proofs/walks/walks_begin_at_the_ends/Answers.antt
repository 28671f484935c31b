use Rattle.newt_laws_hits.proofs.Stepping.{from-start, beyond-finish, from-finish, beyond-start}
use Rattle.newt_laws_hits.proofs.walks.walks_begin_at_the_ends.Goals as goal

pub returns-clause-from_start : goal.returns-clause-from_start
returns-clause-from_start c = from-start

pub returns-clause-beyond_finish : goal.returns-clause-beyond_finish
returns-clause-beyond_finish c = beyond-finish

pub returns-clause-from_finish : goal.returns-clause-from_finish
returns-clause-from_finish c = from-finish

pub returns-clause-beyond_start : goal.returns-clause-beyond_start
returns-clause-beyond_start c = beyond-start
