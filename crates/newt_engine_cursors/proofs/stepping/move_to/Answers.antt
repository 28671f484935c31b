-- Nothing is known of the place.
use Rattle.newt_spec_graph.proofs.Lists.{both-ways}
use Rattle.newt_engine_cursors.proofs.Calls.{settles-as}
use Rattle.newt_engine_cursors.proofs.stepping.move_to.Goals as goal

pub returns-clause-moved : goal.returns-clause-moved
returns-clause-moved g c = settles-as c.come_to.ensures.moved (λ w v moved. moved (λ e. absurd (both-ways e)))

pub returns-clause-fetches : goal.returns-clause-fetches
returns-clause-fetches g c t apart un = c.come_to.ensures.fetches t apart (λ e. absurd (both-ways e)) un
