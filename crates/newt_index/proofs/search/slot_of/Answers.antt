-- The slot has the id that is given.
use Rattle.newt_index.proofs.search.slot_of.Goals as goal

pub returns-clause-uid : goal.returns-clause-uid
returns-clause-uid c = c.uid.view_is
