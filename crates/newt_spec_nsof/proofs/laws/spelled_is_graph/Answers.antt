use Rattle.newt_spec_nsof.proofs.Normal as normal
use Rattle.newt_spec_nsof.proofs.laws.spelled_is_graph.Goals as goal

pub returns : goal.returns
returns c = normal.spelled_is_graph
