use Rattle.newt_laws_hits.proofs.Numbers.{hits-few}
use Rattle.newt_laws_hits.proofs.hits.hits_are_few.Goals as goal

pub returns : goal.returns
returns c = hits-few
