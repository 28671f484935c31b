use Rattle.newt_query.proofs.Passing.{passes_kept}
use Rattle.newt_query.proofs.laws.what_is_at_hand_decides.Goals as goal

pub returns : goal.returns
returns c = passes_kept
