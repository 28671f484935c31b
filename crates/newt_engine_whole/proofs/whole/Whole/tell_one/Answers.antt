-- One note is given to the watches.
use Rattle.std.proofs.Common.{refl}
use Rattle.newt_engine_whole.proofs.whole.Whole.tell_one.Goals as goal

pub returns : goal.returns
returns g c = record { watches = λ ws kept. c.note.ensures ws kept; world = refl; works = refl }
