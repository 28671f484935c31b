use Rattle.newt_laws_whole.proofs.Watched.{notes-taken}
use Rattle.newt_laws_whole.proofs.watches.notes_are_taken_once.Goals as goal

pub returns : goal.returns
returns c = notes-taken
