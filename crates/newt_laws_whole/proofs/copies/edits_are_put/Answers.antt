use Rattle.newt_laws_whole.proofs.Fits.{edit-put}
use Rattle.newt_laws_whole.proofs.copies.edits_are_put.Goals as goal

pub returns : goal.returns
returns c = edit-put
