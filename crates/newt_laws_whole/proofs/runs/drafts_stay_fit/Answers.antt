use Rattle.newt_laws_whole.proofs.Fits.{drafts-fit}
use Rattle.newt_laws_whole.proofs.runs.drafts_stay_fit.Goals as goal

pub returns : goal.returns
returns c = drafts-fit
