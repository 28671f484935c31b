use Rattle.newt_laws_whole.proofs.Sound.{first-sound, sound-formed, sound-run, sound-step}
use Rattle.newt_laws_whole.proofs.worlds.wholes_stay_sound.Goals as goal

pub returns-clause-first : goal.returns-clause-first
returns-clause-first c = first-sound

pub returns-clause-step : goal.returns-clause-step
returns-clause-step c = sound-step

pub returns-clause-run : goal.returns-clause-run
returns-clause-run c = sound-run

pub returns-clause-formed : goal.returns-clause-formed
returns-clause-formed c = sound-formed
