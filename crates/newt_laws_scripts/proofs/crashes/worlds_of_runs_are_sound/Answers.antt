use Rattle.newt_laws_scripts.proofs.Sounding.{counted-sound, ran-sound}
use Rattle.newt_laws_scripts.proofs.crashes.worlds_of_runs_are_sound.Goals as goal

pub returns-clause-run : goal.returns-clause-run
returns-clause-run c = ran-sound

pub returns-clause-counted : goal.returns-clause-counted
returns-clause-counted c = counted-sound
