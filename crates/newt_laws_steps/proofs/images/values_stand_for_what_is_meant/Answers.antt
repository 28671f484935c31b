use Rattle.newt_laws_steps.proofs.StoodFor.{known-stands, meant-stands, stood-for-meant}
use Rattle.newt_laws_steps.proofs.images.values_stand_for_what_is_meant.Goals as goal

pub returns-clause-known : goal.returns-clause-known
returns-clause-known c = known-stands

pub returns-clause-meant : goal.returns-clause-meant
returns-clause-meant c = meant-stands

pub returns-clause-others : goal.returns-clause-others
returns-clause-others c = stood-for-meant
