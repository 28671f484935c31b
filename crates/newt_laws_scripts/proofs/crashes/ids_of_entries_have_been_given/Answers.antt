use Rattle.newt_laws_scripts.proofs.Sounding.{added-given, alias-given, mounted-given, resolved-given}
use Rattle.newt_laws_scripts.proofs.crashes.ids_of_entries_have_been_given.Goals as goal

pub returns-clause-there : goal.returns-clause-there
returns-clause-there c = mounted-given

pub returns-clause-resolved : goal.returns-clause-resolved
returns-clause-resolved c = resolved-given

pub returns-clause-replied : goal.returns-clause-replied
returns-clause-replied c = alias-given

pub returns-clause-added : goal.returns-clause-added
returns-clause-added c = added-given
