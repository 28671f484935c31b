use Rattle.newt_laws_scripts.proofs.Sounding.{alias-later, alias-leads}
use Rattle.newt_laws_scripts.proofs.crashes.aliases_lead_to_their_entry_or_to_none.Goals as goal

pub returns-clause-next : goal.returns-clause-next
returns-clause-next c = alias-leads

pub returns-clause-later : goal.returns-clause-later
returns-clause-later c = alias-later
