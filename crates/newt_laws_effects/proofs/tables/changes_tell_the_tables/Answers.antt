use Rattle.newt_laws_effects.proofs.Telling.{row-tells}
use Rattle.newt_laws_effects.proofs.tables.changes_tell_the_tables.Goals as goal

pub returns : goal.returns
returns c = row-tells
