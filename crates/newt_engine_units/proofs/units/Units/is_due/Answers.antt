-- What the slot says.
use Rattle.std.proofs.Common.{ap}
use Rattle.newt_engine_units.specs.Stands.{due_of}
use Rattle.newt_engine_units.proofs.Looked.{there, past}
use Rattle.newt_engine_units.proofs.units.Units.is_due.Goals as goal

pub returns-in-Some : goal.returns-in-Some
returns-in-Some g c =
    let at = c.in-Some.ensures.lookup in
    ap due_of (there c.deref.ensures.value c.unit.view_is at.3.0 at.1)

pub returns-in-None : goal.returns-in-None
returns-in-None g c =
    ap due_of (past c.deref.ensures.value c.unit.view_is c.in-None.ensures.lookup.3)
