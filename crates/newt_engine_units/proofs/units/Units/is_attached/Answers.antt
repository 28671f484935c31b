-- What the slot says.
use Rattle.std.proofs.Common.{ap}
use Rattle.newt_engine_units.specs.Looks.{has_device}
use Rattle.newt_engine_units.proofs.Looked.{there, past}
use Rattle.newt_engine_units.proofs.units.Units.is_attached.Goals as goal

pub returns-in-Some : goal.returns-in-Some
returns-in-Some g c =
    let at = c.in-Some.ensures.lookup in
    ap has_device (there c.deref.ensures.value c.unit.view_is at.3.0 at.1)

pub returns-in-None : goal.returns-in-None
returns-in-None g c =
    ap has_device (past c.deref.ensures.value c.unit.view_is c.in-None.ensures.lookup.3)
