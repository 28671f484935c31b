-- The slot of the unit has no card, and a sync is due.
use Rattle.std.proofs.Common.{sym, true, None}
use Rattle.newt_engine_units.proofs.Marked.{slot-set, attached-bound}
use Rattle.newt_engine_units.proofs.units.Units.lose.Goals as goal

pub returns-clause-slots : goal.returns-clause-slots
returns-clause-slots g c = slot-set (λ slot. record slot { due = true; card = None }) c.args.self.now.slots.items c.args.unit c.unit.inside.0 c.index_mut-slot.result.now (sym c.unit.view_is)
    (attached-bound c.args.self.now.slots.items c.args.unit c.unit.inside.0 (sym c.unit.view_is) c.requires) c.index_mut-slot.ensures.value
