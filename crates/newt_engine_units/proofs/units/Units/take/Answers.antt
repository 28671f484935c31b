-- The card is taken from the slot of the unit.
use Rattle.std.proofs.Common.{sym, None}
use Rattle.newt_engine_units.proofs.Calls.{mounted-bound}
use Rattle.newt_engine_units.proofs.Marked.{slot-set}
use Rattle.newt_engine_units.proofs.units.Units.take.Goals as goal

pub returns-clause-slots : goal.returns-clause-slots
returns-clause-slots g c = slot-set (λ slot. record slot { card = None }) c.args.self.now.slots.items c.args.unit c.unit.inside.0 c.index_mut.result.now (sym c.unit.view_is)
    (mounted-bound c.args.self.now.slots.items c.args.unit c.unit.inside.0 (sym c.unit.view_is) c.requires) c.index_mut.ensures.value
