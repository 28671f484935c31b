-- The card is put into the slot of the unit.
use Rattle.std.proofs.Common.{sym, Some}
use Rattle.newt_engine_units.proofs.Marked.{slot-set, attached-bound}
use Rattle.newt_engine_units.proofs.units.Units.put.Goals as goal

pub returns-then-is_none-clause-slots : goal.returns-then-is_none-clause-slots
returns-then-is_none-clause-slots g c = slot-set (λ slot. record slot { card = Some c.args.card }) c.args.self.now.slots.items c.args.unit c.unit.inside.0 c.index_mut.result.now (sym c.unit.view_is)
    (attached-bound c.args.self.now.slots.items c.args.unit c.unit.inside.0 (sym c.unit.view_is) c.requires) c.index_mut.ensures.value

pub returns-else-is_none-clause-slots : goal.returns-else-is_none-clause-slots
returns-else-is_none-clause-slots g c = slot-set (λ slot. record slot { card = Some c.args.card }) c.args.self.now.slots.items c.args.unit c.unit.inside.0 c.index_mut.result.now (sym c.unit.view_is)
    (attached-bound c.args.self.now.slots.items c.args.unit c.unit.inside.0 (sym c.unit.view_is) c.requires) c.index_mut.ensures.value
