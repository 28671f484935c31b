use Rattle.std.proofs.Common.{◌∙◌, refl}
use Rattle.newt_index.proofs.Change.{sorted_seen}
use Rattle.newt_index.proofs.Walk.{lent_holds, at_seen}
use Rattle.newt_index.proofs.sorted.Index.at_or_after.Goals as goal

pub returns-clause-found : goal.returns-clause-found
returns-clause-found c key probe =
    c.pair.ensures
    ∙ at_seen c.args.self.now c.args.probe.now c.self.inside.spec c.keys.result.now.entries c.range.result c.next.new.self
    (record { bytes = c.probe.inside.slot.bytes; uid = 0 }) key c.next.result
    (lent_holds c.args.self.now c.self.inside.spec c.self.inside.slots c.keys.result.now.entries c.keys.ensures c.self.view_is c.self.invariant) c.probe.view_is probe refl (c.range.ensures.between tt) c.next.ensures.steps

pub returns-clause-sorted : goal.returns-clause-sorted
returns-clause-sorted c = sorted_seen c.args.self.now c.self.inside.spec c.keys.result.now.entries (lent_holds c.args.self.now c.self.inside.spec c.self.inside.slots c.keys.result.now.entries c.keys.ensures c.self.view_is c.self.invariant) c.range.ensures.ordered
