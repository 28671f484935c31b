use Rattle.newt_index.proofs.Change.{removed_seen}
use Rattle.newt_index.proofs.sorted.Index.remove.Goals as goal

pub returns-clause-ok : goal.returns-clause-ok
returns-clause-ok c =
    (removed_seen c.args.self.now c.self.inside.spec c.self.inside.slots c.remove.new.self c.in_ok-slot.slot c.args.key.now c.args.uid
    c.self.view_is c.self.invariant c.requires c.in_ok-slot.ensures.bytes c.in_ok-slot.ensures.uid c.remove.ensures).0

pub invariant_of-self : goal.invariant_of-self
invariant_of-self c =
    (removed_seen c.args.self.now c.self.inside.spec c.self.inside.slots c.remove.new.self c.in_ok-slot.slot c.args.key.now c.args.uid
    c.self.view_is c.self.invariant c.requires c.in_ok-slot.ensures.bytes c.in_ok-slot.ensures.uid c.remove.ensures).1
