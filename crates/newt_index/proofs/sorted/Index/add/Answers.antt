use Rattle.newt_index.proofs.Change.{put_seen}
use Rattle.newt_index.proofs.sorted.Index.add.Goals as goal

pub invariant_of-self-2 : goal.invariant_of-self-2
invariant_of-self-2 c =
    (put_seen c.args.self.now c.self.inside.spec c.self.inside.slots c.insert.new.self c.in_ok-slot.slot c.args.key c.args.uid
    c.self.view_is c.self.invariant c.requires c.in_ok-slot.ensures.bytes c.in_ok-slot.ensures.uid c.in_ok-slot.ensures.fits c.in_ok-insert.ensures.ok).1

pub returns-clause-ok : goal.returns-clause-ok
returns-clause-ok c =
    (put_seen c.args.self.now c.self.inside.spec c.self.inside.slots c.insert.new.self c.in_ok-slot.slot c.args.key c.args.uid
    c.self.view_is c.self.invariant c.requires c.in_ok-slot.ensures.bytes c.in_ok-slot.ensures.uid c.in_ok-slot.ensures.fits c.in_ok-insert.ensures.ok).0
