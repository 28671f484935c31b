use Rattle.newt_index.proofs.Change.{forgotten_seen}
use Rattle.newt_index.proofs.sorted.Index.forget.Goals as goal

pub returns : goal.returns
returns c =
    (forgotten_seen c.args.self.now c.self.inside.spec c.self.inside.slots c.remove_id.new.self c.uid.inside.0 c.args.uid c.self.view_is c.self.invariant c.uid.view_is c.remove_id.ensures).0

pub invariant_of-self : goal.invariant_of-self
invariant_of-self c =
    (forgotten_seen c.args.self.now c.self.inside.spec c.self.inside.slots c.remove_id.new.self c.uid.inside.0 c.args.uid c.self.view_is c.self.invariant c.uid.view_is c.remove_id.ensures).1
