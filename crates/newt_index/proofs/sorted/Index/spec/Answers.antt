use Rattle.newt_index.proofs.Change.{sorted_seen}
use Rattle.newt_index.proofs.Walk.{lent_holds}
use Rattle.newt_index.proofs.sorted.Index.spec.Goals as goal

pub returns-clause-sorted : goal.returns-clause-sorted
returns-clause-sorted c = sorted_seen c.args.self.now c.self.inside.spec c.keys.result.now.entries (lent_holds c.args.self.now c.self.inside.spec c.self.inside.slots c.keys.result.now.entries c.keys.ensures c.self.view_is c.self.invariant) c.len-count.ensures.ordered
