use Rattle.std.proofs.Common.{arith, sym, ◌∙◌}
use Rattle.newt_graph.proofs.Drafts.{alike_within}
use Rattle.newt_nsof_read.proofs.met.Seen.find.Goals as goal

pub overflow_cast-result : goal.overflow_cast-result
overflow_cast-result c =
    let within = alike_within c.args.name.now c.deref.result.now c.in-Some-find_alike.k (sym c.find_alike.ensures ∙ c.in-Some-find_alike.is) in
    omega (arith, within, c.deref.ensures.len, c.self.invariant.few)
