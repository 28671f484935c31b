use Rattle.std.proofs.Common.{◌+◌, arith, ◌∙◌, ap}
use Rattle.std.proofs.lemmas.List.{take_all}
use Rattle.newt_check.proofs.Loops.{odds, odds-more, odds-few}
use Rattle.newt_check.proofs.larges.count_odd.Goals as goal

pub loop-id-preserved : goal.loop-id-preserved
loop-id-preserved c few =
    let ids = c.args.ids.now in
    let i = c.loop-id.id-index in
    let more = odds-more ids i (omega arith) in
    let so-far = c.loop-id.invariant few in
    let low = odds-few ids (i + 1) in
    omega (arith, more, so-far, low, few, c.saturating_add-count.ensures)

pub returns : goal.returns
returns c few = c.loop-id.invariant few ∙ ap odds (take_all c.loop-id.id-index c.args.ids.now (omega arith))
