use Rattle.std.proofs.lemmas.Result.{err_from_is_err_and}
use Rattle.newt_soupdir.specs.Reading.{symbol_at}
use Rattle.newt_soupdir.proofs.Loop.{goes_on, ends, is_done}
use Rattle.newt_soupdir.proofs.declarations.symbols.Goals as goal

pub returns-in_err-one : goal.returns-in_err-one
returns-in_err-one c =
    let p = err_from_is_err_and c.from_residual.result c.from_residual.ensures.1 in
    rw (p.1, p.2) (ends c.in_err-one.field-0.0 symbol_at c.loop.symbols.items c.args.count c.loop.counter c.loop.rest.now _ c.loop-test.true c.in_err-one.ensures c.loop.invariant)

pub loop-preserved : goal.loop-preserved
loop-preserved c =
    rw c.in_ok-push.ensures.items (goes_on symbol_at c.loop.symbols.items c.args.count c.loop.counter c.loop.rest.now c.in_ok-one.one c.in_ok-one.after.now _ c.loop-test.true c.in_ok-one.ensures c.loop.invariant)

pub returns : goal.returns
returns c = is_done symbol_at c.loop.symbols.items c.args.count c.loop.counter c.loop.rest.now _ c.loop-test.false c.loop.invariant
