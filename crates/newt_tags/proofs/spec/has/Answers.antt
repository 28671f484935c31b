use Rattle.std.proofs.Common.{rules}
use Rattle.newt_base.specs.Names.{same_name}
use Rattle.newt_tags.proofs.Bits.{any_on, any_done}
use Rattle.newt_tags.proofs.spec.has.Goals as goal

pub loop-symbol-preserved : goal.loop-symbol-preserved
loop-symbol-preserved c = any_on (same_name c.args.name.now) c.args.symbols.now c.loop-symbol.symbol-index c.loop-symbol.rest c.symbol-item.result _ c.loop-symbol-test.true (search rules) c.loop-symbol.invariant

pub returns : goal.returns
returns c = any_done (same_name c.args.name.now) c.args.symbols.now c.loop-symbol.symbol-index c.loop-symbol.rest _ c.loop-symbol-test.false c.loop-symbol.invariant
