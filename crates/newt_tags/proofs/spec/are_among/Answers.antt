use Rattle.std.proofs.Common.{rules}
use Rattle.newt_spec_query.specs.Tags.{is_among}
use Rattle.newt_tags.proofs.Bits.{all_on, all_done}
use Rattle.newt_tags.proofs.spec.are_among.Goals as goal

pub loop-symbol-preserved : goal.loop-symbol-preserved
loop-symbol-preserved c = all_on (is_among c.args.names.now) c.args.symbols.now c.loop-symbol.symbol-index c.loop-symbol.rest c.symbol-item.result _ c.loop-symbol-test.true (search rules) c.loop-symbol.invariant

pub returns : goal.returns
returns c = all_done (is_among c.args.names.now) c.args.symbols.now c.loop-symbol.symbol-index c.loop-symbol.rest _ c.loop-symbol-test.false c.loop-symbol.invariant
