use Rattle.newt_spec_store.specs.Cost.{soup_bytes}
use Rattle.newt_soupdir.specs.Bare.{bare_soup}
use Rattle.newt_soupdir.proofs.Spelled.{spelled}
use Rattle.std.proofs.Common.{arith}
use Rattle.std.proofs.lemmas.Grind.{common_steps}
use Rattle.newt_soupdir.proofs.write.put_soups.Goals as goal

pub returns : goal.returns
returns c = spelled bare_soup soup_bytes c.loop-row.out.items c.args.out.now.items c.args.soups.now c.loop-row.row-index c.loop-row-test.false c.loop-row.invariant

pub loop-row-preserved : goal.loop-row-preserved
loop-row-preserved c = grind (arith, common_steps)
