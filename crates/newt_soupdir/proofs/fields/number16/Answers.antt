use Rattle.std.proofs.Common.{arith}
use Rattle.newt_soupdir.proofs.Numbers.{number16_is}
use Rattle.newt_soupdir.proofs.fields.number16.Goals as goal

pub returns : goal.returns
returns c = rw c.be16.ensures (number16_is c.args.bytes.now (omega arith))
