use Rattle.std.proofs.Common.{arith}
use Rattle.newt_soupdir.proofs.Numbers.{number32_is}
use Rattle.newt_soupdir.proofs.fields.number32.Goals as goal

pub returns : goal.returns
returns c = rw c.be32.ensures (number32_is c.args.bytes.now (omega arith))
