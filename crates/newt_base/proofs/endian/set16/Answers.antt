use Rattle.std.proofs.Common.{refl}
use Rattle.newt_base.proofs.Writing.{written}
use Rattle.newt_base.specs.Text.{be16}
use Rattle.newt_base.proofs.endian.set16.Goals as goal

pub returns : goal.returns
returns c = rw c.write_u16.ensures (written c.args.at _ 2 c.args.out.now (be16 c.args.value) c.requires refl)
