use Rattle.std.proofs.Common.{refl}
use Rattle.byteorder.specs.Endian.{big_bytes}
use Rattle.newt_base.proofs.Writing.{written, big_bytes-be32}
use Rattle.newt_base.proofs.endian.set32.Goals as goal

pub returns : goal.returns
returns c =
    rw (c.write_u32.ensures, ← big_bytes-be32 c.args.value) (written c.args.at _ 4 c.args.out.now (big_bytes 4 c.args.value) c.requires refl)
