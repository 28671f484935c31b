use Rattle.std.proofs.Common.{sym}
use Rattle.newt_base.proofs.HexTexts.{hex_bytes-read, hex_bytes-refused}
use Rattle.newt_base.proofs.hexadecimal.hex_read.Goals as goal

pub returns-in_err-decode-clause-not_hex : goal.returns-in_err-decode-clause-not_hex
returns-in_err-decode-clause-not_hex c =
    λ fault. let told = rw fault at c.from_residual.ensures.1 in hex_bytes-refused c.args.text.now c.in_err-decode.field-0.0 c.in_err-decode.ensures.err (sym told)

pub returns-clause-ok : goal.returns-clause-ok
returns-clause-ok c = hex_bytes-read c.args.text.now c.in_ok-decode.field-0.items c.in_ok-decode.ensures.ok
