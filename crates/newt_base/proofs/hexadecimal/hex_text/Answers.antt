use Rattle.std.proofs.Common.{◌∙◌, arith}
use Rattle.newt_base.proofs.HexTexts.{encode_upper-hex_text}
use Rattle.newt_base.proofs.hexadecimal.hex_text.Goals as goal

pub returns : goal.returns
returns c =
    rw c.into_bytes.ensures.value (c.in_ok-encode_upper.ensures ∙ encode_upper-hex_text c.args.bytes.now (λ k. omega (arith, c.type_inv.bytes k)))
