use Rattle.std.proofs.Common.{◌≡◌, ◌++◌, take}
use Rattle.newt_base.specs.Text.{hex_text}
use Rattle.newt_lit_print.proofs.tokens.hex.Given as goal

abbrev pub invariant-loop-byte : goal.invariant-loop-byte
invariant-loop-byte l = l.out.items ≡ l.fn.out.items ++ hex_text (take l.byte-index l.bytes)
