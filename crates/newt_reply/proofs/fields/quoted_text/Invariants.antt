use Rattle.std.proofs.Common.{◌≡◌, ◌++◌, codes, flat_map, take}
use Rattle.newt_spec_literal.specs.Printed.{escaped}
use Rattle.newt_reply.proofs.fields.quoted_text.Given as goal

abbrev pub invariant-loop-byte : goal.invariant-loop-byte
invariant-loop-byte l = l.text.items ≡ codes "\"" ++ flat_map (escaped (codes "\"\\")) (take l.byte-index l.bytes)
