use Rattle.std.proofs.Common.{◌≡◌, ◌<◌, ◌^◌, take}
use Rattle.newt_spec_literal.specs.Words.{hex_number}
use Rattle.newt_lit_read.proofs.words.hex_number.Given as goal

abbrev pub invariant-loop-c : goal.invariant-loop-c
invariant-loop-c l = record {
  so_far : l.number ≡ hex_number (take l.c-index l.digits);
  below : l.number < 16 ^ l.c-index;
}
