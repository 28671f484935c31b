use Rattle.std.proofs.Common.{◌≤◌, length}
use Rattle.newt_lit_read.specs.Tokens.{next_byte, pieces_at, single}
use Rattle.newt_lit_read.proofs.PieceLoop.{Going}
use Rattle.newt_lit_read.proofs.pieces.bytes.Given as goal

abbrev pub invariant-loop-bytes : goal.invariant-loop-bytes
invariant-loop-bytes l = record {
  going : Going single next_byte l.bytes.items l.rest (pieces_at single next_byte (length l.text) l.text);
  within : length l.rest ≤ length l.text;
}

abbrev pub decreases-loop-bytes : goal.decreases-loop-bytes
decreases-loop-bytes l = length l.rest
