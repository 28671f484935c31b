use Rattle.std.proofs.Common.{◌≤◌, length}
use Rattle.newt_spec_literal.specs.Words.{units_of}
use Rattle.newt_lit_read.specs.Tokens.{next_in_string, pieces_at}
use Rattle.newt_lit_read.proofs.PieceLoop.{Going}
use Rattle.newt_lit_read.proofs.pieces.units.Given as goal

abbrev pub invariant-loop-units : goal.invariant-loop-units
invariant-loop-units l = record {
  going : Going units_of next_in_string l.units.items l.rest (pieces_at units_of next_in_string (length l.text) l.text);
  within : length l.rest ≤ length l.text;
}

abbrev pub decreases-loop-units : goal.decreases-loop-units
decreases-loop-units l = length l.rest
