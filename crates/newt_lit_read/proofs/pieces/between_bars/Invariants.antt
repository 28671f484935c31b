use Rattle.std.proofs.Common.{◌≤◌, length}
use Rattle.newt_lit_read.specs.Tokens.{next_in_name, pieces_at, single}
use Rattle.newt_lit_read.proofs.PieceLoop.{Going}
use Rattle.newt_lit_read.proofs.pieces.between_bars.Given as goal

abbrev pub invariant-loop-name : goal.invariant-loop-name
invariant-loop-name l = record {
  going : Going single next_in_name l.name.items l.rest (pieces_at single next_in_name (length l.text) l.text);
  within : length l.rest ≤ length l.text;
}

abbrev pub decreases-loop-name : goal.decreases-loop-name
decreases-loop-name l = length l.rest
