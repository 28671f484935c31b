use Rattle.std.proofs.Common.{refl, rules}
use Rattle.newt_journal.proofs.Piecing.{torn_in}
use Rattle.newt_journal.proofs.piece.program_piece.Goals as goal

pub returns-clause-writes : goal.returns-clause-writes
returns-clause-writes g c = record {
  any_moment = λ t. torn_in _ refl (c.program.ensures.wrote t);
  alone = search rules;
  costs = search rules;
  wears = search rules;
  faults = search rules;
}
