use Rattle.std.proofs.Common.{rules}
use Rattle.newt_host.proofs.Outside.{length-blank}
use Rattle.newt_journal.proofs.Piecing.{torn_in}
use Rattle.newt_journal.proofs.piece.erase_block.Goals as goal

pub returns-clause-writes : goal.returns-clause-writes
returns-clause-writes g c = record {
  any_moment = λ t. torn_in 4096 (length-blank 4096) (c.erase.ensures.wrote t);
  alone = search rules;
  costs = search rules;
  wears = search rules;
  faults = search rules;
}
