-- Nothing is watched, and no copy is open.
use Rattle.std.proofs.Common.{replicate, None}
use Rattle.newt_engine_whole.proofs.Starting.{none-fit}
use Rattle.newt_engine_whole.proofs.whole.Whole.new.Goals as goal

pub returns-clause-stands : goal.returns-clause-stands
returns-clause-stands g c = record {
  world = c.in_ok-world.ensures.stands;
  watches = (replicate 8 None, c.in_ok-new.ensures);
  drafts = λ t. none-fit _ c.in_ok-new-2.ensures;
}

pub returns-clause-means : goal.returns-clause-means
returns-clause-means g c t = record {
  world = c.in_ok-world.ensures.world t;
  watches = c.in_ok-new.ensures;
  copies = c.in_ok-new-2.ensures;
}
