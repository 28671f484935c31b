use Rattle.std.proofs.Common.{rules}
use Rattle.newt_host.specs.Moments.{image}
use Rattle.newt_host.proofs.Moments.{Leaves-weaken}
use Rattle.newt_host.proofs.Outside.{same_cards}
use Rattle.newt_journal.proofs.Repairing.{mended, same_reading, still_held}
use Rattle.newt_journal.proofs.journal.Journal.repair.Goals as goal

pub returns-in_err-settle_votes-clause-writes : goal.returns-in_err-settle_votes-clause-writes
returns-in_err-settle_votes-clause-writes g c = record {
  any_moment = λ t. Leaves-weaken (mended c.args.self.now (g.H.Host.outside c.args.host.now).now
      (c.requires.stands.held t)) (c.settle_votes.ensures.writes.any_moment t);
  alone = search rules;
  costs = search rules;
  wears = search rules;
  faults = search rules;
}

pub returns-clause-stands : goal.returns-clause-stands
returns-clause-stands g c = record {
  has = same_cards c.settle_votes.ensures.writes.alone.cards c.requires.stands.has;
  held = λ t. still_held c.args.self.now (g.H.Host.outside c.args.host.now).now
      (c.requires.stands.held t) (g.H.Host.outside c.settle_votes.new.host).now
      ((c.in_ok-settle_votes.ensures.settled t).kept) ((c.in_ok-settle_votes.ensures.settled t).durable);
}

pub returns-clause-reads : goal.returns-clause-reads
returns-clause-reads g c t = same_reading c.args.self.now (g.H.Host.outside c.args.host.now).now
    (c.requires.stands.held t)
    (image c.args.self.now.unit (g.H.Host.outside c.settle_votes.new.host).now)
    ((c.in_ok-settle_votes.ensures.settled t).kept)

pub returns-clause-writes : goal.returns-clause-writes
returns-clause-writes g c = record {
  any_moment = λ t. Leaves-weaken (mended c.args.self.now (g.H.Host.outside c.args.host.now).now
      (c.requires.stands.held t)) (c.settle_votes.ensures.writes.any_moment t);
  alone = search rules;
  costs = search rules;
  wears = search rules;
  faults = search rules;
}
