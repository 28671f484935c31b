use Rattle.std.proofs.Common.{rules}
use Rattle.newt_journal.specs.Bank.{bank_number}
use Rattle.newt_journal.proofs.Voting.{block_in}
use Rattle.newt_journal.proofs.Settle.{unchanged, rewritten, settled_now}
use Rattle.newt_journal.specs.Calls.{votes}
use Rattle.newt_journal.specs.Repairs.{differs}
use Rattle.newt_journal.proofs.Adding.{did-read, did-write, then}
use Rattle.newt_journal.proofs.Mending.{within, does_differ, read_alone, rewritten_once}
use Rattle.newt_journal.proofs.repair.settle_vote.Goals as goal

pub returns-in_err-vote-clause-writes : goal.returns-in_err-vote-clause-writes
returns-in_err-vote-clause-writes g c = record {
  any_moment = λ t. unchanged c.args.unit c.args.block (bank_number c.args.bank) _ _ (c.requires.rest.durable t) c.read_byte.ensures.reads.moment;
  alone = search rules;
  costs = search rules;
  wears = search rules;
  faults = search rules;
}

pub returns-then-vote-number-clause-writes : goal.returns-then-vote-number-clause-writes
returns-then-vote-number-clause-writes g c = record {
  any_moment = λ t. unchanged c.args.unit c.args.block (bank_number c.args.bank) _ _ (c.requires.rest.durable t) c.read_byte.ensures.reads.moment;
  alone = search rules;
  costs = search rules;
  wears = search rules;
  faults = search rules;
}

pub returns-in_err-rewrite_vote-clause-writes : goal.returns-in_err-rewrite_vote-clause-writes
returns-in_err-rewrite_vote-clause-writes g c = record {
  any_moment = λ t. rewritten c.args.unit c.args.block (bank_number c.args.bank) (g.H.Host.outside c.args.host.now).now _ (c.requires.rest.durable t) c.read_byte.ensures.reads.moment _ _ c.number.ensures (c.in_ok-vote.ensures.byte t) c.if-vote-number.false (c.rewrite_vote.ensures.writes.any_moment t);
  alone = search rules;
  costs = search rules;
  wears = search rules;
  faults = search rules;
}

pub returns-clause-kept : goal.returns-clause-kept
returns-clause-kept g c t = settled_now c.args.unit c.args.block (bank_number c.args.bank) (g.H.Host.outside c.args.host.now).now _ (c.requires.rest.durable t) c.read_byte.ensures.reads.moment _ _ c.number.ensures (c.in_ok-vote.ensures.byte t) c.if-vote-number.false _ (c.in_ok-rewrite_vote.ensures.voted t)
    (block_in _ _ _ _ (g.met.H.Host.sized c.args.host.now c.args.unit t) c.requires.rest.has.count c.requires.inside)

pub returns-clause-writes : goal.returns-clause-writes
returns-clause-writes g c = record {
  any_moment = λ t. rewritten c.args.unit c.args.block (bank_number c.args.bank) (g.H.Host.outside c.args.host.now).now _ (c.requires.rest.durable t) c.read_byte.ensures.reads.moment _ _ c.number.ensures (c.in_ok-vote.ensures.byte t) c.if-vote-number.false (c.rewrite_vote.ensures.writes.any_moment t);
  alone = search rules;
  costs = search rules;
  wears = search rules;
  faults = search rules;
}

pub returns-in_err-vote-clause-bounded : goal.returns-in_err-vote-clause-bounded
returns-in_err-vote-clause-bounded g c t = read_alone c.read_byte.ensures.reads

pub returns-then-vote-number-clause-bounded : goal.returns-then-vote-number-clause-bounded
returns-then-vote-number-clause-bounded g c t = read_alone c.read_byte.ensures.reads

pub returns-in_err-rewrite_vote-clause-bounded : goal.returns-in_err-rewrite_vote-clause-bounded
returns-in_err-rewrite_vote-clause-bounded g c t = rewritten_once c.read_byte.ensures.reads c.rewrite_vote.ensures.writes
    (does_differ (bank_number c.args.bank) _ _ c.args.block _ c.number.ensures (c.in_ok-vote.ensures.byte t) c.if-vote-number.false)

pub returns-clause-bounded : goal.returns-clause-bounded
returns-clause-bounded g c t = rewritten_once c.read_byte.ensures.reads c.rewrite_vote.ensures.writes
    (does_differ (bank_number c.args.bank) _ _ c.args.block _ c.number.ensures (c.in_ok-vote.ensures.byte t) c.if-vote-number.false)
