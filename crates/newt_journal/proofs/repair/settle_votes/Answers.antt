use Rattle.std.proofs.Common.{◌∙◌, refl}
use Rattle.newt_host.proofs.Outside.{stops-err, stops-ok}
use Rattle.newt_journal.proofs.Repairing.{any_0, any_1, any_2, any_3, repaired, alike_now, order}
use Rattle.newt_journal.proofs.Adding.{did-read, did-write, then, widen}
use Rattle.std.proofs.Common.{ℕ, ◌-◌, List, arith}
use Rattle.newt_host.specs.Moments.{image}
use Rattle.newt_journal.specs.Bank.{bank_number, other_bank}
use Rattle.newt_journal.specs.Calls.{votes}
use Rattle.newt_journal.proofs.Mending.{within, after_1, after_2, after_3, before_it, most_1, most_2, most_3}
use Rattle.newt_journal.proofs.repair.settle_votes.Goals as goal

pub returns-in_err-third-clause-writes : goal.returns-in_err-third-clause-writes
returns-in_err-third-clause-writes g c =
    let did = widen (did-read c.read_byte.ensures.reads) 3 4 3 6 refl in record {
      any_moment = λ t. any_0 c.args.unit c.args.bank (g.H.Host.outside c.args.host.now).now _ (c.requires.rest.durable t) c.read_byte.ensures.reads.moment (c.requires.voted t);
      alone = did.alone;
      costs = did.costs;
      wears = did.wears;
      faults = stops-err c.from_residual.result c.from_residual.ensures.0 (refl)
          c.read_byte.ensures.reads.faults c.in_err-third.ensures.reads.faults.cause;
    }

pub returns-in_err-settle_vote-clause-writes : goal.returns-in_err-settle_vote-clause-writes
returns-in_err-settle_vote-clause-writes g c =
    let did = widen (then (did-read c.read_byte.ensures.reads) (did-write c.settle_vote.ensures.writes)) 3 4 3 6 refl in record {
      any_moment = λ t. any_1 c.args.unit c.args.bank (g.H.Host.outside c.args.host.now).now _ (c.requires.rest.durable t) c.read_byte.ensures.reads.moment (c.requires.voted t) _ _ (c.in_ok-third.ensures.byte t) c.first_to_settle-near.ensures (c.settle_vote.ensures.writes.any_moment t);
      alone = did.alone;
      costs = did.costs;
      wears = did.wears;
      faults = stops-err c.from_residual-in_err-settle_vote.result c.from_residual-in_err-settle_vote.ensures.0 (c.in_ok-third.ensures.reads.faults.no_fault)
          c.settle_vote.ensures.writes.faults c.in_err-settle_vote.ensures.writes.faults.cause;
    }

pub returns-in_err-settle_vote-2-clause-writes : goal.returns-in_err-settle_vote-2-clause-writes
returns-in_err-settle_vote-2-clause-writes g c =
    let did = widen (then (did-read c.read_byte.ensures.reads) (then (did-write c.settle_vote.ensures.writes) (did-write c.settle_vote-2.ensures.writes))) 3 4 3 6 refl in record {
      any_moment = λ t. any_2 c.args.unit c.args.bank (g.H.Host.outside c.args.host.now).now _ (c.requires.rest.durable t) c.read_byte.ensures.reads.moment (c.requires.voted t) _ _ (c.in_ok-third.ensures.byte t) c.first_to_settle-near.ensures (c.settle_vote.ensures.writes.any_moment t) (c.in_ok-settle_vote.ensures.kept t) (c.in_ok-settle_vote.ensures.settled t) (c.settle_vote-2.ensures.writes.any_moment t);
      alone = did.alone;
      costs = did.costs;
      wears = did.wears;
      faults = stops-err c.from_residual-in_err-settle_vote-2.result c.from_residual-in_err-settle_vote-2.ensures.0 (c.in_ok-settle_vote.ensures.writes.faults.no_fault ∙ c.in_ok-third.ensures.reads.faults.no_fault)
          c.settle_vote-2.ensures.writes.faults c.in_err-settle_vote-2.ensures.writes.faults.cause;
    }

pub returns-in_err-settle_vote-3-clause-writes : goal.returns-in_err-settle_vote-3-clause-writes
returns-in_err-settle_vote-3-clause-writes g c =
    let did = widen (then (did-read c.read_byte.ensures.reads) (then (did-write c.settle_vote.ensures.writes) (then (did-write c.settle_vote-2.ensures.writes) (did-write c.settle_vote-3.ensures.writes)))) 3 4 3 6 refl in record {
      any_moment = λ t. any_3 c.args.unit c.args.bank (g.H.Host.outside c.args.host.now).now _ (c.requires.rest.durable t) c.read_byte.ensures.reads.moment (c.requires.voted t) _ _ (c.in_ok-third.ensures.byte t) c.first_to_settle-near.ensures (c.settle_vote.ensures.writes.any_moment t) (c.in_ok-settle_vote.ensures.kept t) (c.in_ok-settle_vote.ensures.settled t) (c.settle_vote-2.ensures.writes.any_moment t) (c.in_ok-settle_vote-2.ensures.kept t) (c.in_ok-settle_vote-2.ensures.settled t) (c.settle_vote-3.ensures.writes.any_moment t);
      alone = did.alone;
      costs = did.costs;
      wears = did.wears;
      faults = stops-err c.from_residual-in_err-settle_vote-3.result c.from_residual-in_err-settle_vote-3.ensures.0 (c.in_ok-settle_vote-2.ensures.writes.faults.no_fault ∙ c.in_ok-settle_vote.ensures.writes.faults.no_fault ∙ c.in_ok-third.ensures.reads.faults.no_fault)
          c.settle_vote-3.ensures.writes.faults c.in_err-settle_vote-3.ensures.writes.faults.cause;
    }

pub returns-clause-settled : goal.returns-clause-settled
returns-clause-settled g c t = record {
  alike = alike_now c.args.unit c.args.bank (g.H.Host.outside c.args.host.now).now _ (c.requires.rest.durable t) c.read_byte.ensures.reads.moment (c.requires.voted t) _ _ (c.in_ok-third.ensures.byte t) c.first_to_settle-near.ensures (c.settle_vote.ensures.writes.any_moment t) (c.in_ok-settle_vote.ensures.kept t) (c.in_ok-settle_vote.ensures.settled t) (c.settle_vote-2.ensures.writes.any_moment t) (c.in_ok-settle_vote-2.ensures.kept t) (c.in_ok-settle_vote-2.ensures.settled t) (g.H.Host.outside c.settle_vote-3.new.host).now (c.in_ok-settle_vote-3.ensures.kept t) (c.in_ok-settle_vote-3.ensures.settled t);
  kept = repaired c.args.unit c.args.bank (g.H.Host.outside c.args.host.now).now _ (c.requires.rest.durable t) c.read_byte.ensures.reads.moment (c.requires.voted t) _ _ (c.in_ok-third.ensures.byte t) c.first_to_settle-near.ensures (c.settle_vote.ensures.writes.any_moment t) (c.in_ok-settle_vote.ensures.kept t) (c.in_ok-settle_vote.ensures.settled t) (c.settle_vote-2.ensures.writes.any_moment t) (c.in_ok-settle_vote-2.ensures.kept t) (c.in_ok-settle_vote-2.ensures.settled t) (g.H.Host.outside c.settle_vote-3.new.host).now (c.in_ok-settle_vote-3.ensures.kept t);
  durable = c.in_ok-settle_vote-3.ensures.durable t;
}

pub returns-clause-writes : goal.returns-clause-writes
returns-clause-writes g c =
    let did = widen (then (did-read c.read_byte.ensures.reads) (then (did-write c.settle_vote.ensures.writes) (then (did-write c.settle_vote-2.ensures.writes) (did-write c.settle_vote-3.ensures.writes)))) 3 4 3 6 refl in record {
      any_moment = λ t. any_3 c.args.unit c.args.bank (g.H.Host.outside c.args.host.now).now _ (c.requires.rest.durable t) c.read_byte.ensures.reads.moment (c.requires.voted t) _ _ (c.in_ok-third.ensures.byte t) c.first_to_settle-near.ensures (c.settle_vote.ensures.writes.any_moment t) (c.in_ok-settle_vote.ensures.kept t) (c.in_ok-settle_vote.ensures.settled t) (c.settle_vote-2.ensures.writes.any_moment t) (c.in_ok-settle_vote-2.ensures.kept t) (c.in_ok-settle_vote-2.ensures.settled t) (c.settle_vote-3.ensures.writes.any_moment t);
      alone = did.alone;
      costs = did.costs;
      wears = did.wears;
      faults = stops-ok tt (c.in_ok-settle_vote-3.ensures.writes.faults.no_fault ∙ c.in_ok-settle_vote-2.ensures.writes.faults.no_fault ∙ c.in_ok-settle_vote.ensures.writes.faults.no_fault ∙ c.in_ok-third.ensures.reads.faults.no_fault);
    }

pub returns-in_err-third-clause-bounded : goal.returns-in_err-third-clause-bounded
returns-in_err-third-clause-bounded g c t =
    within (did-read c.read_byte.ensures.reads) (votes 4 _) (omega arith) (omega arith) (omega arith) (omega arith)

pub returns-in_err-settle_vote-clause-bounded : goal.returns-in_err-settle_vote-clause-bounded
returns-in_err-settle_vote-clause-bounded g c t =
    let u : ℕ = c.args.unit in
    let o = g.H.Host.outside in
    let old = (o c.args.host.now).now in
    let img : List ℕ = image u (o c.read_byte.new.host).now in
    let turn = order u c.args.bank old _ (c.requires.rest.durable t) c.read_byte.ensures.reads.moment (c.requires.voted t) _ _ (c.in_ok-third.ensures.byte t) c.first_to_settle-near.ensures in
    let near : ℕ = c.first_to_settle-near.result in
    before_it u u (bank_number c.args.bank) old _ _ _ c.read_byte.ensures.reads.moment
    (after_1 c.read_byte.ensures.reads c.settle_vote.ensures.writes.alone (c.settle_vote.ensures.bounded t) (most_1 (bank_number c.args.bank) near (3 - near) (bank_number (other_bank c.args.bank)) img turn))

pub returns-in_err-settle_vote-2-clause-bounded : goal.returns-in_err-settle_vote-2-clause-bounded
returns-in_err-settle_vote-2-clause-bounded g c t =
    let u : ℕ = c.args.unit in
    let o = g.H.Host.outside in
    let old = (o c.args.host.now).now in
    let img : List ℕ = image u (o c.read_byte.new.host).now in
    let turn = order u c.args.bank old _ (c.requires.rest.durable t) c.read_byte.ensures.reads.moment (c.requires.voted t) _ _ (c.in_ok-third.ensures.byte t) c.first_to_settle-near.ensures in
    let near : ℕ = c.first_to_settle-near.result in
    before_it u u (bank_number c.args.bank) old _ _ _ c.read_byte.ensures.reads.moment
    (after_2 c.read_byte.ensures.reads c.settle_vote.ensures.writes.alone (c.settle_vote.ensures.bounded t) c.settle_vote-2.ensures.writes.alone (c.settle_vote-2.ensures.bounded t) (most_2 (bank_number c.args.bank) near (3 - near) (bank_number (other_bank c.args.bank)) img turn (image u (o c.settle_vote.new.host).now) (c.in_ok-settle_vote.ensures.kept t)))

pub returns-in_err-settle_vote-3-clause-bounded : goal.returns-in_err-settle_vote-3-clause-bounded
returns-in_err-settle_vote-3-clause-bounded g c t =
    let u : ℕ = c.args.unit in
    let o = g.H.Host.outside in
    let old = (o c.args.host.now).now in
    let img : List ℕ = image u (o c.read_byte.new.host).now in
    let turn = order u c.args.bank old _ (c.requires.rest.durable t) c.read_byte.ensures.reads.moment (c.requires.voted t) _ _ (c.in_ok-third.ensures.byte t) c.first_to_settle-near.ensures in
    let near : ℕ = c.first_to_settle-near.result in
    before_it u u (bank_number c.args.bank) old _ _ _ c.read_byte.ensures.reads.moment
    (after_3 c.read_byte.ensures.reads c.settle_vote.ensures.writes.alone (c.settle_vote.ensures.bounded t) c.settle_vote-2.ensures.writes.alone (c.settle_vote-2.ensures.bounded t) c.settle_vote-3.ensures.writes.alone (c.settle_vote-3.ensures.bounded t) (most_3 (bank_number c.args.bank) near (3 - near) (bank_number (other_bank c.args.bank)) img turn (image u (o c.settle_vote.new.host).now) (c.in_ok-settle_vote.ensures.kept t) (image u (o c.settle_vote-2.new.host).now) (c.in_ok-settle_vote-2.ensures.kept t)))

pub returns-clause-bounded : goal.returns-clause-bounded
returns-clause-bounded g c t =
    let u : ℕ = c.args.unit in
    let o = g.H.Host.outside in
    let old = (o c.args.host.now).now in
    let img : List ℕ = image u (o c.read_byte.new.host).now in
    let turn = order u c.args.bank old _ (c.requires.rest.durable t) c.read_byte.ensures.reads.moment (c.requires.voted t) _ _ (c.in_ok-third.ensures.byte t) c.first_to_settle-near.ensures in
    let near : ℕ = c.first_to_settle-near.result in
    before_it u u (bank_number c.args.bank) old _ _ _ c.read_byte.ensures.reads.moment
    (after_3 c.read_byte.ensures.reads c.settle_vote.ensures.writes.alone (c.settle_vote.ensures.bounded t) c.settle_vote-2.ensures.writes.alone (c.settle_vote-2.ensures.bounded t) c.settle_vote-3.ensures.writes.alone (c.settle_vote-3.ensures.bounded t) (most_3 (bank_number c.args.bank) near (3 - near) (bank_number (other_bank c.args.bank)) img turn (image u (o c.settle_vote.new.host).now) (c.in_ok-settle_vote.ensures.kept t) (image u (o c.settle_vote-2.new.host).now) (c.in_ok-settle_vote-2.ensures.kept t)))
