use Rattle.std.proofs.Common.{◌≤◌, length, arith, ◌∙◌, refl}
use Rattle.newt_host.specs.Moments.{image}
use Rattle.newt_host.proofs.Moments.{Leaves-append, Leaves-weaken}
use Rattle.newt_host.proofs.Outside.{stops-err, stops-ok}
use Rattle.newt_journal.specs.Bank.{bank_number}
use Rattle.newt_journal.proofs.Steps.{bank-small}
use Rattle.newt_journal.proofs.Casting.{cast_1, cast_2, cast_3, cast_alike, cast_kept, turn_1, turn_2, turn_3}
use Rattle.newt_journal.proofs.Adding.{did-write, then, widen}
use Rattle.newt_journal.proofs.vote.cast_votes.Goals as goal

pub returns-in_err-rewrite_vote-clause-writes : goal.returns-in_err-rewrite_vote-clause-writes
returns-in_err-rewrite_vote-clause-writes g c =
    let did = widen (did-write c.rewrite_vote.ensures.writes) 3 0 3 6 refl in record {
      any_moment = λ t.
          let u = c.args.unit in
          let old = (g.H.Host.outside c.args.host.now).now in
          let bank = bank_number c.args.bank in
          let long : 12288 ≤ length (image u old) = omega (arith, g.met.H.Host.sized c.args.host.now u t, c.requires.rest.has.count, c.requires.enough) in
          let moment_1 = Leaves-weaken (cast_1 bank (image u old) long) (c.rewrite_vote.ensures.writes.any_moment t) in
          moment_1;
      alone = did.alone;
      costs = did.costs;
      wears = did.wears;
      faults = stops-err c.from_residual.result c.from_residual.ensures.0 (refl)
          c.rewrite_vote.ensures.writes.faults c.in_err-rewrite_vote.ensures.writes.faults.cause;
    }

pub returns-in_err-rewrite_vote-clause-turning : goal.returns-in_err-rewrite_vote-clause-turning
returns-in_err-rewrite_vote-clause-turning g c t from small alike =
    let u = c.args.unit in
    let old = (g.H.Host.outside c.args.host.now).now in
    let bank = bank_number c.args.bank in
    let long : 12288 ≤ length (image u old) = omega (arith, g.met.H.Host.sized c.args.host.now u t, c.requires.rest.has.count, c.requires.enough) in
    let moment_1 = Leaves-weaken (turn_1 from bank small (bank-small c.args.bank) (image u old) long alike) (c.rewrite_vote.ensures.writes.any_moment t) in
    moment_1

pub returns-in_err-rewrite_vote-2-clause-writes : goal.returns-in_err-rewrite_vote-2-clause-writes
returns-in_err-rewrite_vote-2-clause-writes g c =
    let did = widen (then (did-write c.rewrite_vote.ensures.writes) (did-write c.rewrite_vote-2.ensures.writes)) 3 0 3 6 refl in record {
      any_moment = λ t.
          let u = c.args.unit in
          let old = (g.H.Host.outside c.args.host.now).now in
          let bank = bank_number c.args.bank in
          let long : 12288 ≤ length (image u old) = omega (arith, g.met.H.Host.sized c.args.host.now u t, c.requires.rest.has.count, c.requires.enough) in
          let moment_1 = Leaves-weaken (cast_1 bank (image u old) long) (c.rewrite_vote.ensures.writes.any_moment t) in
          let moment_2 = Leaves-append moment_1 (Leaves-weaken (cast_2 bank (image u old) long (image u (g.H.Host.outside c.rewrite_vote.new.host).now) (c.in_ok-rewrite_vote.ensures.voted t)) (c.rewrite_vote-2.ensures.writes.any_moment t)) in
          moment_2;
      alone = did.alone;
      costs = did.costs;
      wears = did.wears;
      faults = stops-err c.from_residual-in_err-rewrite_vote-2.result c.from_residual-in_err-rewrite_vote-2.ensures.0 (c.in_ok-rewrite_vote.ensures.writes.faults.no_fault)
          c.rewrite_vote-2.ensures.writes.faults c.in_err-rewrite_vote-2.ensures.writes.faults.cause;
    }

pub returns-in_err-rewrite_vote-2-clause-turning : goal.returns-in_err-rewrite_vote-2-clause-turning
returns-in_err-rewrite_vote-2-clause-turning g c t from small alike =
    let u = c.args.unit in
    let old = (g.H.Host.outside c.args.host.now).now in
    let bank = bank_number c.args.bank in
    let long : 12288 ≤ length (image u old) = omega (arith, g.met.H.Host.sized c.args.host.now u t, c.requires.rest.has.count, c.requires.enough) in
    let moment_1 = Leaves-weaken (turn_1 from bank small (bank-small c.args.bank) (image u old) long alike) (c.rewrite_vote.ensures.writes.any_moment t) in
    let moment_2 = Leaves-append moment_1 (Leaves-weaken (turn_2 from bank small (bank-small c.args.bank) (image u old) long alike (image u (g.H.Host.outside c.rewrite_vote.new.host).now) (c.in_ok-rewrite_vote.ensures.voted t)) (c.rewrite_vote-2.ensures.writes.any_moment t)) in
    moment_2

pub returns-in_err-rewrite_vote-3-clause-writes : goal.returns-in_err-rewrite_vote-3-clause-writes
returns-in_err-rewrite_vote-3-clause-writes g c =
    let did = widen (then (did-write c.rewrite_vote.ensures.writes) (then (did-write c.rewrite_vote-2.ensures.writes) (did-write c.rewrite_vote-3.ensures.writes))) 3 0 3 6 refl in record {
      any_moment = λ t.
          let u = c.args.unit in
          let old = (g.H.Host.outside c.args.host.now).now in
          let bank = bank_number c.args.bank in
          let long : 12288 ≤ length (image u old) = omega (arith, g.met.H.Host.sized c.args.host.now u t, c.requires.rest.has.count, c.requires.enough) in
          let moment_1 = Leaves-weaken (cast_1 bank (image u old) long) (c.rewrite_vote.ensures.writes.any_moment t) in
          let moment_2 = Leaves-append moment_1 (Leaves-weaken (cast_2 bank (image u old) long (image u (g.H.Host.outside c.rewrite_vote.new.host).now) (c.in_ok-rewrite_vote.ensures.voted t)) (c.rewrite_vote-2.ensures.writes.any_moment t)) in
          let moment_3 = Leaves-append moment_2 (Leaves-weaken (cast_3 bank (image u old) long (image u (g.H.Host.outside c.rewrite_vote.new.host).now) (c.in_ok-rewrite_vote.ensures.voted t) (image u (g.H.Host.outside c.rewrite_vote-2.new.host).now) (c.in_ok-rewrite_vote-2.ensures.voted t)) (c.rewrite_vote-3.ensures.writes.any_moment t)) in
          moment_3;
      alone = did.alone;
      costs = did.costs;
      wears = did.wears;
      faults = stops-err c.from_residual-in_err-rewrite_vote-3.result c.from_residual-in_err-rewrite_vote-3.ensures.0 (c.in_ok-rewrite_vote-2.ensures.writes.faults.no_fault ∙ c.in_ok-rewrite_vote.ensures.writes.faults.no_fault)
          c.rewrite_vote-3.ensures.writes.faults c.in_err-rewrite_vote-3.ensures.writes.faults.cause;
    }

pub returns-in_err-rewrite_vote-3-clause-turning : goal.returns-in_err-rewrite_vote-3-clause-turning
returns-in_err-rewrite_vote-3-clause-turning g c t from small alike =
    let u = c.args.unit in
    let old = (g.H.Host.outside c.args.host.now).now in
    let bank = bank_number c.args.bank in
    let long : 12288 ≤ length (image u old) = omega (arith, g.met.H.Host.sized c.args.host.now u t, c.requires.rest.has.count, c.requires.enough) in
    let moment_1 = Leaves-weaken (turn_1 from bank small (bank-small c.args.bank) (image u old) long alike) (c.rewrite_vote.ensures.writes.any_moment t) in
    let moment_2 = Leaves-append moment_1 (Leaves-weaken (turn_2 from bank small (bank-small c.args.bank) (image u old) long alike (image u (g.H.Host.outside c.rewrite_vote.new.host).now) (c.in_ok-rewrite_vote.ensures.voted t)) (c.rewrite_vote-2.ensures.writes.any_moment t)) in
    let moment_3 = Leaves-append moment_2 (Leaves-weaken (turn_3 from bank small (bank-small c.args.bank) (image u old) long alike (image u (g.H.Host.outside c.rewrite_vote.new.host).now) (c.in_ok-rewrite_vote.ensures.voted t) (image u (g.H.Host.outside c.rewrite_vote-2.new.host).now) (c.in_ok-rewrite_vote-2.ensures.voted t)) (c.rewrite_vote-3.ensures.writes.any_moment t)) in
    moment_3

pub returns-clause-writes : goal.returns-clause-writes
returns-clause-writes g c =
    let did = widen (then (did-write c.rewrite_vote.ensures.writes) (then (did-write c.rewrite_vote-2.ensures.writes) (did-write c.rewrite_vote-3.ensures.writes))) 3 0 3 6 refl in record {
      any_moment = λ t.
          let u = c.args.unit in
          let old = (g.H.Host.outside c.args.host.now).now in
          let bank = bank_number c.args.bank in
          let long : 12288 ≤ length (image u old) = omega (arith, g.met.H.Host.sized c.args.host.now u t, c.requires.rest.has.count, c.requires.enough) in
          let moment_1 = Leaves-weaken (cast_1 bank (image u old) long) (c.rewrite_vote.ensures.writes.any_moment t) in
          let moment_2 = Leaves-append moment_1 (Leaves-weaken (cast_2 bank (image u old) long (image u (g.H.Host.outside c.rewrite_vote.new.host).now) (c.in_ok-rewrite_vote.ensures.voted t)) (c.rewrite_vote-2.ensures.writes.any_moment t)) in
          let moment_3 = Leaves-append moment_2 (Leaves-weaken (cast_3 bank (image u old) long (image u (g.H.Host.outside c.rewrite_vote.new.host).now) (c.in_ok-rewrite_vote.ensures.voted t) (image u (g.H.Host.outside c.rewrite_vote-2.new.host).now) (c.in_ok-rewrite_vote-2.ensures.voted t)) (c.rewrite_vote-3.ensures.writes.any_moment t)) in
          moment_3;
      alone = did.alone;
      costs = did.costs;
      wears = did.wears;
      faults = stops-ok tt (c.in_ok-rewrite_vote-3.ensures.writes.faults.no_fault ∙ c.in_ok-rewrite_vote-2.ensures.writes.faults.no_fault ∙ c.in_ok-rewrite_vote.ensures.writes.faults.no_fault);
    }

pub returns-clause-turning : goal.returns-clause-turning
returns-clause-turning g c t from small alike =
    let u = c.args.unit in
    let old = (g.H.Host.outside c.args.host.now).now in
    let bank = bank_number c.args.bank in
    let long : 12288 ≤ length (image u old) = omega (arith, g.met.H.Host.sized c.args.host.now u t, c.requires.rest.has.count, c.requires.enough) in
    let moment_1 = Leaves-weaken (turn_1 from bank small (bank-small c.args.bank) (image u old) long alike) (c.rewrite_vote.ensures.writes.any_moment t) in
    let moment_2 = Leaves-append moment_1 (Leaves-weaken (turn_2 from bank small (bank-small c.args.bank) (image u old) long alike (image u (g.H.Host.outside c.rewrite_vote.new.host).now) (c.in_ok-rewrite_vote.ensures.voted t)) (c.rewrite_vote-2.ensures.writes.any_moment t)) in
    let moment_3 = Leaves-append moment_2 (Leaves-weaken (turn_3 from bank small (bank-small c.args.bank) (image u old) long alike (image u (g.H.Host.outside c.rewrite_vote.new.host).now) (c.in_ok-rewrite_vote.ensures.voted t) (image u (g.H.Host.outside c.rewrite_vote-2.new.host).now) (c.in_ok-rewrite_vote-2.ensures.voted t)) (c.rewrite_vote-3.ensures.writes.any_moment t)) in
    moment_3

pub returns-clause-cast : goal.returns-clause-cast
returns-clause-cast g c t =
    let u = c.args.unit in
    let old = (g.H.Host.outside c.args.host.now).now in
    let bank = bank_number c.args.bank in
    let long : 12288 ≤ length (image u old) = omega (arith, g.met.H.Host.sized c.args.host.now u t, c.requires.rest.has.count, c.requires.enough) in
    record {
      alike = cast_alike bank (image u old) long (image u (g.H.Host.outside c.rewrite_vote.new.host).now) (c.in_ok-rewrite_vote.ensures.voted t) (image u (g.H.Host.outside c.rewrite_vote-2.new.host).now) (c.in_ok-rewrite_vote-2.ensures.voted t) (image u (g.H.Host.outside c.rewrite_vote-3.new.host).now) (c.in_ok-rewrite_vote-3.ensures.voted t);
      kept = cast_kept bank (image u old) long (image u (g.H.Host.outside c.rewrite_vote.new.host).now) (c.in_ok-rewrite_vote.ensures.voted t) (image u (g.H.Host.outside c.rewrite_vote-2.new.host).now) (c.in_ok-rewrite_vote-2.ensures.voted t) (image u (g.H.Host.outside c.rewrite_vote-3.new.host).now) (c.in_ok-rewrite_vote-3.ensures.voted t);
      durable = c.in_ok-rewrite_vote-3.ensures.durable t;
    }
