use Rattle.std.proofs.Common.{◌≤◌, ◌+◌, ◌-◌, ◌*◌, ℕ, length, replicate, refl, arith, sym, ◌∙◌, ap, subst}
use Rattle.newt_host.specs.Moments.{image}
use Rattle.newt_host.proofs.Outside.{same_cards, stops-err, stops-ok}
use Rattle.newt_spec_image.specs.Records.{bank_blocks, bank_size, bank_start}
use Rattle.newt_journal.specs.Journal.{Reading}
use Rattle.newt_journal.proofs.Opened.{has_blocks}
use Rattle.newt_journal.proofs.Formatting.{after_sync, bank_begun, format_blank, format_reads, format_tail, format_stands, front_is, front_sure, front_voted, front_written, may_leave, then_front}
use Rattle.newt_journal.proofs.Adding.{did-call, did-write, then, widen-by}
use Rattle.newt_journal.proofs.journal.Journal.format.Goals as goal

pub returns-in_err-sync-clause-writes : goal.returns-in_err-sync-clause-writes
returns-in_err-sync-clause-writes g c =
    let did = widen-by (did-call c.sync.ensures.call) (24 + length c.args.first.now) 0 (bank_blocks ((g.H.Host.outside c.args.host.now).blocks c.args.unit) + 3) 9 (omega arith) (omega arith) (omega (arith, ap bank_blocks c.blocks-blocks.ensures)) (omega arith) in record {
      any_moment = λ t.
          let u = c.args.unit in
          let old = (g.H.Host.outside c.args.host.now).now in
          let n = bank_start c.blocks-blocks.result 1 in
          let may = may_leave u c.blocks-blocks.result (g.H.Host.outside c.args.host.now)
          (g.met.H.Host.none c.args.host.now u) c.blocks-blocks.ensures
          (omega (arith, c.blocks-blocks.ensures, c.requires.enough)) (g.met.H.Host.history c.args.host.now u t) in
          front_is c.blocks-blocks.ensures (after_sync u n old may (c.sync.ensures.synced t));
      alone = did.alone;
      costs = did.costs;
      wears = did.wears;
      faults = stops-err c.from_residual.result c.from_residual.ensures.0 (refl)
          c.sync.ensures.call.faults c.in_err-sync.ensures.call.faults.cause;
    }

pub returns-in_err-begin_bank-clause-writes : goal.returns-in_err-begin_bank-clause-writes
returns-in_err-begin_bank-clause-writes g c =
    let did = widen-by (then (did-call c.sync.ensures.call) (did-write c.begin_bank.ensures.writes)) (24 + length c.args.first.now) 0 (bank_blocks ((g.H.Host.outside c.args.host.now).blocks c.args.unit) + 3) 9 (omega arith) (omega arith) (omega (arith, ap bank_blocks c.blocks-blocks.ensures)) (omega arith) in record {
      any_moment = λ t.
          let u = c.args.unit in
          let old = (g.H.Host.outside c.args.host.now).now in
          let n = bank_start c.blocks-blocks.result 1 in
          let may = may_leave u c.blocks-blocks.result (g.H.Host.outside c.args.host.now)
          (g.met.H.Host.none c.args.host.now u) c.blocks-blocks.ensures
          (omega (arith, c.blocks-blocks.ensures, c.requires.enough)) (g.met.H.Host.history c.args.host.now u t) in
          let enough : 13 ≤ c.blocks-blocks.result = omega (arith, c.blocks-blocks.ensures, c.requires.enough) in
          let few : c.blocks-blocks.result ≤ 4099 = omega (arith, c.blocks-blocks.ensures, c.requires.few) in
          front_is c.blocks-blocks.ensures (then_front u n old may (c.sync.ensures.synced t)
          (bank_begun u c.blocks-blocks.result (image u (g.H.Host.outside c.sync.new.self).now) (c.begin_bank.ensures.writes.any_moment t)));
      alone = did.alone;
      costs = did.costs;
      wears = did.wears;
      faults = stops-err c.from_residual-in_err-begin_bank.result c.from_residual-in_err-begin_bank.ensures.0 (c.in_ok-sync.ensures.call.faults.no_fault)
          c.begin_bank.ensures.writes.faults c.in_err-begin_bank.ensures.writes.faults.cause;
    }

pub program_piece-requires-clause-blank : goal.program_piece-requires-clause-blank
program_piece-requires-clause-blank g c t =
    let enough : 13 ≤ c.blocks-blocks.result = omega (arith, c.blocks-blocks.ensures, c.requires.enough) in
    let few : c.blocks-blocks.result ≤ 4099 = omega (arith, c.blocks-blocks.ensures, c.requires.few) in
    let fits : 21 + length c.args.first.now ≤ bank_size c.blocks-blocks.result = subst (λ (n : ℕ). 21 + length c.args.first.now ≤ bank_size n) (sym c.blocks-blocks.ensures) c.requires.fits in
    format_blank c.args.unit c.blocks-blocks.result enough few (image c.args.unit (g.H.Host.outside c.sync.new.self).now) c.args.first.now (g.met.H.Host.sized c.sync.new.self c.args.unit t ∙ ap (λ (n : ℕ). n * 4096) (c.sync.ensures.call.alone.cards.blocks c.args.unit ∙ sym c.blocks-blocks.ensures)) fits _ c.start-start.ensures (g.H.Host.outside c.begin_bank.new.host).now (c.in_ok-begin_bank.ensures.begun t)

pub returns-in_err-program_piece-clause-writes : goal.returns-in_err-program_piece-clause-writes
returns-in_err-program_piece-clause-writes g c =
    let did = widen-by (then (did-call c.sync.ensures.call) (then (did-write c.begin_bank.ensures.writes) (did-write c.program_piece.ensures.writes))) (24 + length c.args.first.now) 0 (bank_blocks ((g.H.Host.outside c.args.host.now).blocks c.args.unit) + 3) 9 (omega arith) (omega arith) (omega (arith, ap bank_blocks c.blocks-blocks.ensures)) (omega arith) in record {
      any_moment = λ t.
          let u = c.args.unit in
          let old = (g.H.Host.outside c.args.host.now).now in
          let n = bank_start c.blocks-blocks.result 1 in
          let may = may_leave u c.blocks-blocks.result (g.H.Host.outside c.args.host.now)
          (g.met.H.Host.none c.args.host.now u) c.blocks-blocks.ensures
          (omega (arith, c.blocks-blocks.ensures, c.requires.enough)) (g.met.H.Host.history c.args.host.now u t) in
          let enough : 13 ≤ c.blocks-blocks.result = omega (arith, c.blocks-blocks.ensures, c.requires.enough) in
          let few : c.blocks-blocks.result ≤ 4099 = omega (arith, c.blocks-blocks.ensures, c.requires.few) in
          let fits : 21 + length c.args.first.now ≤ bank_size c.blocks-blocks.result = subst (λ (n : ℕ). 21 + length c.args.first.now ≤ bank_size n) (sym c.blocks-blocks.ensures) c.requires.fits in
          let size = g.met.H.Host.sized c.sync.new.self c.args.unit t ∙ ap (λ (n : ℕ). n * 4096) (c.sync.ensures.call.alone.cards.blocks c.args.unit ∙ sym c.blocks-blocks.ensures) in
          front_is c.blocks-blocks.ensures (then_front u n old may (c.sync.ensures.synced t)
          (front_written u c.blocks-blocks.result enough few (image u (g.H.Host.outside c.sync.new.self).now) c.args.first.now size fits _ c.start-start.ensures (g.H.Host.outside c.begin_bank.new.host).now (c.in_ok-begin_bank.ensures.begun t) (c.begin_bank.ensures.writes.any_moment t) (c.program_piece.ensures.wrote t)));
      alone = did.alone;
      costs = did.costs;
      wears = did.wears;
      faults = stops-err c.from_residual-in_err-program_piece.result c.from_residual-in_err-program_piece.ensures.0 (c.in_ok-begin_bank.ensures.writes.faults.no_fault ∙ c.in_ok-sync.ensures.call.faults.no_fault)
          c.program_piece.ensures.writes.faults c.in_err-program_piece.ensures.writes.faults.cause;
    }

pub returns-in_err-sync-2-clause-writes : goal.returns-in_err-sync-2-clause-writes
returns-in_err-sync-2-clause-writes g c =
    let did = widen-by (then (did-call c.sync.ensures.call) (then (did-write c.begin_bank.ensures.writes) (then (did-write c.program_piece.ensures.writes) (did-call c.sync-2.ensures.call)))) (24 + length c.args.first.now) 0 (bank_blocks ((g.H.Host.outside c.args.host.now).blocks c.args.unit) + 3) 9 (omega arith) (omega arith) (omega (arith, ap bank_blocks c.blocks-blocks.ensures)) (omega arith) in record {
      any_moment = λ t.
          let u = c.args.unit in
          let old = (g.H.Host.outside c.args.host.now).now in
          let n = bank_start c.blocks-blocks.result 1 in
          let may = may_leave u c.blocks-blocks.result (g.H.Host.outside c.args.host.now)
          (g.met.H.Host.none c.args.host.now u) c.blocks-blocks.ensures
          (omega (arith, c.blocks-blocks.ensures, c.requires.enough)) (g.met.H.Host.history c.args.host.now u t) in
          let enough : 13 ≤ c.blocks-blocks.result = omega (arith, c.blocks-blocks.ensures, c.requires.enough) in
          let few : c.blocks-blocks.result ≤ 4099 = omega (arith, c.blocks-blocks.ensures, c.requires.few) in
          let fits : 21 + length c.args.first.now ≤ bank_size c.blocks-blocks.result = subst (λ (n : ℕ). 21 + length c.args.first.now ≤ bank_size n) (sym c.blocks-blocks.ensures) c.requires.fits in
          let size = g.met.H.Host.sized c.sync.new.self c.args.unit t ∙ ap (λ (n : ℕ). n * 4096) (c.sync.ensures.call.alone.cards.blocks c.args.unit ∙ sym c.blocks-blocks.ensures) in
          front_is c.blocks-blocks.ensures (then_front u n old may (c.sync.ensures.synced t)
          (front_sure u c.blocks-blocks.result enough few (image u (g.H.Host.outside c.sync.new.self).now) c.args.first.now size fits _ c.start-start.ensures (g.H.Host.outside c.begin_bank.new.host).now (c.in_ok-begin_bank.ensures.begun t) (c.in_ok-program_piece.ensures.wrote t) (c.begin_bank.ensures.writes.any_moment t) (c.sync-2.ensures.synced t)));
      alone = did.alone;
      costs = did.costs;
      wears = did.wears;
      faults = stops-err c.from_residual-in_err-sync-2.result c.from_residual-in_err-sync-2.ensures.0 (c.in_ok-program_piece.ensures.writes.faults.no_fault ∙ c.in_ok-begin_bank.ensures.writes.faults.no_fault ∙ c.in_ok-sync.ensures.call.faults.no_fault)
          c.sync-2.ensures.call.faults c.in_err-sync-2.ensures.call.faults.cause;
    }

pub returns-in_err-cast_votes-clause-writes : goal.returns-in_err-cast_votes-clause-writes
returns-in_err-cast_votes-clause-writes g c =
    let did = widen-by (then (did-call c.sync.ensures.call) (then (did-write c.begin_bank.ensures.writes) (then (did-write c.program_piece.ensures.writes) (then (did-call c.sync-2.ensures.call) (did-write c.cast_votes.ensures.writes))))) (24 + length c.args.first.now) 0 (bank_blocks ((g.H.Host.outside c.args.host.now).blocks c.args.unit) + 3) 9 (omega arith) (omega arith) (omega (arith, ap bank_blocks c.blocks-blocks.ensures)) (omega arith) in record {
      any_moment = λ t.
          let u = c.args.unit in
          let old = (g.H.Host.outside c.args.host.now).now in
          let n = bank_start c.blocks-blocks.result 1 in
          let may = may_leave u c.blocks-blocks.result (g.H.Host.outside c.args.host.now)
          (g.met.H.Host.none c.args.host.now u) c.blocks-blocks.ensures
          (omega (arith, c.blocks-blocks.ensures, c.requires.enough)) (g.met.H.Host.history c.args.host.now u t) in
          let enough : 13 ≤ c.blocks-blocks.result = omega (arith, c.blocks-blocks.ensures, c.requires.enough) in
          let few : c.blocks-blocks.result ≤ 4099 = omega (arith, c.blocks-blocks.ensures, c.requires.few) in
          let fits : 21 + length c.args.first.now ≤ bank_size c.blocks-blocks.result = subst (λ (n : ℕ). 21 + length c.args.first.now ≤ bank_size n) (sym c.blocks-blocks.ensures) c.requires.fits in
          let size = g.met.H.Host.sized c.sync.new.self c.args.unit t ∙ ap (λ (n : ℕ). n * 4096) (c.sync.ensures.call.alone.cards.blocks c.args.unit ∙ sym c.blocks-blocks.ensures) in
          front_is c.blocks-blocks.ensures (then_front u n old may (c.sync.ensures.synced t)
          (front_voted u c.blocks-blocks.result enough few (image u (g.H.Host.outside c.sync.new.self).now) c.args.first.now size fits _ c.start-start.ensures (g.H.Host.outside c.begin_bank.new.host).now (c.in_ok-begin_bank.ensures.begun t) (c.in_ok-program_piece.ensures.wrote t) (c.begin_bank.ensures.writes.any_moment t) (c.in_ok-sync-2.ensures.synced t) (c.cast_votes.ensures.writes.any_moment t)));
      alone = did.alone;
      costs = did.costs;
      wears = did.wears;
      faults = stops-err c.from_residual-in_err-cast_votes.result c.from_residual-in_err-cast_votes.ensures.0 (c.in_ok-sync-2.ensures.call.faults.no_fault ∙ c.in_ok-program_piece.ensures.writes.faults.no_fault ∙ c.in_ok-begin_bank.ensures.writes.faults.no_fault ∙ c.in_ok-sync.ensures.call.faults.no_fault)
          c.cast_votes.ensures.writes.faults c.in_err-cast_votes.ensures.writes.faults.cause;
    }

pub returns-clause-writes : goal.returns-clause-writes
returns-clause-writes g c =
    let did = widen-by (then (did-call c.sync.ensures.call) (then (did-write c.begin_bank.ensures.writes) (then (did-write c.program_piece.ensures.writes) (then (did-call c.sync-2.ensures.call) (did-write c.cast_votes.ensures.writes))))) (24 + length c.args.first.now) 0 (bank_blocks ((g.H.Host.outside c.args.host.now).blocks c.args.unit) + 3) 9 (omega arith) (omega arith) (omega (arith, ap bank_blocks c.blocks-blocks.ensures)) (omega arith) in record {
      any_moment = λ t.
          let u = c.args.unit in
          let old = (g.H.Host.outside c.args.host.now).now in
          let n = bank_start c.blocks-blocks.result 1 in
          let may = may_leave u c.blocks-blocks.result (g.H.Host.outside c.args.host.now)
          (g.met.H.Host.none c.args.host.now u) c.blocks-blocks.ensures
          (omega (arith, c.blocks-blocks.ensures, c.requires.enough)) (g.met.H.Host.history c.args.host.now u t) in
          let enough : 13 ≤ c.blocks-blocks.result = omega (arith, c.blocks-blocks.ensures, c.requires.enough) in
          let few : c.blocks-blocks.result ≤ 4099 = omega (arith, c.blocks-blocks.ensures, c.requires.few) in
          let fits : 21 + length c.args.first.now ≤ bank_size c.blocks-blocks.result = subst (λ (n : ℕ). 21 + length c.args.first.now ≤ bank_size n) (sym c.blocks-blocks.ensures) c.requires.fits in
          let size = g.met.H.Host.sized c.sync.new.self c.args.unit t ∙ ap (λ (n : ℕ). n * 4096) (c.sync.ensures.call.alone.cards.blocks c.args.unit ∙ sym c.blocks-blocks.ensures) in
          front_is c.blocks-blocks.ensures (then_front u n old may (c.sync.ensures.synced t)
          (front_voted u c.blocks-blocks.result enough few (image u (g.H.Host.outside c.sync.new.self).now) c.args.first.now size fits _ c.start-start.ensures (g.H.Host.outside c.begin_bank.new.host).now (c.in_ok-begin_bank.ensures.begun t) (c.in_ok-program_piece.ensures.wrote t) (c.begin_bank.ensures.writes.any_moment t) (c.in_ok-sync-2.ensures.synced t) (c.cast_votes.ensures.writes.any_moment t)));
      alone = did.alone;
      costs = did.costs;
      wears = did.wears;
      faults = stops-ok _ (c.in_ok-cast_votes.ensures.writes.faults.no_fault ∙ c.in_ok-sync-2.ensures.call.faults.no_fault ∙ c.in_ok-program_piece.ensures.writes.faults.no_fault ∙ c.in_ok-begin_bank.ensures.writes.faults.no_fault ∙ c.in_ok-sync.ensures.call.faults.no_fault);
    }

pub returns-clause-journal : goal.returns-clause-journal
returns-clause-journal g c =
    let enough : 13 ≤ c.blocks-blocks.result = omega (arith, c.blocks-blocks.ensures, c.requires.enough) in
    let few : c.blocks-blocks.result ≤ 4099 = omega (arith, c.blocks-blocks.ensures, c.requires.few) in
    let fits : 21 + length c.args.first.now ≤ bank_size c.blocks-blocks.result = subst (λ (n : ℕ). 21 + length c.args.first.now ≤ bank_size n) (sym c.blocks-blocks.ensures) c.requires.fits in (
      record {
        has = same_cards c.cast_votes.ensures.writes.alone.cards (same_cards c.sync-2.ensures.call.alone.cards (same_cards c.program_piece.ensures.writes.alone.cards (same_cards c.begin_bank.ensures.writes.alone.cards (same_cards c.sync.ensures.call.alone.cards (has_blocks c.args.unit c.blocks-blocks.result (g.H.Host.outside c.args.host.now) (g.met.H.Host.none c.args.host.now c.args.unit) c.blocks-blocks.ensures enough)))));
        held = λ t. format_stands c.args.unit c.blocks-blocks.result enough few (image c.args.unit (g.H.Host.outside c.sync.new.self).now) c.args.first.now (g.met.H.Host.sized c.sync.new.self c.args.unit t ∙ ap (λ (n : ℕ). n * 4096) (c.sync.ensures.call.alone.cards.blocks c.args.unit ∙ sym c.blocks-blocks.ensures)) fits _ c.start-start.ensures (g.H.Host.outside c.begin_bank.new.host).now (c.in_ok-begin_bank.ensures.begun t) (c.in_ok-program_piece.ensures.wrote t) (c.in_ok-sync-2.ensures.synced t) (g.H.Host.outside c.cast_votes.new.host).now ((c.in_ok-cast_votes.ensures.cast t).alike) ((c.in_ok-cast_votes.ensures.cast t).kept) _ refl refl refl refl refl ((c.in_ok-cast_votes.ensures.cast t).durable);
      },
      refl,
      refl,
      refl,
    )

pub returns-clause-fresh : goal.returns-clause-fresh
returns-clause-fresh g c t =
    let enough : 13 ≤ c.blocks-blocks.result = omega (arith, c.blocks-blocks.ensures, c.requires.enough) in
    let few : c.blocks-blocks.result ≤ 4099 = omega (arith, c.blocks-blocks.ensures, c.requires.few) in
    let fits : 21 + length c.args.first.now ≤ bank_size c.blocks-blocks.result = subst (λ (n : ℕ). 21 + length c.args.first.now ≤ bank_size n) (sym c.blocks-blocks.ensures) c.requires.fits in
    let reads = format_reads c.args.unit c.blocks-blocks.result enough few (image c.args.unit (g.H.Host.outside c.sync.new.self).now) c.args.first.now (g.met.H.Host.sized c.sync.new.self c.args.unit t ∙ ap (λ (n : ℕ). n * 4096) (c.sync.ensures.call.alone.cards.blocks c.args.unit ∙ sym c.blocks-blocks.ensures)) fits _ c.start-start.ensures (g.H.Host.outside c.begin_bank.new.host).now (c.in_ok-begin_bank.ensures.begun t) (c.in_ok-program_piece.ensures.wrote t) (c.in_ok-sync-2.ensures.synced t) (g.H.Host.outside c.cast_votes.new.host).now ((c.in_ok-cast_votes.ensures.cast t).alike) ((c.in_ok-cast_votes.ensures.cast t).kept) in
    record {
      new = ap (λ (r : Reading). r.0) reads;
      one = ap (λ (r : Reading). r.1) reads;
      alike = (c.in_ok-cast_votes.ensures.cast t).alike;
      blank = format_tail c.args.unit c.blocks-blocks.result enough few (image c.args.unit (g.H.Host.outside c.sync.new.self).now) c.args.first.now (g.met.H.Host.sized c.sync.new.self c.args.unit t ∙ ap (λ (n : ℕ). n * 4096) (c.sync.ensures.call.alone.cards.blocks c.args.unit ∙ sym c.blocks-blocks.ensures)) fits _ c.start-start.ensures (g.H.Host.outside c.begin_bank.new.host).now (c.in_ok-begin_bank.ensures.begun t) (c.in_ok-program_piece.ensures.wrote t) (c.in_ok-sync-2.ensures.synced t) (g.H.Host.outside c.cast_votes.new.host).now ((c.in_ok-cast_votes.ensures.cast t).alike) ((c.in_ok-cast_votes.ensures.cast t).kept) ∙ ap (λ (n : ℕ). replicate (bank_size n - 21 - length c.args.first.now) 255) c.blocks-blocks.ensures;
      durable = (c.in_ok-cast_votes.ensures.cast t).durable;
    }
