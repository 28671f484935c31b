use Rattle.std.proofs.Common.{◌*◌, ℕ, refl, ◌∙◌, ap, arith}
use Rattle.newt_spec_image.specs.Records.{bank_blocks, header, length_bytes}
use Rattle.newt_host.proofs.Outside.{stops-err, stops-ok}
use Rattle.newt_journal.proofs.Beginning.{leaves_1, leaves_2, leaves_3, leaves_4, blank_2, blank_3, filled_4}
use Rattle.newt_journal.proofs.Adding.{did-call, did-write, then, widen-by}
use Rattle.newt_journal.proofs.fresh.begin_bank.Goals as goal

pub returns-in_err-erase_blocks-clause-writes : goal.returns-in_err-erase_blocks-clause-writes
returns-in_err-erase_blocks-clause-writes g c =
    let did = widen-by (did-write c.erase_blocks.ensures.writes) 21 0 (bank_blocks c.args.blocks) 1 (omega arith) (omega arith) (omega (arith, c.size_in_blocks.ensures)) (omega arith) in record {
      any_moment = λ t. leaves_1 c.args.unit c.args.blocks c.args.len c.args.bank c.requires.enough c.requires.fits (g.H.Host.outside c.args.host.now).now (g.met.H.Host.sized c.args.host.now c.args.unit t ∙ ap (λ (n : ℕ). n * 4096) c.requires.rest.has.count) _ _ _ c.start-start.ensures c.first_block.ensures c.size_in_blocks.ensures (c.erase_blocks.ensures.writes.any_moment t);
      alone = did.alone;
      costs = did.costs;
      wears = did.wears;
      faults = stops-err c.from_residual.result c.from_residual.ensures.0 (refl)
          c.erase_blocks.ensures.writes.faults c.in_err-erase_blocks.ensures.writes.faults.cause;
    }

pub returns-in_err-sync-clause-writes : goal.returns-in_err-sync-clause-writes
returns-in_err-sync-clause-writes g c =
    let did = widen-by (then (did-write c.erase_blocks.ensures.writes) (did-call c.sync.ensures.call)) 21 0 (bank_blocks c.args.blocks) 1 (omega arith) (omega arith) (omega (arith, c.size_in_blocks.ensures)) (omega arith) in record {
      any_moment = λ t. leaves_2 c.args.unit c.args.blocks c.args.len c.args.bank c.requires.enough c.requires.fits (g.H.Host.outside c.args.host.now).now (g.met.H.Host.sized c.args.host.now c.args.unit t ∙ ap (λ (n : ℕ). n * 4096) c.requires.rest.has.count) _ _ _ c.start-start.ensures c.first_block.ensures c.size_in_blocks.ensures (c.erase_blocks.ensures.writes.any_moment t) (c.erase_blocks.ensures.kept t) (c.in_ok-erase_blocks.ensures.erased t) (c.sync.ensures.synced t);
      alone = did.alone;
      costs = did.costs;
      wears = did.wears;
      faults = stops-err c.from_residual-in_err-sync.result c.from_residual-in_err-sync.ensures.0 (c.in_ok-erase_blocks.ensures.writes.faults.no_fault)
          c.sync.ensures.call.faults c.in_err-sync.ensures.call.faults.cause;
    }

pub program_piece-requires-clause-blank : goal.program_piece-requires-clause-blank
unfolding header
program_piece-requires-clause-blank g c t = blank_2 c.args.unit c.args.blocks c.args.len c.args.bank c.requires.enough c.requires.fits (g.H.Host.outside c.args.host.now).now (g.met.H.Host.sized c.args.host.now c.args.unit t ∙ ap (λ (n : ℕ). n * 4096) c.requires.rest.has.count) _ _ _ c.start-start.ensures c.first_block.ensures c.size_in_blocks.ensures (c.erase_blocks.ensures.writes.any_moment t) (c.erase_blocks.ensures.kept t) (c.in_ok-erase_blocks.ensures.erased t) (c.in_ok-sync.ensures.synced t) _ refl

pub returns-in_err-program_piece-clause-writes : goal.returns-in_err-program_piece-clause-writes
unfolding header
returns-in_err-program_piece-clause-writes g c =
    let did = widen-by (then (did-write c.erase_blocks.ensures.writes) (then (did-call c.sync.ensures.call) (did-write c.program_piece.ensures.writes))) 21 0 (bank_blocks c.args.blocks) 1 (omega arith) (omega arith) (omega (arith, c.size_in_blocks.ensures)) (omega arith) in record {
      any_moment = λ t. leaves_3 c.args.unit c.args.blocks c.args.len c.args.bank c.requires.enough c.requires.fits (g.H.Host.outside c.args.host.now).now (g.met.H.Host.sized c.args.host.now c.args.unit t ∙ ap (λ (n : ℕ). n * 4096) c.requires.rest.has.count) _ _ _ c.start-start.ensures c.first_block.ensures c.size_in_blocks.ensures (c.erase_blocks.ensures.writes.any_moment t) (c.erase_blocks.ensures.kept t) (c.in_ok-erase_blocks.ensures.erased t) (c.in_ok-sync.ensures.synced t) _ refl (c.program_piece.ensures.wrote t);
      alone = did.alone;
      costs = did.costs;
      wears = did.wears;
      faults = stops-err c.from_residual-in_err-program_piece.result c.from_residual-in_err-program_piece.ensures.0 (c.in_ok-sync.ensures.call.faults.no_fault ∙ c.in_ok-erase_blocks.ensures.writes.faults.no_fault)
          c.program_piece.ensures.writes.faults c.in_err-program_piece.ensures.writes.faults.cause;
    }

pub program_piece-requires-2-clause-blank : goal.program_piece-requires-2-clause-blank
unfolding header length_bytes
program_piece-requires-2-clause-blank g c t = blank_3 c.args.unit c.args.blocks c.args.len c.args.bank c.requires.enough c.requires.fits (g.H.Host.outside c.args.host.now).now (g.met.H.Host.sized c.args.host.now c.args.unit t ∙ ap (λ (n : ℕ). n * 4096) c.requires.rest.has.count) _ _ _ c.start-start.ensures c.first_block.ensures c.size_in_blocks.ensures (c.erase_blocks.ensures.writes.any_moment t) (c.erase_blocks.ensures.kept t) (c.in_ok-erase_blocks.ensures.erased t) (c.in_ok-sync.ensures.synced t) _ refl (c.in_ok-program_piece.ensures.wrote t) _ c.to_be_bytes.ensures

pub returns-in_err-program_piece-2-clause-writes : goal.returns-in_err-program_piece-2-clause-writes
unfolding header length_bytes
returns-in_err-program_piece-2-clause-writes g c =
    let did = widen-by (then (did-write c.erase_blocks.ensures.writes) (then (did-call c.sync.ensures.call) (then (did-write c.program_piece.ensures.writes) (did-write c.program_piece-2.ensures.writes)))) 21 0 (bank_blocks c.args.blocks) 1 (omega arith) (omega arith) (omega (arith, c.size_in_blocks.ensures)) (omega arith) in record {
      any_moment = λ t. leaves_4 c.args.unit c.args.blocks c.args.len c.args.bank c.requires.enough c.requires.fits (g.H.Host.outside c.args.host.now).now (g.met.H.Host.sized c.args.host.now c.args.unit t ∙ ap (λ (n : ℕ). n * 4096) c.requires.rest.has.count) _ _ _ c.start-start.ensures c.first_block.ensures c.size_in_blocks.ensures (c.erase_blocks.ensures.writes.any_moment t) (c.erase_blocks.ensures.kept t) (c.in_ok-erase_blocks.ensures.erased t) (c.in_ok-sync.ensures.synced t) _ refl (c.in_ok-program_piece.ensures.wrote t) _ c.to_be_bytes.ensures (c.program_piece-2.ensures.wrote t);
      alone = did.alone;
      costs = did.costs;
      wears = did.wears;
      faults = stops-err c.from_residual-in_err-program_piece-2.result c.from_residual-in_err-program_piece-2.ensures.0 (c.in_ok-program_piece.ensures.writes.faults.no_fault ∙ c.in_ok-sync.ensures.call.faults.no_fault ∙ c.in_ok-erase_blocks.ensures.writes.faults.no_fault)
          c.program_piece-2.ensures.writes.faults c.in_err-program_piece-2.ensures.writes.faults.cause;
    }

pub returns-clause-begun : goal.returns-clause-begun
unfolding header length_bytes
returns-clause-begun g c t = filled_4 c.args.unit c.args.blocks c.args.len c.args.bank c.requires.enough c.requires.fits (g.H.Host.outside c.args.host.now).now (g.met.H.Host.sized c.args.host.now c.args.unit t ∙ ap (λ (n : ℕ). n * 4096) c.requires.rest.has.count) _ _ _ c.start-start.ensures c.first_block.ensures c.size_in_blocks.ensures (c.erase_blocks.ensures.writes.any_moment t) (c.erase_blocks.ensures.kept t) (c.in_ok-erase_blocks.ensures.erased t) (c.in_ok-sync.ensures.synced t) _ refl (c.in_ok-program_piece.ensures.wrote t) _ c.to_be_bytes.ensures (c.in_ok-program_piece-2.ensures.wrote t)

pub returns-clause-writes : goal.returns-clause-writes
unfolding header length_bytes
returns-clause-writes g c =
    let did = widen-by (then (did-write c.erase_blocks.ensures.writes) (then (did-call c.sync.ensures.call) (then (did-write c.program_piece.ensures.writes) (did-write c.program_piece-2.ensures.writes)))) 21 0 (bank_blocks c.args.blocks) 1 (omega arith) (omega arith) (omega (arith, c.size_in_blocks.ensures)) (omega arith) in record {
      any_moment = λ t. leaves_4 c.args.unit c.args.blocks c.args.len c.args.bank c.requires.enough c.requires.fits (g.H.Host.outside c.args.host.now).now (g.met.H.Host.sized c.args.host.now c.args.unit t ∙ ap (λ (n : ℕ). n * 4096) c.requires.rest.has.count) _ _ _ c.start-start.ensures c.first_block.ensures c.size_in_blocks.ensures (c.erase_blocks.ensures.writes.any_moment t) (c.erase_blocks.ensures.kept t) (c.in_ok-erase_blocks.ensures.erased t) (c.in_ok-sync.ensures.synced t) _ refl (c.in_ok-program_piece.ensures.wrote t) _ c.to_be_bytes.ensures (c.program_piece-2.ensures.wrote t);
      alone = did.alone;
      costs = did.costs;
      wears = did.wears;
      faults = stops-ok tt (c.in_ok-program_piece-2.ensures.writes.faults.no_fault ∙ c.in_ok-program_piece.ensures.writes.faults.no_fault ∙ c.in_ok-sync.ensures.call.faults.no_fault ∙ c.in_ok-erase_blocks.ensures.writes.faults.no_fault);
    }
