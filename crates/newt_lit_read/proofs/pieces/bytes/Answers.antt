use Rattle.std.proofs.Common.{◌≡◌, ℕ, Option, Some, None, ap, ◌∙◌, arith}
use Rattle.std.proofs.lemmas.Result.{err_from_is_err_and}
use Rattle.newt_lit_read.specs.Tokens.{next_byte, single}
use Rattle.newt_lit_read.proofs.PieceLoop.{goes_on, is_done, no_piece}
use Rattle.newt_lit_read.proofs.pieces.bytes.Goals as goal

pub returns-in_err-byte-clause-gives : goal.returns-in_err-byte-clause-gives
returns-in_err-byte-clause-gives c =
    let p = err_from_is_err_and c.from_residual.result c.from_residual.ensures.1 in
    rw (p.1, p.2) (no_piece single next_byte c.in_err-byte.field-0.0 c.loop-bytes.bytes.items c.loop-bytes.rest.now _ c.in_err-byte.ensures.gives c.loop-bytes.invariant.going)

pub returns-in-None-clause-gives : goal.returns-in-None-clause-gives
returns-in-None-clause-gives c =
    let next : next_byte c.loop-bytes.rest.now ≡ Some (None, c.in_ok-byte.after.now) = c.in_ok-byte.ensures.gives ∙ ap (λ (o : Option ℕ). Some (o, c.in_ok-byte.after.now)) c.in-None.is in
    is_done single next_byte c.loop-bytes.bytes.items c.loop-bytes.rest.now c.in_ok-byte.after.now _ next c.in_ok-byte.ensures.shorter c.loop-bytes.invariant.going

pub loop-bytes-preserved : goal.loop-bytes-preserved
loop-bytes-preserved c =
    let next : next_byte c.loop-bytes.rest.now ≡ Some (Some c.in-Some.byte, c.in_ok-byte.after.now) = c.in_ok-byte.ensures.gives ∙ ap (λ (o : Option ℕ). Some (o, c.in_ok-byte.after.now)) c.in-Some.is in
    record {
      going = rw c.in_ok-push-in-Some.ensures.items (goes_on single next_byte c.loop-bytes.bytes.items c.loop-bytes.rest.now c.in_ok-byte.after.now c.in-Some.byte _ next c.in_ok-byte.ensures.shorter c.loop-bytes.invariant.going);
      within = omega (arith, c.in_ok-byte.ensures.shorter, c.loop-bytes.invariant.within);
    }
