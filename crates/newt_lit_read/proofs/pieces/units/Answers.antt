use Rattle.std.proofs.Common.{◌≡◌, ℕ, Option, Some, None, ap, ◌∙◌, arith}
use Rattle.std.proofs.lemmas.Result.{err_from_is_err_and}
use Rattle.newt_spec_literal.specs.Words.{units_of}
use Rattle.newt_lit_read.specs.Tokens.{next_in_string}
use Rattle.newt_lit_read.proofs.PieceLoop.{goes_on, is_done, no_piece}
use Rattle.newt_lit_read.proofs.pieces.units.Goals as goal

pub returns-in_err-code-clause-gives : goal.returns-in_err-code-clause-gives
returns-in_err-code-clause-gives c =
    let p = err_from_is_err_and c.from_residual.result c.from_residual.ensures.1 in
    rw (p.1, p.2) (no_piece units_of next_in_string c.in_err-code.field-0.0 c.loop-units.units.items c.loop-units.rest.now _ c.in_err-code.ensures.gives c.loop-units.invariant.going)

pub returns-in-None-clause-gives : goal.returns-in-None-clause-gives
returns-in-None-clause-gives c =
    let next : next_in_string c.loop-units.rest.now ≡ Some (None, c.in_ok-code.after.now) = c.in_ok-code.ensures.gives ∙ ap (λ (o : Option ℕ). Some (o, c.in_ok-code.after.now)) c.in-None.is in
    is_done units_of next_in_string c.loop-units.units.items c.loop-units.rest.now c.in_ok-code.after.now _ next c.in_ok-code.ensures.shorter c.loop-units.invariant.going

pub loop-units-preserved : goal.loop-units-preserved
loop-units-preserved c =
    let next : next_in_string c.loop-units.rest.now ≡ Some (Some c.in-Some.code, c.in_ok-code.after.now) = c.in_ok-code.ensures.gives ∙ ap (λ (o : Option ℕ). Some (o, c.in_ok-code.after.now)) c.in-Some.is in
    record {
      going = rw c.in_ok-push_units-in-Some.ensures (goes_on units_of next_in_string c.loop-units.units.items c.loop-units.rest.now c.in_ok-code.after.now c.in-Some.code _ next c.in_ok-code.ensures.shorter c.loop-units.invariant.going);
      within = omega (arith, c.in_ok-code.ensures.shorter, c.loop-units.invariant.within);
    }
