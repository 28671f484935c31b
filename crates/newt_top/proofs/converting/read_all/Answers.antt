use Rattle.std.proofs.Common.{◌≡◌, ◌++◌, ℕ, List, Err, length, take, refl, sym, ◌∙◌, ap, append_assoc, arith}
use Rattle.std.proofs.lemmas.Grind.{common_steps}
use Rattle.std.proofs.lemmas.Result.{err_from_is_err_and}
use Rattle.newt_host.specs.Moments.{Moment, output}
use Rattle.newt_top.proofs.Converted.{reading-refl, reading_more, unread, input_unread}
use Rattle.newt_top.proofs.converting.read_all.Goals as goal

pub pieces-init : goal.pieces-init
pieces-init g c =
    let before = g.H.Host.outside c.args.host.now in
    record {
      all = λ told. ap (λ (xs : List ℕ). xs ++ before.input) (sym c.requires.empty);
      within = omega (arith, ap length c.requires.empty);
      quiet = λ told. refl;
      reading = reading-refl _ _;
    }

pub pieces-preserved : goal.pieces-preserved
pieces-preserved g c =
    let grown : c.extend_from_slice.new.self.items ≡ c.pieces.input.items ++ take c.in_ok-moved.moved c.read_piece.new.buffer = grind (arith, common_steps) in
    record {
      all = λ told.
          c.pieces.invariant.all told
          ∙ (ap (λ (xs : List ℕ). c.pieces.input.items ++ xs) (c.in_ok-moved.ensures.took told).input
          ∙ (sym (append_assoc c.pieces.input.items (take c.in_ok-moved.moved c.read_piece.new.buffer) _) ∙ ap (λ (xs : List ℕ). xs ++ (g.H.Host.outside c.read_piece.new.host).input) (sym grown)));
      within = grind (arith, common_steps);
      quiet = λ told. ap (λ (m : Moment). output m) (c.in_ok-moved.ensures.took told).moment ∙ c.pieces.invariant.quiet told;
      reading = reading_more c.pieces.invariant.reading c.in_ok-moved.ensures.call;
    }

-- ---- a read failed

pub returns-in_err-moved-clause-all : goal.returns-in_err-moved-clause-all
returns-in_err-moved-clause-all g c =
    let p = err_from_is_err_and c.from_residual.result c.from_residual.ensures.1 in
    let source = c.in_err-moved.ensures.call.faults.cause.0 in
    unread _ c.in_err-moved.field-0.0 (p.1 ∙ ap Err p.2) (λ told same. absurd (cc))
    (λ told. ap (λ (m : Moment). output m) c.in_err-moved.ensures.failed.1 ∙ c.pieces.invariant.quiet told)

pub returns-in_err-moved-clause-call : goal.returns-in_err-moved-clause-call
returns-in_err-moved-clause-call g c =
    let p = err_from_is_err_and c.from_residual.result c.from_residual.ensures.1 in
    input_unread _ c.in_err-moved.field-0.0 (p.1 ∙ ap Err p.2) c.pieces.invariant.reading c.in_err-moved.ensures.call
