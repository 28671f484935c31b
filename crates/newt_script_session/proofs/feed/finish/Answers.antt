use Rattle.std.proofs.Common.{◌≡◌, ◌<◌, Bool, Err, length, ◌∙◌, ap, subst, arith}
use Rattle.std.proofs.lemmas.Grind.{common_steps}
use Rattle.std.proofs.lemmas.Result.{err_from_is_err_and}
use Rattle.newt_script_session.specs.Lines.{last_line}
use Rattle.newt_script_session.specs.Script.{commands_of}
use Rattle.newt_script_session.proofs.Counting.{answer_err, answer_ok, quiet-refl, quiet_then}
use Rattle.newt_script_session.proofs.Crashing.{at_rest}
use Rattle.newt_script_session.proofs.Feeding.{last_nil, last_some}
use Rattle.newt_script_session.proofs.Progress.{ran_none, ran_as, ran_failed}
use Rattle.newt_script_session.proofs.feed.finish.Goals as goal

pub returns-then-is_empty-clause-ran : goal.returns-then-is_empty-clause-ran
returns-then-is_empty-clause-ran g c = λ told w means.
    let it = g.I.Interpreter in
    let before = g.H.Host.outside c.args.host.now in
    let stands = subst (λ (t : Bool). it.stands t c.args.interpreter.now before) told c.requires.stands in
    let its = at_rest it.store_of_image w before.now (g.met.I.Interpreter.leaves c.args.interpreter.now before w stands means) in
    let none : length c.args.line.now ≡ 0 = grind (arith, common_steps) in
    ran_none it.step g.S.Sink.shows it.store_of_image _ w _ (commands_of (last_line c.args.line.now)) _ before.now before.dev_faults means its (last_nil c.args.line.now none)

pub returns-then-is_empty-clause-call : goal.returns-then-is_empty-clause-call
returns-then-is_empty-clause-call g c = answer_ok (quiet-refl _)

pub returns-in_err-turn-clause-ran : goal.returns-in_err-turn-clause-ran
returns-in_err-turn-clause-ran g c = λ told w means.
    let p = err_from_is_err_and c.from_residual.result c.from_residual.ensures.1 in
    let some : 0 < length c.args.line.now = grind (arith, common_steps) in
    ran_failed g.I.Interpreter.step g.S.Sink.shows g.I.Interpreter.store_of_image _ c.in_err-turn.field-0.0 _ _ _ _ _ _ _ _ _ _
    (p.1 ∙ ap Err p.2) (ap commands_of (last_some c.args.line.now some)) (c.in_err-turn.ensures.ran told w means)

pub returns-clause-ran : goal.returns-clause-ran
returns-clause-ran g c = λ told w means.
    let some : 0 < length c.args.line.now = grind (arith, common_steps) in
    ran_as g.I.Interpreter.step g.S.Sink.shows g.I.Interpreter.store_of_image _ _ _ _ _ _ _ _ _ _ _ _ (ap commands_of (last_some c.args.line.now some)) (c.in_ok-turn.ensures.ran told w means)

pub returns-in_err-turn-clause-call : goal.returns-in_err-turn-clause-call
returns-in_err-turn-clause-call g c =
    let p = err_from_is_err_and c.from_residual.result c.from_residual.ensures.1 in
    answer_err _ c.in_err-turn.field-0.0 (p.1 ∙ ap Err p.2) (quiet-refl _) c.in_err-turn.ensures.call

pub returns-clause-call : goal.returns-clause-call
returns-clause-call g c = answer_ok (quiet_then (quiet-refl _) c.in_ok-turn.ensures.call)
