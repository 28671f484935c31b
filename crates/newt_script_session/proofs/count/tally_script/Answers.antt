use Rattle.std.proofs.Common.{Bool, Err, ◌∙◌, ap, subst, arith}
use Rattle.std.proofs.lemmas.Result.{err_from_is_err_and}
use Rattle.newt_script_session.specs.Counts.{Tallies}
use Rattle.newt_spec_script.specs.Rows.{last_world}
use Rattle.newt_script_session.proofs.Counting.{answer_err, answer_write, quiet-refl, quiet_then}
use Rattle.newt_script_session.proofs.Crashing.{at_rest}
use Rattle.newt_script_session.proofs.Summing.{counted_halted, counted_put}
use Rattle.newt_script_session.proofs.count.tally_script.Goals as goal

-- ---- a command was not answered

pub returns-in_err-answer_text-clause-counted : goal.returns-in_err-answer_text-clause-counted
returns-in_err-answer_text-clause-counted g c = λ told w means.
    let it = g.I.Interpreter in
    let p = err_from_is_err_and c.from_residual.result c.from_residual.ensures.1 in
    counted_halted it.step it.store_of_image c.args.script.now _ (g.H.Host.outside c.args.host.now) (g.H.Host.outside c.answer_text.new.host)
    _ c.in_err-answer_text.field-0.0 _ _ _ (p.1 ∙ ap Err p.2) c.in_err-answer_text.ensures.call.faults.cause (c.in_err-answer_text.ensures.ran told w means)

-- ---- all were

pub returns-clause-counted : goal.returns-clause-counted
returns-clause-counted g c = λ told w means.
    let it = g.I.Interpreter in
    let before = g.H.Host.outside c.args.host.now in
    let mid = g.H.Host.outside c.answer_text.new.host in
    let new = g.H.Host.outside c.put_tally.new.host in
    let ran = c.in_ok-answer_text.ensures.ran told w means in
    let last = last_world w ran.given.rows in
    let stands = subst (λ (t : Bool). it.stands t c.answer_text.new.interpreter mid) told c.in_ok-answer_text.ensures.stands in
    let its = at_rest it.store_of_image last mid.now (g.met.I.Interpreter.leaves c.answer_text.new.interpreter mid last stands ran.done.1.stands_for) in
    counted_put it.step it.store_of_image c.args.script.now w before mid _ _ (Tallies c.answer_text.new.sink) c.new-tally.result c.answer_text.new.sink ran its
    c.new-tally.ensures (λ texts h. h) (omega arith) c.put_tally.result new c.put_tally.ensures.call.devices.counts.dev_faults c.put_tally.ensures.call.faults.cause (c.put_tally.ensures.puts told)

pub returns-clause-call : goal.returns-clause-call
returns-clause-call g c = answer_write _ (quiet_then (quiet-refl _) c.in_ok-answer_text.ensures.call) c.put_tally.ensures.call

pub returns-in_err-answer_text-clause-call : goal.returns-in_err-answer_text-clause-call
returns-in_err-answer_text-clause-call g c =
    let p = err_from_is_err_and c.from_residual.result c.from_residual.ensures.1 in
    answer_err _ c.in_err-answer_text.field-0.0 (p.1 ∙ ap Err p.2) (quiet-refl _) c.in_err-answer_text.ensures.call
