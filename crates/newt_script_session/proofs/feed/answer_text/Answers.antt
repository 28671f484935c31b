use Rattle.std.proofs.Common.{[], Bool, Err, refl, sym, ◌∙◌, ap, subst, append-nil}
use Rattle.std.proofs.lemmas.Result.{err_from_is_err_and}
use Rattle.newt_script_session.specs.Lines.{ended_lines, last_line}
use Rattle.newt_script_session.specs.Script.{commands_of, has_quit, script_items}
use Rattle.newt_script_session.proofs.Counting.{answer_err, answer_ok, answer_then, quiet-refl, quiet_then}
use Rattle.newt_script_session.proofs.Crashing.{at_rest}
use Rattle.newt_script_session.proofs.Feeding.{go_is, quit_is, text_then_some, text_then_none, text_then_last}
use Rattle.newt_script_session.proofs.Progress.{progress_start, progress_more, ran_all, ran_last, ran_part}
use Rattle.newt_script_session.proofs.feed.answer_text.Goals as goal

pub returns-in_err-feed-clause-ran : goal.returns-in_err-feed-clause-ran
unfolding progress_start
returns-in_err-feed-clause-ran g c = λ told w means.
    let it = g.I.Interpreter in
    let shows = g.S.Sink.shows in
    let before = g.H.Host.outside c.args.host.now in
    let begun = c.new-line.result.items in
    let text = c.args.text.now in
    let p = err_from_is_err_and c.from_residual.result c.from_residual.ensures.1 in
    let stands = subst (λ (t : Bool). it.stands t c.args.interpreter.now before) told c.requires.stands in
    let its = at_rest it.store_of_image w before.now (g.met.I.Interpreter.leaves c.args.interpreter.now before w stands means) in
    let some = text_then_some begun text c.new-line.ensures.items in
    ran_part it.step shows it.store_of_image _ _ _ _ _ _ _ _ _ _ (progress_start it.step shows it.store_of_image w (it.means c.args.interpreter.now before) (script_items text) (g.S.Sink.has c.args.sink.now) before.now before.dev_faults means its)
    (commands_of (ended_lines begun text)) some.0 some.1 _ c.in_err-feed.field-0.0 _ _ _ _ _ _ (p.1 ∙ ap Err p.2) (c.in_err-feed.ensures.ran told w means)

pub returns-in-Go-clause-ran : goal.returns-in-Go-clause-ran
unfolding progress_start
returns-in-Go-clause-ran g c = λ told w means.
    let it = g.I.Interpreter in
    let shows = g.S.Sink.shows in
    let before = g.H.Host.outside c.args.host.now in
    let begun = c.new-line.result.items in
    let text = c.args.text.now in
    let lent = c.deref.result.now in
    let stands = subst (λ (t : Bool). it.stands t c.args.interpreter.now before) told c.requires.stands in
    let its = at_rest it.store_of_image w before.now (g.met.I.Interpreter.leaves c.args.interpreter.now before w stands means) in
    let go = go_is (has_quit (ended_lines begun text)) (sym c.in-Go.is ∙ c.in_ok-feed.ensures.fed.quits) in
    let p = progress_more it.step shows it.store_of_image _ _ _ _ _ _ _ _ _ _
    (progress_start it.step shows it.store_of_image w (it.means c.args.interpreter.now before) (script_items text) (g.S.Sink.has c.args.sink.now) before.now before.dev_faults means its)
    (commands_of (ended_lines begun text)) (commands_of (last_line lent)) (text_then_last begun text lent c.new-line.ensures.items go (c.deref.ensures.value ∙ c.in_ok-feed.ensures.fed.line_is c.in-Go.is))
    _ _ _ _ (c.in_ok-feed.ensures.ran told w means) in
    ran_last it.step shows it.store_of_image c.finish.result _ _ _ _ _ _ _ _ _ _ p
    (commands_of (last_line lent)) (sym (append-nil _)) _ _ _ _ (c.finish.ensures.ran told _ p.answered.stands_for)

pub returns-in-Go-clause-call : goal.returns-in-Go-clause-call
returns-in-Go-clause-call g c = answer_then (quiet_then (quiet-refl _) c.in_ok-feed.ensures.call) c.finish.ensures.call

pub returns-in_err-feed-clause-call : goal.returns-in_err-feed-clause-call
returns-in_err-feed-clause-call g c =
    let p = err_from_is_err_and c.from_residual.result c.from_residual.ensures.1 in
    answer_err _ c.in_err-feed.field-0.0 (p.1 ∙ ap Err p.2) (quiet-refl _) c.in_err-feed.ensures.call

pub returns-clause-call : goal.returns-clause-call
returns-clause-call g c = answer_ok (quiet_then (quiet-refl _) c.in_ok-feed.ensures.call)

pub returns-clause-ran : goal.returns-clause-ran
unfolding progress_start
returns-clause-ran g c = λ told w means.
    let it = g.I.Interpreter in
    let shows = g.S.Sink.shows in
    let before = g.H.Host.outside c.args.host.now in
    let begun = c.new-line.result.items in
    let text = c.args.text.now in
    let stands = subst (λ (t : Bool). it.stands t c.args.interpreter.now before) told c.requires.stands in
    let its = at_rest it.store_of_image w before.now (g.met.I.Interpreter.leaves c.args.interpreter.now before w stands means) in
    let stop = quit_is (has_quit (ended_lines begun text)) (sym c.in-Quit.is ∙ c.in_ok-feed.ensures.fed.quits) in
    ran_all it.step shows it.store_of_image _ _ _ [] _ _ _ _ _ _
    (progress_more it.step shows it.store_of_image _ _ _ _ _ _ _ _ _ _ (progress_start it.step shows it.store_of_image w (it.means c.args.interpreter.now before) (script_items text) (g.S.Sink.has c.args.sink.now) before.now before.dev_faults means its)
    (commands_of (ended_lines begun text)) [] (text_then_none begun text c.new-line.ensures.items stop) _ _ _ _ (c.in_ok-feed.ensures.ran told w means)) tt refl
