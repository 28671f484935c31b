use Rattle.std.proofs.Common.{◌++◌, [], ◌∷◌, ℕ, List, Bool, IsTrue, Ok, Err, ap, subst, ◌∙◌}
use Rattle.std.proofs.lemmas.Result.{err_from_is_err_and}
use Rattle.newt_spec_world.specs.Reply.{Reply, reply_text}
use Rattle.newt_laws_steps.specs.Devices.{SameDevices}
use Rattle.newt_script_session.specs.Stream.{PutsText, put_out}
use Rattle.newt_script_session.proofs.Counting.{answer_put, answer_stopped, answer_unput, quiet_apply}
use Rattle.newt_script_session.proofs.Crashing.{answering_command, at_rest}
use Rattle.newt_script_session.proofs.Obeying.{ran_item, ran_stopped, ran_untaken}
use Rattle.newt_script_session.proofs.Reading.{unread_stepped}
use Rattle.newt_script_session.proofs.Throwing.{failed_after, threw_after}
use Rattle.newt_script_session.proofs.turn.obey.Goals as goal

pub returns-in_err-put_reply-clause-ran : goal.returns-in_err-put_reply-clause-ran
returns-in_err-put_reply-clause-ran g c = λ told w means.
    let it = g.I.Interpreter in
    let shows = g.S.Sink.shows in
    let before = g.H.Host.outside c.args.host.now in
    let mid = g.H.Host.outside c.apply.new.host in
    let new = g.H.Host.outside c.put_reply.new.host in
    let p = err_from_is_err_and c.from_residual.result c.from_residual.ensures.1 in
    let stands = subst (λ (t : Bool). it.stands t c.apply.new.self mid) told c.in-Ok.ensures.stands in
    let s = c.in-Ok.ensures.stepped told w means in
    let its = at_rest it.store_of_image s.next mid.now (g.met.I.Interpreter.leaves c.apply.new.self mid s.next stands s.answered.1) in
    let R : Reply → Type 0 = λ r. PutsText c.put_reply.result (put_out shows (reply_text r)) mid.now new.now in
    ran_untaken it.step shows it.store_of_image w (Ok c.args.command) (s.next, s.reply) s.steps before.now mid.now before.dev_faults new.dev_faults
    (answering_command it.store_of_image w c.args.command s.next before.now mid.now s.moments)
    (threw_after s.reply before.dev_faults mid.dev_faults new.dev_faults c.put_reply.ensures.call.devices.counts.dev_faults s.threw)
    (failed_after s.reply before.dev_faults mid.dev_faults new.dev_faults c.put_reply.ensures.call.devices.counts.dev_faults s.failed)
    _ _ _ _ _ new.now mid new (p.1 ∙ ap Err p.2) its c.in_err-put_reply.ensures.call.faults.cause
    (rw c.in_err-put_reply.was at (subst R s.answered.0 (c.put_reply.ensures.puts told)))

pub returns-in_err-put_reply-clause-call : goal.returns-in_err-put_reply-clause-call
returns-in_err-put_reply-clause-call g c =
    let it = g.I.Interpreter in
    let before = g.H.Host.outside c.args.host.now in
    let some = λ (t : IsTrue g.H.Host.told). g.met.I.Interpreter.has_world c.args.interpreter.now before (subst (λ (b : Bool). it.stands b c.args.interpreter.now before) t c.requires.stands) in
    let p = err_from_is_err_and c.from_residual.result c.from_residual.ensures.1 in
    answer_unput _ c.in_err-put_reply.field-0.0 (p.1 ∙ ap Err p.2)
    (quiet_apply (unread_stepped c.apply.ensures.alone some c.in-Ok.ensures.stepped) c.apply.ensures.alone) c.in_err-put_reply.ensures.call

pub returns-clause-ran : goal.returns-clause-ran
returns-clause-ran g c = λ told w means.
    let it = g.I.Interpreter in
    let shows = g.S.Sink.shows in
    let before = g.H.Host.outside c.args.host.now in
    let mid = g.H.Host.outside c.apply.new.host in
    let new = g.H.Host.outside c.put_reply.new.host in
    let stands = subst (λ (t : Bool). it.stands t c.apply.new.self mid) told c.in-Ok.ensures.stands in
    let s = c.in-Ok.ensures.stepped told w means in
    let its = at_rest it.store_of_image s.next mid.now (g.met.I.Interpreter.leaves c.apply.new.self mid s.next stands s.answered.1) in
    let same = g.met.I.Interpreter.same_worlds c.apply.new.self mid new s.next (subst (λ (t : Bool). SameDevices t mid new) told c.put_reply.ensures.call.devices) s.answered.1 in
    let counts = c.put_reply.ensures.call.devices.counts.dev_faults in
    let R : Reply → Type 0 = λ r. PutsText c.put_reply.result (put_out shows (reply_text r)) mid.now new.now in
    let T : Reply → Type 0 = λ r. (texts : List (List ℕ)) → g.S.Sink.has c.args.sink.now texts → g.S.Sink.has c.put_reply.new.sink (texts ++ reply_text r ∷ []) in
    ran_item it.step shows it.store_of_image w (Ok c.args.command) (s.next, s.reply) s.steps before.now mid.now before.dev_faults new.dev_faults
    (answering_command it.store_of_image w c.args.command s.next before.now mid.now s.moments)
    (threw_after s.reply before.dev_faults mid.dev_faults new.dev_faults counts s.threw)
    (failed_after s.reply before.dev_faults mid.dev_faults new.dev_faults counts s.failed)
    _ _ _ _ _ new.now its (rw c.in_ok-put_reply.was at (subst R s.answered.0 (c.put_reply.ensures.puts told)))
    same (c.put_reply.ensures.call.devices.changes told)
    (subst T s.answered.0 c.in_ok-put_reply.ensures.took)

pub returns-clause-call : goal.returns-clause-call
returns-clause-call g c =
    let it = g.I.Interpreter in
    let before = g.H.Host.outside c.args.host.now in
    let some = λ (t : IsTrue g.H.Host.told). g.met.I.Interpreter.has_world c.args.interpreter.now before (subst (λ (b : Bool). it.stands b c.args.interpreter.now before) t c.requires.stands) in
    answer_put (quiet_apply (unread_stepped c.apply.ensures.alone some c.in-Ok.ensures.stepped) c.apply.ensures.alone) c.in_ok-put_reply.ensures.call

pub returns-in_default-clause-ran : goal.returns-in_default-clause-ran
returns-in_default-clause-ran g c = λ told w means.
    let it = g.I.Interpreter in
    let before = g.H.Host.outside c.args.host.now in
    let mid = g.H.Host.outside c.apply.new.host in
    let s = c.in_default.ensures.stepped told w means in
    ran_stopped it.step g.S.Sink.shows it.store_of_image w (Ok c.args.command) (s.next, s.reply) s.steps before.now mid.now before.dev_faults mid.dev_faults
    (answering_command it.store_of_image w c.args.command s.next before.now mid.now s.moments) s.threw s.failed _ _ _

pub returns-in_default-clause-call : goal.returns-in_default-clause-call
returns-in_default-clause-call g c =
    let it = g.I.Interpreter in
    let before = g.H.Host.outside c.args.host.now in
    let some = λ (t : IsTrue g.H.Host.told). g.met.I.Interpreter.has_world c.args.interpreter.now before (subst (λ (b : Bool). it.stands b c.args.interpreter.now before) t c.requires.stands) in
    answer_stopped (unread_stepped c.apply.ensures.alone some c.in_default.ensures.stepped) c.apply.ensures.alone
