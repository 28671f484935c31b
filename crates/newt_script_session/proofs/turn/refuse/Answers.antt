use Rattle.std.proofs.Common.{Bool, Err, refl, ap, subst, ◌∙◌}
use Rattle.std.proofs.lemmas.Result.{err_from_is_err_and}
use Rattle.newt_spec_world.specs.Reply.{Reply}
use Rattle.newt_laws_steps.specs.Devices.{SameDevices}
use Rattle.newt_script_session.proofs.Counting.{answer_put, answer_unput, quiet-refl}
use Rattle.newt_script_session.proofs.Crashing.{answering_refusal, at_rest}
use Rattle.newt_script_session.proofs.Obeying.{ran_item, ran_untaken}
use Rattle.newt_script_session.proofs.Throwing.{threw_refused}
use Rattle.newt_script_session.proofs.turn.refuse.Goals as goal

pub returns-in_err-put_reply-clause-ran : goal.returns-in_err-put_reply-clause-ran
returns-in_err-put_reply-clause-ran g c = λ told w means.
    let it = g.I.Interpreter in
    let before = g.H.Host.outside c.args.host.now in
    let new = g.H.Host.outside c.put_reply.new.host in
    let p = err_from_is_err_and c.from_residual.result c.from_residual.ensures.1 in
    let stands = subst (λ (t : Bool). it.stands t c.args.interpreter.now before) told c.requires.stands in
    let leaves = g.met.I.Interpreter.leaves c.args.interpreter.now before w stands means in
    let counts = c.put_reply.ensures.call.devices.counts.dev_faults in
    ran_untaken it.step g.S.Sink.shows it.store_of_image w (Err c.args.refusal) (w, Reply.refused c.args.refusal) (refl, refl) before.now before.now before.dev_faults new.dev_faults
    (answering_refusal it.store_of_image w c.args.refusal before.now leaves) (threw_refused (Reply.refused c.args.refusal) before.dev_faults new.dev_faults (λ unit. refl) counts) (λ unit none. counts unit)
    _ _ _ _ _ new.now before new (p.1 ∙ ap Err p.2) (at_rest it.store_of_image w before.now leaves) c.in_err-put_reply.ensures.call.faults.cause (c.in_err-put_reply.ensures.puts told)

pub returns-in_err-put_reply-clause-call : goal.returns-in_err-put_reply-clause-call
returns-in_err-put_reply-clause-call g c =
    let p = err_from_is_err_and c.from_residual.result c.from_residual.ensures.1 in
    answer_unput _ c.in_err-put_reply.field-0.0 (p.1 ∙ ap Err p.2) (quiet-refl _) c.in_err-put_reply.ensures.call

pub returns-clause-ran : goal.returns-clause-ran
returns-clause-ran g c = λ told w means.
    let it = g.I.Interpreter in
    let before = g.H.Host.outside c.args.host.now in
    let new = g.H.Host.outside c.put_reply.new.host in
    let stands = subst (λ (t : Bool). it.stands t c.args.interpreter.now before) told c.requires.stands in
    let leaves = g.met.I.Interpreter.leaves c.args.interpreter.now before w stands means in
    let counts = c.put_reply.ensures.call.devices.counts.dev_faults in
    let same = g.met.I.Interpreter.same_worlds c.args.interpreter.now before new w (subst (λ (t : Bool). SameDevices t before new) told c.put_reply.ensures.call.devices) means in
    ran_item it.step g.S.Sink.shows it.store_of_image w (Err c.args.refusal) (w, Reply.refused c.args.refusal) (refl, refl) before.now before.now before.dev_faults new.dev_faults
    (answering_refusal it.store_of_image w c.args.refusal before.now leaves) (threw_refused (Reply.refused c.args.refusal) before.dev_faults new.dev_faults (λ unit. refl) counts) (λ unit none. counts unit)
    _ _ _ _ _ new.now (at_rest it.store_of_image w before.now leaves) (c.in_ok-put_reply.ensures.puts told) same (c.put_reply.ensures.call.devices.changes told) c.in_ok-put_reply.ensures.took

pub returns-clause-stands : goal.returns-clause-stands
returns-clause-stands g c = g.met.I.Interpreter.kept g.H.Host.told c.args.interpreter.now (g.H.Host.outside c.args.host.now) (g.H.Host.outside c.put_reply.new.host) c.put_reply.ensures.call.devices c.requires.stands

pub returns-clause-call : goal.returns-clause-call
returns-clause-call g c = answer_put (quiet-refl _) c.in_ok-put_reply.ensures.call
