use Rattle.std.proofs.Common.{◌≡◌, [], ◌∷◌, List, Bool, IfOk, sym, ap, subst}
use Rattle.newt_spec_script.specs.Script.{Item}
use Rattle.newt_script.proofs.Forms.{has_its_form}
use Rattle.newt_script_session.specs.Answered.{Ran}
use Rattle.newt_script_session.specs.Causes.{flow_of}
use Rattle.newt_script_session.specs.Script.{commands_of}
use Rattle.newt_script_session.proofs.Counting.{answer_memory, answer_ok, quiet-refl}
use Rattle.newt_script_session.proofs.Crashing.{at_rest}
use Rattle.newt_script_session.proofs.Progress.{ran_none, ran_nothing}
use Rattle.newt_script_session.proofs.Turning.{said_nothing, said_command, said_refusal, commands_silent, commands_command, commands_refused, quit_silent, quit_command, quit_refused}
use Rattle.newt_script_session.proofs.turn.turn.Goals as goal

-- a line without a command
pub returns-in-Ok-None-clause-flow : goal.returns-in-Ok-None-clause-flow
returns-in-Ok-None-clause-flow g c =
    let said = said_nothing c.line.result c.in-Ok-None.field-0 c.args.bytes.now c.line.ensures.reading c.in-Ok-None.is c.in-Ok-None.field-0-is in
    ap flow_of (sym (quit_silent c.args.bytes.now said))

pub returns-in-Ok-None-clause-ran : goal.returns-in-Ok-None-clause-ran
returns-in-Ok-None-clause-ran g c = λ told w means.
    let said = said_nothing c.line.result c.in-Ok-None.field-0 c.args.bytes.now c.line.ensures.reading c.in-Ok-None.is c.in-Ok-None.field-0-is in
    let it = g.I.Interpreter in
    let before = g.H.Host.outside c.args.host.now in
    let stands = subst (λ (t : Bool). it.stands t c.args.interpreter.now before) told c.requires.stands in
    let its = at_rest it.store_of_image w before.now (g.met.I.Interpreter.leaves c.args.interpreter.now before w stands means) in
    ran_none it.step g.S.Sink.shows it.store_of_image _ w _ (commands_of (c.args.bytes.now ∷ [])) _ before.now before.dev_faults means its (commands_silent c.args.bytes.now said)

pub returns-in-Ok-None-clause-call : goal.returns-in-Ok-None-clause-call
returns-in-Ok-None-clause-call g c = answer_ok (quiet-refl _)

-- a command
pub returns-in-Ok-Some-clause-flow : goal.returns-in-Ok-Some-clause-flow
returns-in-Ok-Some-clause-flow g c =
    let said = said_command c.line.result c.in-Ok-Some.field-0 c.in-Ok-Some.command c.args.bytes.now c.line.ensures.reading c.in-Ok-Some.is c.in-Ok-Some.field-0-is in
    let P : Bool → Type 0 = λ quit. IfOk c.obey.result (λ flow. flow ≡ flow_of quit) in
    subst P (sym (quit_command c.args.bytes.now c.in-Ok-Some.command said)) c.obey.ensures.flow

pub returns-in-Ok-Some-clause-ran : goal.returns-in-Ok-Some-clause-ran
returns-in-Ok-Some-clause-ran g c = λ told w means.
    let said = said_command c.line.result c.in-Ok-Some.field-0 c.in-Ok-Some.command c.args.bytes.now c.line.ensures.reading c.in-Ok-Some.is c.in-Ok-Some.field-0-is in
    let it = g.I.Interpreter in
    let before = g.H.Host.outside c.args.host.now in
    let new = g.H.Host.outside c.obey.new.host in
    let P : List Item → Type 0 = λ items. Ran it.step g.S.Sink.shows it.store_of_image c.obey.result w (it.means c.obey.new.interpreter new) items
    (g.S.Sink.has c.args.sink.now) (g.S.Sink.has c.obey.new.sink) before.now new.now before.dev_faults new.dev_faults in
    subst P (sym (commands_command c.args.bytes.now c.in-Ok-Some.command said)) (c.obey.ensures.ran told w means)

-- a refusal
pub returns-in-Err-Refused-clause-flow : goal.returns-in-Err-Refused-clause-flow
returns-in-Err-Refused-clause-flow g c =
    let said = said_refusal c.line.result c.in-Err-Refused.field-0 c.in-Err-Refused.refusal c.args.bytes.now c.line.ensures.reading c.in-Err-Refused.is c.in-Err-Refused.field-0-is in
    let P : Bool → Type 0 = λ quit. IfOk c.refuse.result (λ flow. flow ≡ flow_of quit) in
    subst P (sym (quit_refused c.args.bytes.now c.in-Err-Refused.refusal said)) c.refuse.ensures.flow

pub returns-in-Err-Refused-clause-ran : goal.returns-in-Err-Refused-clause-ran
returns-in-Err-Refused-clause-ran g c = λ told w means.
    let said = said_refusal c.line.result c.in-Err-Refused.field-0 c.in-Err-Refused.refusal c.args.bytes.now c.line.ensures.reading c.in-Err-Refused.is c.in-Err-Refused.field-0-is in
    let it = g.I.Interpreter in
    let before = g.H.Host.outside c.args.host.now in
    let new = g.H.Host.outside c.refuse.new.host in
    let P : List Item → Type 0 = λ items. Ran it.step g.S.Sink.shows it.store_of_image c.refuse.result w (it.means c.args.interpreter.now new) items
    (g.S.Sink.has c.args.sink.now) (g.S.Sink.has c.refuse.new.sink) before.now new.now before.dev_faults new.dev_faults in
    subst P (sym (commands_refused c.args.bytes.now c.in-Err-Refused.refusal said)) (c.refuse.ensures.ran told w means)

-- out of memory
pub returns-in-Err-Memory-clause-ran : goal.returns-in-Err-Memory-clause-ran
returns-in-Err-Memory-clause-ran g c = λ told w means.
    let it = g.I.Interpreter in
    let before = g.H.Host.outside c.args.host.now in
    let stands = subst (λ (t : Bool). it.stands t c.args.interpreter.now before) told c.requires.stands in
    let its = at_rest it.store_of_image w before.now (g.met.I.Interpreter.leaves c.args.interpreter.now before w stands means) in
    ran_nothing it.step g.S.Sink.shows it.store_of_image w _ (commands_of (c.args.bytes.now ∷ [])) _ before.now before.dev_faults means its

pub returns-in-Err-Memory-clause-call : goal.returns-in-Err-Memory-clause-call
returns-in-Err-Memory-clause-call g c = answer_memory (quiet-refl _)

-- the command has its form
pub obey-requires-clause-form : goal.obey-requires-clause-form
obey-requires-clause-form g c =
    has_its_form c.args.bytes.now c.in-Ok-Some.command
    (sym (said_command c.line.result c.in-Ok-Some.field-0 c.in-Ok-Some.command c.args.bytes.now c.line.ensures.reading c.in-Ok-Some.is c.in-Ok-Some.field-0-is))
