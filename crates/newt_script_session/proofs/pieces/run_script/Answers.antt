use Rattle.std.proofs.Common.{true, Bool, subst}
use Rattle.newt_script_session.specs.Reading.{start}
use Rattle.newt_script_session.specs.Script.{script_items}
use Rattle.newt_script_session.proofs.Counting.{run_memory, running-refl}
use Rattle.newt_script_session.proofs.Crashing.{at_rest}
use Rattle.newt_script_session.proofs.Going.{session_ran}
use Rattle.newt_script_session.proofs.Progress.{ran_nothing}
use Rattle.newt_script_session.proofs.pieces.run_script.Goals as goal

pub returns-in_default-clause-session : goal.returns-in_default-clause-session
returns-in_default-clause-session g c = λ told w means.
    let it = g.I.Interpreter in
    let before = g.H.Host.outside c.args.host.now in
    let stands = subst (λ (t : Bool). it.stands t c.args.interpreter.now before) told c.requires.stands in
    let its = at_rest it.store_of_image w before.now (g.met.I.Interpreter.leaves c.args.interpreter.now before w stands means) in
    session_ran it.step it.store_of_image c.args.limit _ w before before (it.means c.args.interpreter.now before) (λ texts. Unit {0}) (λ texts. Unit {0}) (ran_nothing it.step true it.store_of_image w _ (script_items before.input) _ before.now before.dev_faults means its) tt start

pub returns-in_default-clause-call : goal.returns-in_default-clause-call
returns-in_default-clause-call g c = run_memory (running-refl _)
