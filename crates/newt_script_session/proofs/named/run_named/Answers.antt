use Rattle.std.proofs.Common.{true, Bool, Global, Result, Err, map, string_bytes, refl, sym, ◌∙◌, subst}
use Rattle.newt_host_attach.specs.Named.{AreAttached}
use Rattle.newt_spec_whole.specs.Whole.{Whole}
use Rattle.newt_script_session.specs.Causes.{HasCause}
use Rattle.newt_script_session.specs.First.{unmounted}
use Rattle.newt_script_session.specs.Reading.{start}
use Rattle.newt_script_session.specs.Script.{script_items}
use Rattle.newt_script_session.specs.Session.{Session}
use Rattle.newt_script_session.specs.declared.halt.Halt.{Halt}
use Rattle.newt_script_session.specs.declared.halt.Halt.TheVariants.{Memory}
use Rattle.newt_laws_steps.proofs.Beginning.{attached-at-rest}
use Rattle.newt_script_session.proofs.Beginning.{first_is, attached_faultless, named_ran, rests_first}
use Rattle.newt_script_session.proofs.Counting.{faults_end, faults_same, run_from}
use Rattle.newt_script_session.proofs.Going.{session_ran}
use Rattle.newt_script_session.proofs.Progress.{ran_nothing}
use Rattle.newt_script_session.proofs.named.run_named.Goals as goal

-- ---- out of memory at the start

pub returns-in_default-clause-ran : goal.returns-in_default-clause-ran
returns-in_default-clause-ran g c = λ told.
    let it = g.I.Interpreter in
    let names = map (string_bytes {Z = Global}) c.args.names.now in
    let old = g.H.Host.outside c.args.host.now in
    let mid = g.H.Host.outside c.new.new.host in
    let a = subst (λ (t : Bool). AreAttached t names old mid) told c.new.ensures.attached in
    let found = first_is it.store_of_image names old mid a (λ unit. g.met.H.Host.sized c.new.new.host unit told) in
    let its = rests_first it.store_of_image mid (attached-at-rest g.H.Host.told _ _ _ c.new.ensures.attached told) in
    let result : Result (Unit {0}) Halt = Err Memory in
    let S : Whole → Type 0 = λ w. Session it.step it.store_of_image c.args.limit result w mid mid in
    named_ran names old mid mid a it.step it.store_of_image
    (λ unit none. g.met.H.Host.untouched c.new.new.host unit told none) (λ unit. refl) (λ unit. g.met.H.Host.untouched c.args.host.now unit told (c.requires.free unit))
    (λ unit none. g.met.H.Host.untouched c.new.new.host unit told none) (λ unit some. g.met.H.Host.history c.new.new.host unit told some)
    c.args.limit result
    (subst S found (session_ran it.step it.store_of_image c.args.limit result (unmounted it.store_of_image mid) mid mid (λ w. Unit {0}) (λ texts. Unit {0}) (λ texts. Unit {0})
    (ran_nothing it.step true it.store_of_image (unmounted it.store_of_image mid) (λ w. Unit {0}) (script_items mid.input) _ mid.now mid.dev_faults tt its) tt start))

pub returns-in_default-clause-named : goal.returns-in_default-clause-named
returns-in_default-clause-named g c = c.new.ensures.attached.own

pub returns-in_default-clause-faults : goal.returns-in_default-clause-faults
returns-in_default-clause-faults g c = let none = attached_faultless _ _ _ _ c.new.ensures.attached in faults_end HasCause Memory _ _ none none

-- ---- the script

pub returns-clause-ran : goal.returns-clause-ran
returns-clause-ran g c = λ told.
    let it = g.I.Interpreter in
    let names = map (string_bytes {Z = Global}) c.args.names.now in
    let old = g.H.Host.outside c.args.host.now in
    let mid = g.H.Host.outside c.new.new.host in
    let new = g.H.Host.outside c.run_script.new.host in
    let a = subst (λ (t : Bool). AreAttached t names old mid) told c.new.ensures.attached in
    named_ran names old mid new a it.step it.store_of_image
    (λ unit none. g.met.H.Host.untouched c.new.new.host unit told none) c.run_script.ensures.call.cards.card (λ unit. g.met.H.Host.untouched c.args.host.now unit told (c.requires.free unit))
    (λ unit none. g.met.H.Host.untouched c.run_script.new.host unit told none) (λ unit some. g.met.H.Host.history c.run_script.new.host unit told some)
    c.args.limit c.run_script.result (c.run_script.ensures.session told _ (c.in-Ok.ensures.world told))

pub returns-clause-named : goal.returns-clause-named
returns-clause-named g c unit name is = c.new.ensures.attached.own unit name (sym (c.run_script.ensures.call.cards.card unit) ∙ is)

pub returns-clause-faults : goal.returns-clause-faults
returns-clause-faults g c =
    let none = attached_faultless _ _ _ _ c.new.ensures.attached in
    faults_same HasCause HasCause _ _ _ c.run_script.result none (λ halt cause. run_from halt _ _ _ none cause) c.run_script.ensures.call.faults
