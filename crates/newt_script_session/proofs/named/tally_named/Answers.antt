use Rattle.std.proofs.Common.{false, Bool, Global, Result, Err, map, string_bytes, refl, sym, ◌∙◌, subst}
use Rattle.newt_host.proofs.Extending.{extends-always, extends-refl}
use Rattle.newt_host_attach.specs.Named.{AreAttached}
use Rattle.newt_spec_whole.specs.Whole.{Whole}
use Rattle.newt_script_session.specs.Counted.{CountedRun}
use Rattle.newt_script_session.specs.Causes.{HasSinkCause}
use Rattle.newt_script_session.specs.First.{unmounted}
use Rattle.newt_script_session.specs.Script.{script_items}
use Rattle.newt_script_session.specs.declared.halt.Halt.{Halt}
use Rattle.newt_script_session.specs.declared.halt.Halt.TheVariants.{Memory}
use Rattle.newt_laws_steps.proofs.Beginning.{attached-at-rest}
use Rattle.newt_script_session.proofs.Beginning.{attached_first, first_is, attached_faultless, named_counted, rests_first}
use Rattle.newt_script_session.proofs.Counting.{faults_end, faults_same, none-refl, sink_from}
use Rattle.newt_script_session.proofs.Progress.{ran_nothing}
use Rattle.newt_script_session.proofs.Summing.{counted_halted}
use Rattle.newt_script_session.proofs.named.tally_named.Goals as goal

-- ---- out of memory at the start

pub returns-in_default-clause-counted : goal.returns-in_default-clause-counted
returns-in_default-clause-counted g c = λ told.
    let it = g.I.Interpreter in
    let names = map (string_bytes {Z = Global}) c.args.names.now in
    let old = g.H.Host.outside c.args.host.now in
    let mid = g.H.Host.outside c.new.new.host in
    let a = subst (λ (t : Bool). AreAttached t names old mid) told c.new.ensures.attached in
    let found = first_is it.store_of_image names old mid a (λ unit. g.met.H.Host.sized c.new.new.host unit told) in
    let its = rests_first it.store_of_image mid (attached-at-rest g.H.Host.told _ _ _ c.new.ensures.attached told) in
    let result : Result (Unit {0}) Halt = Err Memory in
    let S : Whole → Type 0 = λ w. CountedRun it.step it.store_of_image c.args.script.now result w mid mid in
    named_counted names old mid mid a it.step it.store_of_image
    (λ unit none. g.met.H.Host.untouched c.new.new.host unit told none) (λ unit. refl) (λ unit. g.met.H.Host.untouched c.args.host.now unit told (c.requires.free unit))
    (λ unit none. g.met.H.Host.untouched c.new.new.host unit told none) (λ unit some. g.met.H.Host.history c.new.new.host unit told some)
    c.args.script.now result
    (subst S found (counted_halted it.step it.store_of_image c.args.script.now (unmounted it.store_of_image mid) mid mid {T = Unit {0}} {U = Unit {0}} result Memory (λ w. Unit {0})
    (λ texts. Unit {0}) (λ texts. Unit {0}) refl (none-refl mid)
    (ran_nothing it.step false it.store_of_image (unmounted it.store_of_image mid) (λ w. Unit {0}) (script_items c.args.script.now) _ mid.now mid.dev_faults tt its)))

pub returns-in_default-clause-attached : goal.returns-in_default-clause-attached
returns-in_default-clause-attached g c = λ told.
    let names = map (string_bytes {Z = Global}) c.args.names.now in
    let old = g.H.Host.outside c.args.host.now in
    let mid = g.H.Host.outside c.new.new.host in
    let a = subst (λ (t : Bool). AreAttached t names old mid) told c.new.ensures.attached in
    attached_first names old mid mid a (λ unit none. g.met.H.Host.untouched c.new.new.host unit told none) (λ unit. refl) (extends-refl mid.now)

pub returns-in_default-clause-named : goal.returns-in_default-clause-named
returns-in_default-clause-named g c = c.new.ensures.attached.own

pub returns-in_default-clause-left : goal.returns-in_default-clause-left
returns-in_default-clause-left g c = c.new.ensures.attached.input

pub returns-in_default-clause-faults : goal.returns-in_default-clause-faults
returns-in_default-clause-faults g c = let none = attached_faultless _ _ _ _ c.new.ensures.attached in faults_end HasSinkCause Memory _ _ none none

-- ---- the script

pub returns-clause-counted : goal.returns-clause-counted
returns-clause-counted g c = λ told.
    let it = g.I.Interpreter in
    let names = map (string_bytes {Z = Global}) c.args.names.now in
    let old = g.H.Host.outside c.args.host.now in
    let mid = g.H.Host.outside c.new.new.host in
    let new = g.H.Host.outside c.tally_script.new.host in
    let a = subst (λ (t : Bool). AreAttached t names old mid) told c.new.ensures.attached in
    named_counted names old mid new a it.step it.store_of_image
    (λ unit none. g.met.H.Host.untouched c.new.new.host unit told none) c.tally_script.ensures.call.cards.card (λ unit. g.met.H.Host.untouched c.args.host.now unit told (c.requires.free unit))
    (λ unit none. g.met.H.Host.untouched c.tally_script.new.host unit told none) (λ unit some. g.met.H.Host.history c.tally_script.new.host unit told some)
    c.args.script.now c.tally_script.result (c.tally_script.ensures.counted told _ (c.in-Ok.ensures.world told))

pub returns-clause-attached : goal.returns-clause-attached
returns-clause-attached g c = λ told.
    let names = map (string_bytes {Z = Global}) c.args.names.now in
    let old = g.H.Host.outside c.args.host.now in
    let mid = g.H.Host.outside c.new.new.host in
    let new = g.H.Host.outside c.tally_script.new.host in
    let a = subst (λ (t : Bool). AreAttached t names old mid) told c.new.ensures.attached in
    attached_first names old mid new a (λ unit none. g.met.H.Host.untouched c.new.new.host unit told none) c.tally_script.ensures.call.cards.card
    (extends-always (c.tally_script.ensures.counted told _ (c.in-Ok.ensures.world told)).crash)

pub returns-clause-named : goal.returns-clause-named
returns-clause-named g c unit name is = c.new.ensures.attached.own unit name (sym (c.tally_script.ensures.call.cards.card unit) ∙ is)

pub returns-clause-left : goal.returns-clause-left
returns-clause-left g c = c.tally_script.ensures.call.unread.input ∙ c.new.ensures.attached.input

pub returns-clause-faults : goal.returns-clause-faults
returns-clause-faults g c =
    let none = attached_faultless _ _ _ _ c.new.ensures.attached in
    faults_same HasSinkCause HasSinkCause _ _ _ c.tally_script.result none (λ halt cause. sink_from halt _ _ _ none cause) c.tally_script.ensures.call.faults
