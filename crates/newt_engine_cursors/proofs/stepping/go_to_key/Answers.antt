-- The cursor is open, the literal is a key of its index, and it steps there.
use Rattle.std.proofs.Common.{arith, ◌∙◌, ◌*◌, ap, sym, subst, ℕ, true}
use Rattle.std.specs.Prelude.{Result, is_none}
use Rattle.std.proofs.lemmas.Result.{err_from_is_err_and}
use Rattle.newt_host.proofs.Outside.{NoFault-refl}
use Rattle.newt_pagebook.specs.declared.book.Stop.TheVariants.{Memory}
use Rattle.newt_spec_world.specs.Changed.{stepped}
use Rattle.newt_spec_world.specs.World.{World}
use Rattle.newt_spec_world.specs.declared.command.Command.TheVariants as command
use Rattle.newt_laws_world.specs.Settled.{IsSettled, MountedApart}
use Rattle.newt_store_change.specs.declared.fault.StoreFault.{StoreFault}
use Rattle.newt_engine_units.specs.Answers.{Answers}
use Rattle.newt_engine_units.specs.Stands.{Eight}
use Rattle.newt_engine_units.proofs.Known.{Laws}
use Rattle.newt_engine_hits.proofs.Reading.{not-read, asked-read}
use Rattle.newt_engine_cursors.specs.Keyed.{seen_cursor}
use Rattle.newt_engine_cursors.specs.Motions.{step_of}
use Rattle.newt_engine_cursors.specs.Replies.{shown_reply}
use Rattle.newt_engine_cursors.specs.World.{world_with}
use Rattle.newt_engine_cursors.specs.declared.show.Shown.{Shown}
use Rattle.newt_engine_cursors.specs.declared.stepping.Motion.TheVariants as motion
use Rattle.newt_engine_cursors.proofs.Answering.{no-cursor-key, bad-key, key-answers, key-does-so, key-pages, key-few}
use Rattle.newt_engine_cursors.proofs.Calls.{ended-fetches, stays, turns-end, walks-of}
use Rattle.newt_engine_cursors.proofs.Stepped.{still-settled}
use Rattle.newt_engine_cursors.proofs.stepping.go_to_key.Goals as goal

pub returns-in_default : goal.returns-in_default
returns-in_default g c = stays c.requires.stands c.requires.desk tt (λ t apart. no-cursor-key _ c.args.cursor c.args.graph.now (ap is_none (sym c.in_default.ensures)))

pub returns-in_err-key : goal.returns-in_err-key
returns-in_err-key g c =
    let r = c.from_residual.result in
    walks-of (turns-end {S = Unit {0}} {asks = true} (λ (r : Result Shown StoreFault) (w v : World). Answers w v (command.Gotokey c.args.cursor c.args.graph.now) shown_reply r) {stop = Memory}
    (record { read = not-read c.requires.stands; cause = NoFault-refl _; failed = tt; no_fault = tt; unread = asked-read Rattle.std.proofs.Common.refl }) c.requires.desk tt r (err_from_is_err_and r c.from_residual.ensures.1) (λ w v. tt))
    (λ t apart settled d. d) (λ t apart settled un. (λ u. omega arith)) (λ un. ended-fetches shown_reply _ _ r (err_from_is_err_and r c.from_residual.ensures.1))

pub returns-in_default-2 : goal.returns-in_default-2
returns-in_default-2 g c =
    stays c.requires.stands c.requires.desk tt (λ t apart.
    bad-key _ c.args.cursor c.args.graph.now (seen_cursor (c.in-Some.query, c.in-Some.field-0-1)) (sym c.in-Some.ensures) (sym c.in_ok-key.ensures.value ∙ c.in_default-2.is))

pub returns : goal.returns
returns g c =
    let laws : Laws g.C.Card.reads g.C.Card.place g.C.Card.soups g.C.Card.stands = record { formed = g.met.C.Card.formed; plain = g.met.C.Card.plain; durable = g.met.C.Card.durable; banks = g.met.C.Card.banks; kept = g.met.C.Card.kept } in
    let o = g.H.Host.outside c.args.host.now in
    let eight : Eight (g.H.Host.outside c.args.host.now) = record { eight = g.met.H.Host.eight c.args.host.now; none = g.met.H.Host.none c.args.host.now } in
    let w = world_with g.C.Card.reads c.args.units.now c.args.desk.now o in
    let k = seen_cursor (c.in-Some.query, c.in-Some.field-0-1) in
    let is = sym c.in_ok-key.ensures.value ∙ c.in-Some-2.is in
    let after : Rattle.std.proofs.Common.IsTrue g.H.Host.told → MountedApart w → IsSettled w → IsSettled (stepped w c.args.cursor (step_of (motion.Key c.in-Some-2.key))) = λ t apart settled.
    subst IsSettled (key-does-so w c.args.cursor c.args.graph.now k (sym c.in-Some.ensures) c.in-Some-2.key is)
    (still-settled laws g.H.Host.told c.args.units.now c.args.desk.now o eight c.requires.stands (command.Gotokey c.args.cursor c.args.graph.now) t apart settled (key-few w c.args.cursor c.args.graph.now)) in
    walks-of c.steer.ensures.turns
    (λ t apart settled d. key-answers w c.args.cursor c.args.graph.now k (sym c.in-Some.ensures) c.in-Some-2.key is (after t apart settled) _ c.steer.result d)
    (λ t apart settled un. (λ u. let e = ap (λ (n : ℕ). 512 * n) (key-pages w c.args.cursor c.args.graph.now k (sym c.in-Some.ensures) c.in-Some-2.key is (after t apart settled) u) in let more = (c.steer.ensures.fetches t apart un) u in omega (arith, e, more)))
    (λ un. c.steer.ensures.pages un)
