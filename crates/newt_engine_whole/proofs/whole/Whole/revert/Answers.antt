-- The entry of the copy is looked up and read, and the copy begins anew from it.
use Rattle.std.proofs.Common.{◌≡◌, ap, refl, subst, sym, ◌∙◌, ℕ, [], ◌∷◌, IsTrue}
use Rattle.std.specs.Prelude.{Result, true}
use Rattle.std.specs.declared.alloc.AllocError.{AllocError}
use Rattle.std.proofs.lemmas.Result.{err_from_is_err_and}
use Rattle.newt_base.specs.declared.Refusal.{Refusal}
use Rattle.newt_reply.specs.declared.reply.Reply.{Reply}
use Rattle.newt_spec_whole.specs.Whole as plain
use Rattle.newt_spec_whole.specs.Whole.{asked_in_turn, asks}
use Rattle.newt_spec_world.specs.declared.command.Command.{Command}
use Rattle.newt_spec_world.specs.declared.command.Command.TheVariants as command
use Rattle.newt_laws_world.specs.Worlds.{has_form, is_plain}
use Rattle.newt_laws_whole.specs.Runs.{AllFormed}
use Rattle.newt_laws_whole.proofs.Reading.{revert-nowhere}
use Rattle.newt_engine_units.proofs.Known.{Laws}
use Rattle.newt_engine.specs.Laws.{laws_of}
use Rattle.newt_engine_whole.specs.Calls.{Applied}
use Rattle.newt_engine_whole.specs.Copies.{FindsLiving, IsAt}
use Rattle.newt_engine_whole.specs.Standing.{Means, Standing, known_whole}
use Rattle.newt_engine_whole.specs.declared.saves.Place.{Place}
use Rattle.newt_engine_whole.specs.declared.whole.Whole.{Whole}
use Rattle.newt_engine_whole.proofs.Found.{known-means, whole-told}
use Rattle.newt_engine_whole.proofs.Meant.{all-formed}
use Rattle.newt_engine_whole.proofs.Shown.{applied-as}
use Rattle.newt_engine_whole.proofs.Opened.{untimed}
use Rattle.newt_engine_whole.proofs.Opening.{timed-stays}
use Rattle.newt_engine_whole.proofs.Reverted.{revert-done, revert-handed, revert-turn}
use Rattle.newt_engine_whole.proofs.Unanswered.{read-memory, rest-memory, rest-refused, still-read}
use Rattle.newt_engine_whole.proofs.whole.Whole.revert.Given.{Over}
use Rattle.newt_engine_whole.proofs.whole.Whole.revert.Goals as goal

abbrev laws : (g : Over) → Laws g.C.Card.reads g.C.Card.place g.C.Card.soups g.C.Card.stands
laws g = laws_of g.met.C.Card.formed g.met.C.Card.plain g.met.C.Card.durable g.met.C.Card.banks g.met.C.Card.kept

-- where the entry is, in each whole that is stood for
abbrev Finds : (g : Over) → Whole g.row.C.Denot → g.row.H.Denot → ℕ → Place → Type 0
Finds g it host n at = IsTrue g.H.Host.told → (h : plain.Whole) → Means g.C.Card.reads it (g.H.Host.outside host) h → AllFormed h.world × IsAt h n at

-- what is asked of the one that is known
turn : (g : Over) (it : Whole g.row.C.Denot) (host : _) (n : _) (at : Place) → Standing g.C.Card.reads g.C.Card.place g.C.Card.stands g.H.Host.told it (g.H.Host.outside host) → Finds g it host n at
    → IsTrue g.H.Host.told → asked_in_turn (known_whole g.C.Card.reads it (g.H.Host.outside host)) (command.Revert n) ≡ command.Get at.unit at.name at.uid ∷ []
unfolding asks
turn g it host n at begun found t =
    let o = g.H.Host.outside host in
    let s = whole-told begun t in
    let h = record (known_whole g.C.Card.reads it o) { watches = s.watches.0 } in
    let k = (found t h (known-means (laws g) it o s)).1 in
    revert-turn h n k.of k.there k.spot k.lives ∙ ap (λ (d : Command). d ∷ []) (λ i. command.Get (sym k.unit i) (sym k.name i) (sym k.uid i))

pub returns-in_err-place : goal.returns-in_err-place
unfolding is_plain
returns-in_err-place g c =
    let memory = err_from_is_err_and c.from_residual.result c.from_residual.ensures.1 in
    let o = g.H.Host.outside c.args.host.now in
    subst (λ (r : Result Reply AllocError). Applied g.C.Card.reads g.C.Card.place g.C.Card.stands g.H.Host.told (command.Revert c.args.number) c.args.self.now c.args.self.now o o r) (sym memory.1)
    (rest-memory refl c.requires.stands memory.0 refl)

pub returns-in-Err : goal.returns-in-Err
unfolding is_plain
returns-in-Err g c =
    rest-refused refl c.requires.stands c.in-Err.refusal (λ t h m. revert-nowhere h c.args.number c.in-Err.refusal
    (subst (λ (r : Result Place Refusal). FindsLiving h c.args.number r) c.in-Err.is (c.in_ok-place.ensures.found (g.H.Host.outside c.args.host.now) h (whole-told c.requires.stands t) m)))

-- it is found
found : (g : Over) (it : Whole g.row.C.Denot) (host : _) (n : _) (at : Place) (begun : Standing g.C.Card.reads g.C.Card.place g.C.Card.stands g.H.Host.told it (g.H.Host.outside host))
    → ((h : plain.Whole) → Standing g.C.Card.reads g.C.Card.place g.C.Card.stands true it (g.H.Host.outside host) → Means g.C.Card.reads it (g.H.Host.outside host) h → IsAt h n at) → Finds g it host n at
found g it host n at begun is t h m =
    let s = whole-told begun t in
    (all-formed (laws g) it.world.units it.world.desk (g.H.Host.outside host) s.world h.world m.world, is h s m)

pub returns-in_default : goal.returns-in_default
returns-in_default g c =
    let it = c.args.self.now in
    let host = c.args.host.now in
    let at = c.in-Ok.place in
    let f = found g it host c.args.number at c.requires.stands (λ h s m. subst (λ (r : Result Place Refusal). FindsLiving h c.args.number r) c.in-Ok.is (c.in_ok-place.ensures.found (g.H.Host.outside host) h s m)) in
    revert-handed c.args.number at c.requires.stands f (turn g it host c.args.number at c.requires.stands f) (untimed _ c.in_default.not-Timed) c.in_ok-reply.ensures

pub returns-in-Timed : goal.returns-in-Timed
returns-in-Timed g c =
    let it = c.args.self.now in
    let host = c.args.host.now in
    let at = c.in-Ok.place in
    let f = found g it host c.args.number at c.requires.stands (λ h s m. subst (λ (r : Result Place Refusal). FindsLiving h c.args.number r) c.in-Ok.is (c.in_ok-place.ensures.found (g.H.Host.outside host) h s m)) in
    revert-done c.args.number at c.requires.stands f (turn g it host c.args.number at c.requires.stands f)
    (λ t. let s = whole-told c.requires.stands t in (record (known_whole g.C.Card.reads it (g.H.Host.outside host)) { watches = s.watches.0 }, known-means (laws g) it (g.H.Host.outside host) s))
    refl refl c.rebase.ensures (applied-as c.in-Timed.is c.in_ok-reply.ensures)

pub returns-in_err-reply : goal.returns-in_err-reply
unfolding is_plain
returns-in_err-reply g c =
    let memory = err_from_is_err_and c.from_residual-in_err-reply.result c.from_residual-in_err-reply.ensures.1 in
    let it = c.args.self.now in
    let host = c.args.host.now in
    let at = c.in-Ok.place in
    let f = found g it host c.args.number at c.requires.stands (λ h s m. subst (λ (r : Result Place Refusal). FindsLiving h c.args.number r) c.in-Ok.is (c.in_ok-place.ensures.found (g.H.Host.outside host) h s m)) in
    subst (λ (r : Result Reply AllocError). Applied g.C.Card.reads g.C.Card.place g.C.Card.stands g.H.Host.told (command.Revert c.args.number) it (record it { world = c.apply.new.self }) (g.H.Host.outside host) (g.H.Host.outside c.apply.new.host) r)
    (sym memory.1)
    (read-memory refl c.requires.stands at.unit at.uid at.name c.in_err-reply.ensures memory.0 (λ w. refl) refl refl refl (λ t. ([], turn g it host c.args.number at c.requires.stands f t))
    (still-read c.requires.stands at.unit at.uid at.name c.in_err-reply.ensures (λ t h m v x e. cc)) c.in_err-reply.ensures.finished.unhidden)

pub apply-requires-clause-form : goal.apply-requires-clause-form
unfolding has_form
apply-requires-clause-form g c = refl
