-- The alias is looked up, the entry is read, and a copy is put.
use Rattle.std.proofs.Common.{◌≡◌, refl, subst, sym, ◌∙◌, ℕ, true, [], Ok, Err}
use Rattle.std.specs.Prelude.{Result}
use Rattle.std.specs.declared.alloc.AllocError.{AllocError}
use Rattle.std.proofs.lemmas.Result.{err_from_is_err_and}
use Rattle.newt_host.specs.Outside.{Outside}
use Rattle.newt_reply.specs.declared.reply.Reply.{Reply}
use Rattle.newt_spec_world.specs.Reply as replies
use Rattle.newt_spec_world.specs.declared.command.Command.{Command}
use Rattle.newt_spec_world.specs.declared.command.Command.TheVariants as command
use Rattle.newt_laws_world.specs.Worlds.{has_form, is_plain}
use Rattle.newt_laws_whole.proofs.Reading.{open-refused}
use Rattle.newt_store_change.specs.Faults.{IsRefusal}
use Rattle.newt_store_change.specs.declared.fault.StoreFault.{StoreFault}
use Rattle.newt_engine_units.specs.Answers.{Answers}
use Rattle.newt_engine_units.specs.Stands.{Eight, Stands, world_of}
use Rattle.newt_engine_units.specs.declared.units.Units.{Units}
use Rattle.newt_engine_units.proofs.Known.{Laws}
use Rattle.newt_engine.specs.Laws.{laws_of}
use Rattle.newt_engine.proofs.Applying.{standing-told}
use Rattle.newt_engine_whole.specs.Calls.{Applied}
use Rattle.newt_engine_whole.specs.Standing.{known_whole}
use Rattle.newt_engine_whole.proofs.Found.{known-means, whole-told}
use Rattle.newt_engine_whole.proofs.Opening.{opening}
use Rattle.newt_engine_whole.proofs.Meant.{all-formed, mounted-same, soup-same, tests-same}
use Rattle.newt_engine_whole.proofs.Shown.{applied-as}
use Rattle.newt_engine_whole.proofs.Opened.{alias-known, alias-refused, open-handed, open-turn, untimed}
use Rattle.newt_engine_whole.proofs.Unanswered.{read-memory, rest-refused, still-read}
use Rattle.newt_engine_whole.proofs.whole.Whole.open.Given.{Over}
use Rattle.newt_engine_whole.proofs.whole.Whole.open.Goals as goal

abbrev laws : (g : Over) → Laws g.C.Card.reads g.C.Card.place g.C.Card.soups g.C.Card.stands
laws g = laws_of g.met.C.Card.formed g.met.C.Card.plain g.met.C.Card.durable g.met.C.Card.banks g.met.C.Card.kept

-- what the units answered that were asked, by the units of the world
by-units : (g : Over) (units asked : Units g.row.C.Denot) (c : Command) (reply : ℕ × ℕ → replies.Reply) (r : Result (ℕ × ℕ) StoreFault) → asked ≡ units
    → ((o : Outside) → Eight o → Stands g.C.Card.place g.C.Card.stands true asked o → Answers (world_of g.C.Card.reads asked o) (world_of g.C.Card.reads asked o) c reply r)
    → (o : Outside) → Eight o → Stands g.C.Card.place g.C.Card.stands true units o → Answers (world_of g.C.Card.reads units o) (world_of g.C.Card.reads units o) c reply r
by-units g units asked c reply r same =
    subst (λ (u : Units g.row.C.Denot). (o : Outside) → Eight o → Stands g.C.Card.place g.C.Card.stands true u o → Answers (world_of g.C.Card.reads u o) (world_of g.C.Card.reads u o) c reply r) same

pub returns-in-Refused : goal.returns-in-Refused
unfolding is_plain
returns-in-Refused g c =
    let refusal = c.in-Refused.refusal in
    let o = g.H.Host.outside c.args.host.now in
    let it = c.args.self.now.world in
    rest-refused refl c.requires.stands refusal (λ t h m.
    let s = standing-told c.requires.stands.world t in
    let w = world_of g.C.Card.reads it.units o in
    let alias = command.Alias c.args.unit c.args.name c.args.uid in
    let reply = λ (x : ℕ × ℕ). replies.Reply.alias x.0 x.1 c.args.uid in
    let says = subst (λ (f : StoreFault). Answers w w alias reply (Err f)) c.in-Refused.is (by-units g it.units c.units.result.now alias reply (Err c.in-Err.fault) c.units.ensures c.in-Err.ensures.answered o s.eight s.stand) in
    open-refused h c.args.unit c.args.name c.args.uid refusal
    (tests-same (laws g) it.units it.desk o s h.world m.world c.args.unit c.args.uid c.args.name ∙ alias-refused w w c.args.unit c.args.uid c.args.name refusal says))

pub returns-in-Stop : goal.returns-in-Stop
returns-in-Stop g c = absurd (subst (λ (f : StoreFault). IsRefusal f) c.in-Stop.is c.in-Err.ensures.only)

pub returns-in_default : goal.returns-in_default
returns-in_default g c = open-handed c.args.unit c.args.uid c.args.name c.requires.stands (untimed _ c.in_default.not-Timed) c.in_ok-reply.ensures

pub returns-in_err-reply : goal.returns-in_err-reply
unfolding is_plain
returns-in_err-reply g c =
    let memory = err_from_is_err_and c.from_residual.result c.from_residual.ensures.1 in
    let u = c.args.unit in
    let o = g.H.Host.outside c.args.host.now in
    subst (λ (r : Result Reply AllocError). Applied g.C.Card.reads g.C.Card.place g.C.Card.stands g.H.Host.told (command.Open u c.args.name c.args.uid) c.args.self.now (record c.args.self.now { world = c.apply.new.self }) o (g.H.Host.outside c.apply.new.host) r)
    (sym memory.1)
    (read-memory refl c.requires.stands u c.args.uid c.args.name c.in_err-reply.ensures memory.0 (λ w. refl) refl refl refl (λ t. ([], open-turn (known_whole g.C.Card.reads c.args.self.now o) u c.args.uid c.args.name))
    (still-read c.requires.stands u c.args.uid c.args.name c.in_err-reply.ensures (λ t h m v it e. cc)) c.in_err-reply.ensures.finished.unhidden)

pub returns-in-Timed : goal.returns-in-Timed
returns-in-Timed g c =
    let o = g.H.Host.outside c.args.host.now in
    let it = c.args.self.now.world in
    let e = c.open_at.ensures in
    opening c.args.unit c.args.uid c.args.name c.requires.stands (applied-as c.in-Timed.is c.in_ok-reply.ensures)
    (λ t h m.
    let s = standing-told c.requires.stands.world t in
    let w = world_of g.C.Card.reads it.units o in
    let k = alias-known w w c.args.unit c.args.uid _ _ c.args.name
    (by-units g it.units c.units.result.now (command.Alias c.args.unit c.args.name c.args.uid) (λ x. replies.Reply.alias x.0 x.1 c.args.uid) (Ok c.in-Ok.found) c.units.ensures c.in-Ok.ensures.answered o s.eight s.stand) in
    (k.0, mounted-same (laws g) it.units it.desk o s h.world m.world c.args.unit ∙ k.1, k.2, k.3, soup-same (laws g) it.units it.desk o s h.world m.world c.args.unit c.args.name ∙ k.4, k.5))
    (λ t.
    let s = whole-told c.requires.stands t in
    let m = known-means (laws g) c.args.self.now o s in
    (record (known_whole g.C.Card.reads c.args.self.now o) { watches = s.watches.0 }, m, all-formed (laws g) it.units it.desk o s.world (known_whole g.C.Card.reads c.args.self.now o).world m.world))
    e.world e.watches c.open_at.result e.put

pub apply-requires-clause-form : goal.apply-requires-clause-form
unfolding has_form
apply-requires-clause-form g c = refl
