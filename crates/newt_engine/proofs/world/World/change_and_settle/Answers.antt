-- What the command did is what is reached.
use Rattle.std.proofs.Common.{◌≡◌, refl, ap, sym, ◌∙◌, replicate, None, Ok, IsTrue}
use Rattle.newt_base.specs.Refusals.{first_of}
use Rattle.newt_spec_world.specs.Changed.{changed}
use Rattle.newt_spec_world.specs.Refused.{checks}
use Rattle.newt_spec_world.specs.World.{World}
use Rattle.newt_laws_reach.specs.Reach.{reach}
use Rattle.newt_laws_steps.specs.StandsFor.{seen}
use Rattle.newt_laws_world.specs.Cursors.{with_cursors}
use Rattle.newt_engine_units.specs.Stands.{world_of}
use Rattle.newt_engine_cursors.specs.Reached.{seen_reach}
use Rattle.newt_engine.specs.Calls.{Obeyed}
use Rattle.newt_engine.specs.Kept.{leaves_all}
use Rattle.newt_engine.specs.Laws.{laws_of}
use Rattle.newt_engine.specs.declared.world.World.{World as Engine}
use Rattle.newt_engine.proofs.Groups.{of_stores, told_done, told_quiet}
use Rattle.newt_engine.proofs.Handed.{told_stands, unrefused_on}
use Rattle.newt_engine.proofs.Obeying.{handed_obeyed}
use Rattle.newt_engine.proofs.Serving.{served_fault}
use Rattle.newt_engine.proofs.Settled.{did_reaches, row, seen_stores, served_settled, told_busy}
use Rattle.newt_engine.proofs.Settling.{start-formed}
use Rattle.newt_engine.proofs.world.World.change_and_settle.Goals as goal

pub returns-in-Ok : goal.returns-in-Ok
returns-in-Ok g c =
    let laws = laws_of g.met.C.Card.formed g.met.C.Card.plain g.met.C.Card.durable g.met.C.Card.banks g.met.C.Card.kept in
    let told = g.H.Host.told in
    let reads = g.C.Card.reads in
    let a = c.args.self.now in
    let k = c.args.command in
    let x = c.in-Ok.effect in
    let call = c.in-Ok.ensures in
    let o = g.H.Host.outside c.args.host.now in
    let m = g.H.Host.outside c.obey.new.host in
    let w = world_of reads a.units o in
    let v = world_of reads c.obey.new.units m in
    let sees = seen reads w o.now k in
    let of = of_stores k c.requires.of_stores in
    let mid : Engine _ = record { units = c.obey.new.units; desk = a.desk } in
    let says = c.told.ensures ∙ c.words_of-words.ensures x in
    let obeyed : Obeyed reads g.C.Card.place g.C.Card.stands told k a mid o m (Ok c.told.result) =
    handed_obeyed {found = Ok x} (record { same = says }) refl of.0 of.1 of.2 (told_done k) (told_quiet k) call.obeyed refl in
    let passed : IsTrue told → first_of (checks sees k) ≡ None = λ t. unrefused_on sees v k (Ok x) (told_done k) (call.obeyed.answered t) in
    let same = seen_stores reads w o.now k c.requires.of_stores in
    let is : IsTrue told → seen_reach c.reach_of-reach.result ≡ reach sees k = λ t.
    c.reach_of-reach.ensures m (record { eight = g.met.H.Host.eight c.obey.new.host; none = g.met.H.Host.none c.obey.new.host }) (told_stands told c.obey.new.units m (call.obeyed.stands tt) t)
    ∙ did_reaches w v k x (start-formed laws told a.units a.desk o c.requires.stands t k) c.requires.of_stores (call.did t)
    (row laws told a mid o m c.requires.stands k c.requires.no_cursor c.told.result obeyed passed t ∙ ap (λ (y : World). with_cursors (replicate 32 None) (changed y k)) same)
    ∙ ap (λ (y : World). reach y k) (sym same) in
    served_settled laws told a mid o m c.requires.stands k c.requires.no_cursor c.told.result obeyed passed
    c.requires.within c.requires.form of.0 of.1 of.2 (ap (leaves_all k) says ∙ told_busy k x c.requires.of_stores) (seen_reach c.reach_of-reach.result) is
    (record { eight = g.met.H.Host.eight c.settled.new.host; none = g.met.H.Host.none c.settled.new.host }) c.settled.ensures

pub returns-in-Err : goal.returns-in-Err
returns-in-Err g c =
    let laws = laws_of g.met.C.Card.formed g.met.C.Card.plain g.met.C.Card.durable g.met.C.Card.banks g.met.C.Card.kept in
    let k = c.args.command in
    let of = of_stores k c.requires.of_stores in
    served_fault laws g.H.Host.told c.args.self.now _ (g.H.Host.outside c.args.host.now) (g.H.Host.outside c.obey.new.host) c.requires.stands
    (record { eight = g.met.H.Host.eight c.obey.new.host; none = g.met.H.Host.none c.obey.new.host }) k c.requires.no_cursor c.in-Err.fault
    (handed_obeyed (record { same = refl }) refl of.0 of.1 of.2 (told_done k) (told_quiet k) c.in-Err.ensures.obeyed refl)
