-- The store that was mounted is reached.
use Rattle.std.proofs.Common.{◌≡◌, refl, IsTrue, None}
use Rattle.newt_base.specs.Refusals.{first_of}
use Rattle.newt_spec_world.specs.Refused.{checks}
use Rattle.newt_spec_world.specs.declared.command.Command.TheVariants as command
use Rattle.newt_laws_steps.specs.StandsFor.{seen}
use Rattle.newt_engine_units.specs.Stands.{world_of}
use Rattle.newt_engine_cursors.proofs.Done.{mount-reaches}
use Rattle.newt_engine.specs.Laws.{laws_of}
use Rattle.newt_engine.proofs.Obeying.{handed_obeyed}
use Rattle.newt_engine.proofs.Serving.{served_fault}
use Rattle.newt_engine.proofs.Settled.{mount_form, mount_never, mount_no_cursor, mount_passed, served_settled}
use Rattle.newt_engine.proofs.world.World.mount_and_settle.Goals as goal

pub returns-in-Ok : goal.returns-in-Ok
returns-in-Ok g c =
    let laws = laws_of g.met.C.Card.formed g.met.C.Card.plain g.met.C.Card.durable g.met.C.Card.banks g.met.C.Card.kept in
    let a = c.args.self.now in
    let k = command.Mount c.args.unit in
    let o = g.H.Host.outside c.args.host.now in
    let m = g.H.Host.outside c.mount.new.host in
    let w = world_of g.C.Card.reads a.units o in
    let passed : IsTrue g.H.Host.told → first_of (checks (seen g.C.Card.reads w o.now k) k) ≡ None = λ t. mount_passed _ _ c.args.unit _ _ (c.in-Ok.ensures.answered t) in
    served_settled laws g.H.Host.told a _ o m c.requires.stands k (mount_no_cursor c.args.unit) _ (handed_obeyed (record { same = refl }) refl refl refl refl mount_never (λ x u. refl) c.in-Ok.ensures refl) passed
    refl (mount_form c.args.unit) refl refl refl refl _ (λ t. mount-reaches _ _ c.args.unit _ _ (passed t) (c.in-Ok.ensures.answered t))
    (record { eight = g.met.H.Host.eight c.settled.new.host; none = g.met.H.Host.none c.settled.new.host }) c.settled.ensures

pub returns-in-Err : goal.returns-in-Err
returns-in-Err g c =
    let laws = laws_of g.met.C.Card.formed g.met.C.Card.plain g.met.C.Card.durable g.met.C.Card.banks g.met.C.Card.kept in
    served_fault laws g.H.Host.told c.args.self.now _ (g.H.Host.outside c.args.host.now) (g.H.Host.outside c.mount.new.host) c.requires.stands
    (record { eight = g.met.H.Host.eight c.mount.new.host; none = g.met.H.Host.none c.mount.new.host }) (command.Mount c.args.unit) (mount_no_cursor c.args.unit) c.in-Err.fault
    (handed_obeyed (record { same = refl }) refl refl refl refl mount_never (λ x u. refl) c.in-Err.ensures refl)
