-- Nothing is mounted yet, and no cursor is open.
use Rattle.std.proofs.Common.{Bool, Global, map, string_bytes, sym, subst, ◌∙◌}
use Rattle.newt_host_attach.specs.Named.{AreAttached}
use Rattle.newt_laws_world.specs.Settled.{IsSettled, MountedApart}
use Rattle.newt_engine_cursors.specs.Fits.{DeskFits}
use Rattle.newt_laws_steps.specs.StandsFor.{StandsFor}
use Rattle.newt_laws_steps.proofs.Beginning.{attached-at-rest, attached-world}
use Rattle.newt_laws_steps.proofs.StoodFor.{known-stands}
use Rattle.newt_engine.specs.Laws.{known_attached, laws_of, units_kept}
use Rattle.newt_engine.specs.Standing.{marks_with}
use Rattle.newt_engine.proofs.Applying.{standing-told}
use Rattle.newt_engine.proofs.Starting.{all_free, first_world_is, none_mounted, none_open}
use Rattle.newt_engine.proofs.world.World.new.Goals as goal

pub returns-clause-stands : goal.returns-clause-stands
returns-clause-stands g c =
    let o = g.H.Host.outside c.attach_names-attached.new.host in
    let a = c.attach_names-attached.ensures in
    let world = first_world_is g.C.Card.reads c.in_ok-of.field-0 c.in_ok-new.field-0 o (c.in_ok-of.ensures.world o) c.in_ok-new.ensures in record {
      stand = c.in_ok-of.ensures.stands g.H.Host.told o (known_attached c.attach_names-attached.result o.card a.flags) (attached-at-rest g.H.Host.told _ _ _ a.attached);
      eight = record { eight = g.met.H.Host.eight c.attach_names-attached.new.host; none = g.met.H.Host.none c.attach_names-attached.new.host };
      desk = subst DeskFits (sym c.in_ok-new.ensures) all_free;
      apart = λ t. subst MountedApart (sym world) (none_mounted g.C.Card.reads o);
      settled = λ t. subst IsSettled (sym world) (none_open g.C.Card.reads o);
    }

pub returns-clause-world : goal.returns-clause-world
returns-clause-world g c t =
    let names = map (string_bytes {Z = Global}) c.args.names.now in
    let old = g.H.Host.outside c.args.host.now in
    let o = g.H.Host.outside c.attach_names-attached.new.host in
    let units = c.in_ok-of.field-0 in
    let cursors = c.in_ok-new.field-0 in
    let a = subst (λ (t : Bool). AreAttached t names old o) t c.attach_names-attached.ensures.attached in
    let laws = laws_of g.met.C.Card.formed g.met.C.Card.plain g.met.C.Card.durable g.met.C.Card.banks g.met.C.Card.kept in
    subst (StandsFor g.C.Card.reads (marks_with units cursors) o)
    (first_world_is g.C.Card.reads units cursors o (c.in_ok-of.ensures.world o) c.in_ok-new.ensures
    ∙ attached-world g.C.Card.reads names old o a (λ unit. g.met.H.Host.sized c.attach_names-attached.new.host unit t))
    (known-stands g.C.Card.reads (marks_with units cursors) o (units_kept laws units cursors o (standing-told (returns-clause-stands g c) t)))
