-- The cursors are settled where a store is changed.
use Rattle.std.proofs.Common.{sym}
use Rattle.newt_engine.specs.Laws.{laws_of}
use Rattle.newt_engine.proofs.Settled.{served_still, still_moves}
use Rattle.newt_engine.proofs.world.World.obey_and_settle.Goals as goal

pub returns-else-changes_stores : goal.returns-else-changes_stores
returns-else-changes_stores g c =
    let laws = laws_of g.met.C.Card.formed g.met.C.Card.plain g.met.C.Card.durable g.met.C.Card.banks g.met.C.Card.kept in
    served_still laws g.H.Host.told c.args.self.now c.obey.new.self (g.H.Host.outside c.args.host.now) (g.H.Host.outside c.obey.new.host) c.requires.stands
    (record { eight = g.met.H.Host.eight c.obey.new.host; none = g.met.H.Host.none c.obey.new.host }) c.args.command c.requires.no_cursor
    (still_moves c.args.command (sym c.if-changes_stores.ensures) c.requires.no_mount) c.obey.result c.obey.ensures
