-- Devices are read alone.
use Rattle.std.proofs.Common.{ap, subst, sym, inl, IsTrue, ◌∙◌}
use Rattle.newt_reply.specs.Said.{said}
use Rattle.newt_spec_graph.proofs.Lists.{both-ways}
use Rattle.newt_spec_world.specs.World.{World}
use Rattle.newt_engine_units.specs.Answers.{Answers}
use Rattle.newt_engine_units.proofs.Keeping.{read-keeps}
use Rattle.newt_engine_cursors.specs.World.{world_with}
use Rattle.newt_engine.specs.Laws.{laws_of}
use Rattle.newt_engine.proofs.Costing.{means_no_cursor, still_costs}
use Rattle.newt_engine.proofs.Forming.{cursor-unformed}
use Rattle.newt_engine.proofs.Serving.{err-device-both, fails_reading}
use Rattle.newt_engine.proofs.Settling.{quiet_with, seen_cursors, stands_after}
use Rattle.newt_engine.proofs.world.World.obey_on_cursor.Goals as goal

pub returns : goal.returns
returns g c =
    let o = g.H.Host.outside in
    let a = c.args.self.now in
    let e = c.walk.ensures in
    let w = world_with g.C.Card.reads a.units a.desk (o c.args.host.now) in
    let same = seen_cursors g.C.Card.reads w (o c.args.host.now).now c.args.command.now c.requires.on_cursor in
    let answers : IsTrue g.H.Host.told → Answers w (world_with g.C.Card.reads c.walk.new.self.units c.walk.new.self.desk (o c.walk.new.host)) c.args.command.now said c.walk.result = λ t.
    e.answered t (c.requires.stands.apart t) (c.requires.stands.settled t) in
    record {
      stands = stands_after g.H.Host.told c.walk.new.self.units c.walk.new.self.desk (o c.walk.new.host) e.read.stand
          (record { eight = g.met.H.Host.eight c.walk.new.host; none = g.met.H.Host.none c.walk.new.host }) e.desk w c.args.command.now said _ (λ t. (c.requires.stands.apart t, c.requires.stands.settled t)) answers;
      answered = λ t. subst (λ (x : World). Answers x (world_with g.C.Card.reads c.walk.new.self.units c.walk.new.self.desk (o c.walk.new.host)) c.args.command.now said c.walk.result) (sym same) (answers t);
      moments = λ t. quiet_with (laws_of g.met.C.Card.formed g.met.C.Card.plain g.met.C.Card.durable g.met.C.Card.banks g.met.C.Card.kept) g.H.Host.told a.units a.desk (o c.args.host.now) (o c.walk.new.host)
          c.requires.stands t e.read.moment _ _;
      costs = λ t. still_costs e.read.untouched (λ means. absurd (means_no_cursor c.args.command.now c.requires.on_cursor means));
      step = λ t. e.fetches t (c.requires.stands.apart t) (c.requires.stands.settled t);
      shown = e.shown;
      fresh = λ t u is. absurd (both-ways (sym (cursor-unformed c.args.command.now u c.requires.on_cursor) ∙ is));
      alone = e.read.alone;
      broke = err-device-both _ _ _ c.walk.result (λ u failed kept. inl (fails_reading c.args.command.now e.read kept failed)) e.failed e.kept;
      kept = λ idle. record { units = read-keeps e.read; desk = λ within. e.refused idle };
      ends = e.ends;
    }
