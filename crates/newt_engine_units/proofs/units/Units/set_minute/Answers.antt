-- Nothing but the minute is other.
use Rattle.std.proofs.Common.{refl}
use Rattle.newt_laws_answers.proofs.Stores.{time-done}
use Rattle.newt_engine_units.specs.Stands.{world_of}
use Rattle.newt_engine_units.proofs.units.Units.set_minute.Goals as goal

pub returns-clause-stands : goal.returns-clause-stands
returns-clause-stands g c told outside s = record { eight = s.eight; few = s.few; attached = s.attached; cards = s.cards; default = s.default; none = s.none; sure = s.sure; durable = s.durable }

pub returns-clause-answered : goal.returns-clause-answered
returns-clause-answered g c outside = time-done (world_of g.C.Card.reads c.args.self.now outside) refl c.args.minute
