-- The command steps so.
use Rattle.newt_engine_units.specs.Stands.{Eight}
use Rattle.newt_engine_units.proofs.Known.{Laws}
use Rattle.newt_engine_cursors.proofs.Answering.{next-steps}
use Rattle.newt_engine_cursors.proofs.Stepped.{walks-stepped}
use Rattle.newt_engine_cursors.proofs.stepping.next.Goals as goal

pub returns : goal.returns
returns g c =
    let laws : Laws g.C.Card.reads g.C.Card.place g.C.Card.soups g.C.Card.stands = record { formed = g.met.C.Card.formed; plain = g.met.C.Card.plain; durable = g.met.C.Card.durable; banks = g.met.C.Card.banks; kept = g.met.C.Card.kept } in
    let o = g.H.Host.outside c.args.host.now in
    let eight : Eight (g.H.Host.outside c.args.host.now) = record { eight = g.met.H.Host.eight c.args.host.now; none = g.met.H.Host.none c.args.host.now } in
    walks-stepped laws g.H.Host.told c.args.units.now c.args.desk.now o eight c.requires.stands (next-steps c.args.cursor) c.steer.ensures.turns c.steer.ensures.fetches c.steer.ensures.pages
