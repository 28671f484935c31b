-- The query is made, and its cursor opened.
use Rattle.std.proofs.Common.{arith, subst, true}
use Rattle.newt_cursor.specs.Seen.{query_of as seen}
use Rattle.newt_engine_units.specs.Stands.{Stands, Eight}
use Rattle.newt_engine_cursors.specs.World.{world_with}
use Rattle.newt_engine_cursors.proofs.Calls.{stays, walks-of}
use Rattle.newt_engine_cursors.proofs.Stepped.{still-settled}
use Rattle.newt_engine_units.proofs.Known.{Laws}
use Rattle.newt_spec_world.specs.declared.command.Command.TheVariants as command
use Rattle.newt_engine_cursors.proofs.Opened.{query-few, query-opens, query-refused, unread-asked}
use Rattle.newt_engine_cursors.proofs.opening.query.Goals as goal

pub returns-in-Ok : goal.returns-in-Ok
returns-in-Ok g c = walks-of c.open.ensures.turns (λ t apart settled d.
    let laws : Laws g.C.Card.reads g.C.Card.place g.C.Card.soups g.C.Card.stands = record { formed = g.met.C.Card.formed; plain = g.met.C.Card.plain; durable = g.met.C.Card.durable; banks = g.met.C.Card.banks; kept = g.met.C.Card.kept } in
    let o = g.H.Host.outside c.args.host.now in
    let eight : Eight (g.H.Host.outside c.args.host.now) = record { eight = g.met.H.Host.eight c.args.host.now; none = g.met.H.Host.none c.args.host.now } in
    let stand : Stands g.C.Card.place g.C.Card.stands true c.args.units.now o = subst (λ b. Stands g.C.Card.place g.C.Card.stands b c.args.units.now o) t c.requires.stands in
    let w = world_with g.C.Card.reads c.args.units.now c.args.desk.now o in
    query-opens w c.args.unit c.args.name.now c.args.graph.now
    (still-settled laws g.H.Host.told c.args.units.now c.args.desk.now o eight c.requires.stands (command.Query c.args.unit c.args.name.now c.args.graph.now) t apart settled (query-few w c.args.unit c.args.name.now c.args.graph.now)) (world_with g.C.Card.reads c.open.new.units c.open.new.desk (g.H.Host.outside c.open.new.host)) c.in-Ok.query (c.in-Ok.ensures.bound o eight stand)
    c.open.result d)
    (λ t apart settled un u.
    let o = g.H.Host.outside c.args.host.now in
    let eight : Eight (g.H.Host.outside c.args.host.now) = record { eight = g.met.H.Host.eight c.args.host.now; none = g.met.H.Host.none c.args.host.now } in
    let stand : Stands g.C.Card.place g.C.Card.stands true c.args.units.now o = subst (λ b. Stands g.C.Card.place g.C.Card.stands b c.args.units.now o) t c.requires.stands in
    let z = (c.open.ensures.unread (unread-asked (seen c.in-Ok.query) _ (c.in-Ok.ensures.bound o eight stand).1 un)) u in omega (arith, z))
    (λ un. absurd (cc))

pub returns-in-Err : goal.returns-in-Err
returns-in-Err g c = stays c.requires.stands c.requires.desk c.in-Err.ensures.cause (λ t apart.
    let o = g.H.Host.outside c.args.host.now in
    let eight : Eight (g.H.Host.outside c.args.host.now) = record { eight = g.met.H.Host.eight c.args.host.now; none = g.met.H.Host.none c.args.host.now } in
    let stand : Stands g.C.Card.place g.C.Card.stands true c.args.units.now o = subst (λ b. Stands g.C.Card.place g.C.Card.stands b c.args.units.now o) t c.requires.stands in
    let w = world_with g.C.Card.reads c.args.units.now c.args.desk.now o in
    query-refused w c.args.unit c.args.name.now c.args.graph.now c.in-Err.fault (c.in-Err.ensures.bound o eight stand))
