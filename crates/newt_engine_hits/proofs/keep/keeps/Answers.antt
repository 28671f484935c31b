-- The store of the signature decides.
use Rattle.std.proofs.Common.{◌≡◌, ◌∙◌, ap, sym, subst, Bool, true}
use Rattle.std.specs.Prelude.{is_some}
use Rattle.std.proofs.lemmas.Result.{IfOk-weaker}
use Rattle.newt_cursor.specs.Seen.{query_of}
use Rattle.newt_spec_world.specs.World.{mounted_stores}
use Rattle.newt_laws_hits.specs.Stripped.{passing}
use Rattle.newt_engine_units.specs.Stands.{Stands, Eight, world_of}
use Rattle.newt_engine_units.proofs.Known.{Laws}
use Rattle.newt_engine_units.proofs.Resolving.{showing-card}
use Rattle.newt_index.specs.Spots.{spot_hit}
use Rattle.newt_engine_hits.specs.Searched.{keeps_in}
use Rattle.newt_engine_hits.proofs.Indexed.{indexed-there}
use Rattle.newt_engine_hits.proofs.Keeping.{no-store-passes, store-passes}
use Rattle.newt_engine_hits.proofs.Reading.{asked-reading}
use Rattle.newt_engine_hits.proofs.Stores.{shows-some, shows-none, stores-formed}
use Rattle.newt_engine_hits.proofs.keep.keeps.Goals as goal

pub returns-in_default-clause-kept : goal.returns-in_default-clause-kept
returns-in_default-clause-kept g c t apart m =
    let laws : Laws g.C.Card.reads g.C.Card.place g.C.Card.soups g.C.Card.stands = record { formed = g.met.C.Card.formed; plain = g.met.C.Card.plain; durable = g.met.C.Card.durable; banks = g.met.C.Card.banks; kept = g.met.C.Card.kept } in
    let o = g.H.Host.outside c.args.host.now in
    let eight : Eight (g.H.Host.outside c.args.host.now) = record { eight = g.met.H.Host.eight c.args.host.now; none = g.met.H.Host.none c.args.host.now } in
    let stand : Stands g.C.Card.place g.C.Card.stands true c.args.units.now o = subst (λ b. Stands g.C.Card.place g.C.Card.stands b c.args.units.now o) t c.requires in
    let w = world_of g.C.Card.reads c.args.units.now o in
    no-store-passes (mounted_stores w) (query_of c.args.query.now) (spot_hit c.args.spot.now) (shows-none laws c.args.units.now o eight stand c.args.spot.now.store (sym c.in_default.ensures)).0

pub keeps_read-requires-clause-mounted : goal.keeps_read-requires-clause-mounted
keeps_read-requires-clause-mounted g c = ap is_some (showing-card g.C.Card.soups c.args.units.now.slots.items c.args.spot.now.store c.in-Some.unit (sym c.in-Some.ensures)).1

pub returns-then-needs_graph-clause-reading : goal.returns-then-needs_graph-clause-reading
returns-then-needs_graph-clause-reading g c = asked-reading (sym c.if-needs_graph.ensures) c.keeps_read.ensures.reading

pub returns-then-needs_graph-clause-kept : goal.returns-then-needs_graph-clause-kept
returns-then-needs_graph-clause-kept g c t apart m =
    let laws : Laws g.C.Card.reads g.C.Card.place g.C.Card.soups g.C.Card.stands = record { formed = g.met.C.Card.formed; plain = g.met.C.Card.plain; durable = g.met.C.Card.durable; banks = g.met.C.Card.banks; kept = g.met.C.Card.kept } in
    let o = g.H.Host.outside c.args.host.now in
    let eight : Eight (g.H.Host.outside c.args.host.now) = record { eight = g.met.H.Host.eight c.args.host.now; none = g.met.H.Host.none c.args.host.now } in
    let stand : Stands g.C.Card.place g.C.Card.stands true c.args.units.now o = subst (λ b. Stands g.C.Card.place g.C.Card.stands b c.args.units.now o) t c.requires in
    let w = world_of g.C.Card.reads c.args.units.now o in
    let k = shows-some laws c.args.units.now o eight stand c.args.spot.now.store c.in-Some.unit (sym c.in-Some.ensures) in
    IfOk-weaker c.keeps_read.result (λ (b : Bool). b ≡ keeps_in (query_of c.args.query.now) k.store (spot_hit c.args.spot.now))
    (λ (b : Bool). b ≡ passing (mounted_stores w) (query_of c.args.query.now) (spot_hit c.args.spot.now))
    (λ b e. e ∙ store-passes (mounted_stores w) (query_of c.args.query.now) (spot_hit c.args.spot.now) k.store k.found) (c.keeps_read.ensures.kept t k.blocks k.store k.on)

pub returns-else-needs_graph-clause-kept : goal.returns-else-needs_graph-clause-kept
returns-else-needs_graph-clause-kept g c t apart m =
    let laws : Laws g.C.Card.reads g.C.Card.place g.C.Card.soups g.C.Card.stands = record { formed = g.met.C.Card.formed; plain = g.met.C.Card.plain; durable = g.met.C.Card.durable; banks = g.met.C.Card.banks; kept = g.met.C.Card.kept } in
    let o = g.H.Host.outside c.args.host.now in
    let eight : Eight (g.H.Host.outside c.args.host.now) = record { eight = g.met.H.Host.eight c.args.host.now; none = g.met.H.Host.none c.args.host.now } in
    let stand : Stands g.C.Card.place g.C.Card.stands true c.args.units.now o = subst (λ b. Stands g.C.Card.place g.C.Card.stands b c.args.units.now o) t c.requires in
    let w = world_of g.C.Card.reads c.args.units.now o in
    let k = shows-some laws c.args.units.now o eight stand c.args.spot.now.store c.in-Some.unit (sym c.in-Some.ensures) in
    c.keeps_unread.ensures o eight stand k.blocks k.store k.on
    (indexed-there w (query_of c.args.query.now) apart (stores-formed laws c.args.units.now o eight stand) (spot_hit c.args.spot.now) m k.store k.found)
    ∙ store-passes (mounted_stores w) (query_of c.args.query.now) (spot_hit c.args.spot.now) k.store k.found
