-- On from the hit, from where the way begins, or not at all.
use Rattle.std.proofs.Common.{◌≡◌, ◌∙◌, ap, sym, subst, option_map, true}
use Rattle.std.proofs.lemmas.Result.{IfOk-weaker}
use Rattle.newt_cursor.specs.Seen.{query_of, place_of}
use Rattle.newt_cursor.specs.declared.place.Place.{Place}
use Rattle.newt_spec_world.specs.World.{hits_of, mounted_stores}
use Rattle.newt_laws_hits.specs.Taking.{members_of}
use Rattle.newt_engine_units.specs.Stands.{Stands, Eight, world_of}
use Rattle.newt_engine_units.proofs.Known.{Laws}
use Rattle.newt_index.specs.Spots.{spot_hit}
use Rattle.newt_engine_hits.specs.Ways.{outermost, outset, stepping}
use Rattle.newt_engine_hits.specs.declared.ways.Way.TheVariants.{On, Back}
use Rattle.newt_engine_hits.proofs.Searching.{beyond-indexed}
use Rattle.newt_engine_hits.proofs.Stores.{stores-formed}
use Rattle.newt_engine_hits.proofs.Walking.{comes_to, step-goal, step-outset, step-edge}
use Rattle.newt_engine_hits.proofs.places.step.Goals as goal

pub returns-in_ok-found-in-On-clause-place : goal.returns-in_ok-found-in-On-clause-place
returns-in_ok-found-in-On-clause-place g c t apart =
    let laws : Laws g.C.Card.reads g.C.Card.place g.C.Card.soups g.C.Card.stands = record { formed = g.met.C.Card.formed; plain = g.met.C.Card.plain; durable = g.met.C.Card.durable; banks = g.met.C.Card.banks; kept = g.met.C.Card.kept } in
    let o = g.H.Host.outside c.args.host.now in
    let eight : Eight (g.H.Host.outside c.args.host.now) = record { eight = g.met.H.Host.eight c.args.host.now; none = g.met.H.Host.none c.args.host.now } in
    let stand : Stands g.C.Card.place g.C.Card.stands true c.args.units.now o = subst (λ b. Stands g.C.Card.place g.C.Card.stands b c.args.units.now o) t c.requires.stands in
    let w = world_of g.C.Card.reads c.args.units.now (g.H.Host.outside c.args.host.now) in
    let q = query_of c.args.query.now in
    IfOk-weaker c.walk.result (λ (place : Place). place_of place ≡ comes_to w q c.args.way (option_map spot_hit c.in_ok-found-in-On.found))
    (λ (next : Place). place_of next ≡ stepping c.args.way (hits_of w q) q.spec.index (place_of c.args.place.now))
    (λ place e. e ∙ ap (comes_to w q c.args.way) (c.in_ok-found-in-On.ensures.found o eight stand)
    ∙ sym (step-goal w q apart (stores-formed laws c.args.units.now o eight stand) c.args.way (spot_hit c.in-On.spot))
    ∙ (λ i. stepping c.args.way (hits_of w q) q.spec.index (place_of ((sym c.in-On.is) i))))
    (c.walk.ensures.walked t apart
    (beyond-indexed q.spec.index (members_of (mounted_stores w) q) c.in_ok-found-in-On.found c.args.way (spot_hit c.in-On.spot) (c.in_ok-found-in-On.ensures.found o eight stand)))

pub returns-in-On-way-clause-place : goal.returns-in-On-way-clause-place
returns-in-On-way-clause-place g c t apart =
    let w = world_of g.C.Card.reads c.args.units.now (g.H.Host.outside c.args.host.now) in
    let q = query_of c.args.query.now in
    IfOk-weaker c.outermost.result (λ (place : Place). place_of place ≡ outermost c.args.way (hits_of w q))
    (λ (next : Place). place_of next ≡ stepping c.args.way (hits_of w q) q.spec.index (place_of c.args.place.now))
    (λ place e. e ∙ sym (step-outset c.args.way (hits_of w q) q.spec.index) ∙ (λ i. stepping c.args.way (hits_of w q) q.spec.index ((ap outset c.in-On-way.is ∙ ap place_of (sym c.in-Start.is)) i))) (c.outermost.ensures.place t apart)

pub returns-in-Back-clause-place : goal.returns-in-Back-clause-place
returns-in-Back-clause-place g c t apart =
    let w = world_of g.C.Card.reads c.args.units.now (g.H.Host.outside c.args.host.now) in
    let q = query_of c.args.query.now in
    sym (step-edge Back (hits_of w q) q.spec.index) ∙ (λ i. stepping ((sym c.in-Back.is) i) (hits_of w q) q.spec.index (place_of ((sym c.in-Start.is) i)))

pub returns-in-On-way-2-clause-place : goal.returns-in-On-way-2-clause-place
returns-in-On-way-2-clause-place g c t apart =
    let w = world_of g.C.Card.reads c.args.units.now (g.H.Host.outside c.args.host.now) in
    let q = query_of c.args.query.now in
    sym (step-edge On (hits_of w q) q.spec.index) ∙ (λ i. stepping ((sym c.in-On-way-2.is) i) (hits_of w q) q.spec.index (place_of ((sym c.in-Finish.is) i)))

pub returns-in-Back-way-clause-place : goal.returns-in-Back-way-clause-place
returns-in-Back-way-clause-place g c t apart =
    let w = world_of g.C.Card.reads c.args.units.now (g.H.Host.outside c.args.host.now) in
    let q = query_of c.args.query.now in
    IfOk-weaker c.outermost-in-Back-way.result (λ (place : Place). place_of place ≡ outermost c.args.way (hits_of w q))
    (λ (next : Place). place_of next ≡ stepping c.args.way (hits_of w q) q.spec.index (place_of c.args.place.now))
    (λ place e. e ∙ sym (step-outset c.args.way (hits_of w q) q.spec.index) ∙ (λ i. stepping c.args.way (hits_of w q) q.spec.index ((ap outset c.in-Back-way.is ∙ ap place_of (sym c.in-Finish.is)) i))) (c.outermost-in-Back-way.ensures.place t apart)
