-- The first that is found, and on from there.
use Rattle.std.proofs.Common.{◌≡◌, ◌∙◌, ap, sym, subst, option_map, true}
use Rattle.std.proofs.lemmas.Result.{IfOk-weaker}
use Rattle.newt_cursor.specs.Seen.{query_of, place_of}
use Rattle.newt_cursor.specs.declared.place.Place.{Place}
use Rattle.newt_spec_query.specs.Cursor.{place_at_key}
use Rattle.newt_spec_world.specs.World.{hits_of, mounted_stores}
use Rattle.newt_laws_hits.specs.Taking.{members_of}
use Rattle.newt_engine_units.specs.Stands.{Stands, Eight, world_of}
use Rattle.newt_engine_units.proofs.Known.{Laws}
use Rattle.newt_index.specs.Spots.{spot_hit}
use Rattle.newt_engine_hits.specs.declared.ways.Way.TheVariants.{On}
use Rattle.newt_engine_hits.proofs.Searching.{at-indexed}
use Rattle.newt_engine_hits.proofs.Stores.{stores-formed}
use Rattle.newt_engine_hits.proofs.Walking.{comes_to, key-goal}
use Rattle.newt_engine_hits.proofs.places.at_key.Goals as goal

pub returns-clause-place : goal.returns-clause-place
returns-clause-place g c t apart =
    let laws : Laws g.C.Card.reads g.C.Card.place g.C.Card.soups g.C.Card.stands = record { formed = g.met.C.Card.formed; plain = g.met.C.Card.plain; durable = g.met.C.Card.durable; banks = g.met.C.Card.banks; kept = g.met.C.Card.kept } in
    let o = g.H.Host.outside c.args.host.now in
    let eight : Eight (g.H.Host.outside c.args.host.now) = record { eight = g.met.H.Host.eight c.args.host.now; none = g.met.H.Host.none c.args.host.now } in
    let stand : Stands g.C.Card.place g.C.Card.stands true c.args.units.now o = subst (λ b. Stands g.C.Card.place g.C.Card.stands b c.args.units.now o) t c.requires.stands in
    let w = world_of g.C.Card.reads c.args.units.now o in
    let q = query_of c.args.query.now in
    IfOk-weaker c.walk.result (λ (place : Place). place_of place ≡ comes_to w q On (option_map spot_hit c.in_ok-found.found)) (λ (place : Place). place_of place ≡ place_at_key (hits_of w q) q.spec.index c.args.key.now)
    (λ place e. e ∙ ap (comes_to w q On) (c.in_ok-found.ensures.found o eight stand) ∙ sym (key-goal w q apart (stores-formed laws c.args.units.now o eight stand) c.args.key.now))
    (c.walk.ensures.walked t apart (at-indexed q.spec.index (members_of (mounted_stores w) q) c.in_ok-found.found c.args.key.now (c.in_ok-found.ensures.found o eight stand)))
