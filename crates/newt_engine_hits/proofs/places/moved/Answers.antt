-- A number that is not below zero is so many steps on.
use Rattle.std.proofs.Common.{◌≡◌, ◌∙◌}
use Rattle.std.proofs.lemmas.Result.{IfOk-weaker}
use Rattle.newt_cursor.specs.Seen.{query_of, place_of}
use Rattle.newt_cursor.specs.declared.place.Place.{Place}
use Rattle.newt_spec_query.specs.Cursor.{moved, repeated, next_place}
use Rattle.newt_spec_world.specs.World.{hits_of}
use Rattle.newt_engine_units.specs.Stands.{world_of}
use Rattle.newt_engine_hits.proofs.Walking.{moved-on}
use Rattle.newt_engine_hits.proofs.places.moved.Goals as goal

pub returns-else-by-lt0-clause-place : goal.returns-else-by-lt0-clause-place
returns-else-by-lt0-clause-place g c t apart =
    let w = world_of g.C.Card.reads c.args.units.now (g.H.Host.outside c.args.host.now) in
    let q = query_of c.args.query.now in
    IfOk-weaker c.steps-else-by-lt0.result
    (λ (next : Place). place_of next ≡ repeated c.unsigned_abs-else-by-lt0.result (next_place (hits_of w q) q.spec.index) (place_of c.args.from))
    (λ (next : Place). place_of next ≡ moved c.args.by (hits_of w q) q.spec.index (place_of c.args.from))
    (λ next e. e ∙ moved-on c.args.by c.unsigned_abs-else-by-lt0.result c.ranges.by c.if-by-lt0.false c.unsigned_abs-else-by-lt0.ensures.value (hits_of w q) q.spec.index (place_of c.args.from))
    (c.steps-else-by-lt0.ensures.place t apart)
