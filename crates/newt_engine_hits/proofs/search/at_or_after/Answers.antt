-- The members are searched.
use Rattle.std.proofs.Common.{◌≡◌, ◌∙◌, ap, List, Option, option_map}
use Rattle.std.specs.Prelude.{IfSome}
use Rattle.std.proofs.lemmas.Result.{IfOk-weaker}
use Rattle.newt_cursor.specs.Seen.{query_of}
use Rattle.newt_index.specs.declared.identity.Spot.{Spot}
use Rattle.newt_keys.specs.KeyForm.{IsKeyOf}
use Rattle.newt_spec_world.specs.World.{mounted_stores}
use Rattle.newt_union.specs.Merged.{Member, at_or_after}
use Rattle.newt_union.specs.Seen.{shown}
use Rattle.newt_laws_hits.specs.Taking.{members_of}
use Rattle.newt_engine_units.specs.Stands.{world_of}
use Rattle.newt_index.specs.Spots.{spot_hit}
use Rattle.newt_engine_hits.proofs.Searching.{at-key, members-probe-in}
use Rattle.newt_engine_hits.proofs.search.at_or_after.Goals as goal

pub returns-clause-key : goal.returns-clause-key
returns-clause-key g c =
    let index = c.args.query.now.spec.index in
    let are = c.members-members.ensures.are in
    IfOk-weaker c.owned.result (λ (found : Option Spot). option_map spot_hit found ≡ option_map shown c.at_or_after.result)
    (λ (found : Option Spot). IfSome found (λ spot. IsKeyOf index spot.key))
    (λ found e. at-key index c.members-members.result are found c.args.key.now
    (e ∙ c.at_or_after.ensures.found index c.args.key.now are.agree (members-probe-in index c.args.key.now c.in_ok-probe.probe c.members-members.result are c.in_ok-probe.ensures))) c.owned.ensures

pub returns-clause-found : goal.returns-clause-found
returns-clause-found g c outside eight stands =
    let index = c.args.query.now.spec.index in
    let are = c.members-members.ensures.are in
    let q = query_of c.args.query.now in
    let all = members_of (mounted_stores (world_of g.C.Card.reads c.args.units.now outside)) q in
    IfOk-weaker c.owned.result (λ (found : Option Spot). option_map spot_hit found ≡ option_map shown c.at_or_after.result)
    (λ (found : Option Spot). option_map spot_hit found ≡ at_or_after q.spec.index all c.args.key.now)
    (λ found e. e ∙ c.at_or_after.ensures.found index c.args.key.now are.agree (members-probe-in index c.args.key.now c.in_ok-probe.probe c.members-members.result are c.in_ok-probe.ensures)
    ∙ ap (λ (ms : List Member). at_or_after index ms c.args.key.now) (c.members-members.ensures.all outside eight stands)) c.owned.ensures
