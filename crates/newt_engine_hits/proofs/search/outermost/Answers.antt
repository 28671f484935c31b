-- The members are searched.
use Rattle.std.proofs.Common.{◌≡◌, ◌∙◌, ap, sym, List, Option, option_map}
use Rattle.std.specs.Prelude.{IfSome}
use Rattle.std.proofs.lemmas.Result.{IfOk-weaker}
use Rattle.newt_cursor.specs.Seen.{query_of}
use Rattle.newt_index.specs.declared.identity.Spot.{Spot}
use Rattle.newt_index.specs.Pairs.{first, last}
use Rattle.newt_keys.specs.KeyForm.{IsKeyOf}
use Rattle.newt_spec_world.specs.World.{mounted_stores}
use Rattle.newt_union.specs.Merged.{Member, merged}
use Rattle.newt_union.specs.Seen.{shown}
use Rattle.newt_laws_hits.specs.Taking.{members_of}
use Rattle.newt_engine_units.specs.Stands.{world_of}
use Rattle.newt_index.specs.Spots.{spot_hit}
use Rattle.newt_engine_hits.specs.Ways.{met}
use Rattle.newt_engine_hits.specs.declared.ways.Way.{Way}
use Rattle.newt_engine_hits.specs.declared.ways.Way.TheVariants.{On, Back}
use Rattle.newt_engine_hits.proofs.Searching.{met-key}
use Rattle.newt_engine_hits.proofs.search.outermost.Goals as goal

pub returns-in-On-clause-key : goal.returns-in-On-clause-key
returns-in-On-clause-key g c =
    let are = c.members-members.ensures.are in
    IfOk-weaker c.owned.result (λ (found : Option Spot). option_map spot_hit found ≡ option_map shown c.first.result)
    (λ (found : Option Spot). IfSome found (λ spot. IsKeyOf c.args.query.now.spec.index spot.key))
    (λ found e. met-key c.args.query.now.spec.index c.members-members.result are found On (e ∙ c.first.ensures c.args.query.now.spec.index are.agree)) c.owned.ensures

pub returns-in-On-clause-found : goal.returns-in-On-clause-found
returns-in-On-clause-found g c outside eight stands =
    let are = c.members-members.ensures.are in
    let q = query_of c.args.query.now in
    let all = members_of (mounted_stores (world_of g.C.Card.reads c.args.units.now outside)) q in
    IfOk-weaker c.owned.result (λ (found : Option Spot). option_map spot_hit found ≡ option_map shown c.first.result)
    (λ (found : Option Spot). option_map spot_hit found ≡ met c.args.way (merged q.spec.index all))
    (λ found e. e ∙ c.first.ensures c.args.query.now.spec.index are.agree ∙ ap (λ (ms : List Member). first (merged q.spec.index ms)) (c.members-members.ensures.all outside eight stands)
    ∙ ap (λ (way : Way). met way (merged q.spec.index all)) (sym c.in-On.is)) c.owned.ensures

pub returns-in-Back-clause-key : goal.returns-in-Back-clause-key
returns-in-Back-clause-key g c =
    let are = c.members-members.ensures.are in
    IfOk-weaker c.owned-in-Back.result (λ (found : Option Spot). option_map spot_hit found ≡ option_map shown c.last.result)
    (λ (found : Option Spot). IfSome found (λ spot. IsKeyOf c.args.query.now.spec.index spot.key))
    (λ found e. met-key c.args.query.now.spec.index c.members-members.result are found Back (e ∙ c.last.ensures c.args.query.now.spec.index are.agree)) c.owned-in-Back.ensures

pub returns-in-Back-clause-found : goal.returns-in-Back-clause-found
returns-in-Back-clause-found g c outside eight stands =
    let are = c.members-members.ensures.are in
    let q = query_of c.args.query.now in
    let all = members_of (mounted_stores (world_of g.C.Card.reads c.args.units.now outside)) q in
    IfOk-weaker c.owned-in-Back.result (λ (found : Option Spot). option_map spot_hit found ≡ option_map shown c.last.result)
    (λ (found : Option Spot). option_map spot_hit found ≡ met c.args.way (merged q.spec.index all))
    (λ found e. e ∙ c.last.ensures c.args.query.now.spec.index are.agree ∙ ap (λ (ms : List Member). last (merged q.spec.index ms)) (c.members-members.ensures.all outside eight stands)
    ∙ ap (λ (way : Way). met way (merged q.spec.index all)) (sym c.in-Back.is)) c.owned-in-Back.ensures
