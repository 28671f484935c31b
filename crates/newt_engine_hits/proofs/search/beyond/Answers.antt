-- The members are searched.
use Rattle.std.proofs.Common.{◌≡◌, ◌∙◌, Option, option_map}
use Rattle.std.specs.Prelude.{IfSome}
use Rattle.std.proofs.lemmas.Result.{IfOk-weaker}
use Rattle.newt_index.specs.declared.identity.Spot.{Spot}
use Rattle.newt_keys.specs.KeyForm.{IsKeyOf}
use Rattle.newt_union.specs.Seen.{shown}
use Rattle.newt_index.specs.Spots.{spot_hit}
use Rattle.newt_engine_hits.specs.declared.ways.Way.TheVariants.{On, Back}
use Rattle.newt_engine_hits.proofs.Searching.{beyond-key, members-probe-in}
use Rattle.newt_engine_hits.proofs.search.beyond.Goals as goal

pub after-requires : goal.after-requires
after-requires g c = members-probe-in c.args.query.now.spec.index c.args.spot.now.key c.in_ok-probe.probe c.members-members.result c.members-members.ensures.are c.in_ok-probe.ensures

pub returns-in-On-clause-key : goal.returns-in-On-clause-key
returns-in-On-clause-key g c =
    let are = c.members-members.ensures.are in
    IfOk-weaker c.owned.result (λ (found : Option Spot). option_map spot_hit found ≡ option_map shown c.after.result)
    (λ (found : Option Spot). IfSome found (λ spot. IsKeyOf c.args.query.now.spec.index spot.key))
    (λ found e. beyond-key c.args.query.now.spec.index c.members-members.result are found On (spot_hit c.args.spot.now) (e ∙ c.after.ensures.found c.args.query.now.spec.index are.agree)) c.owned.ensures

pub before-requires : goal.before-requires
before-requires g c = members-probe-in c.args.query.now.spec.index c.args.spot.now.key c.in_ok-probe.probe c.members-members.result c.members-members.ensures.are c.in_ok-probe.ensures

pub returns-clause-key : goal.returns-clause-key
returns-clause-key g c =
    let are = c.members-members.ensures.are in
    IfOk-weaker c.owned-in-Back.result (λ (found : Option Spot). option_map spot_hit found ≡ option_map shown c.before-in-Back.result)
    (λ (found : Option Spot). IfSome found (λ spot. IsKeyOf c.args.query.now.spec.index spot.key))
    (λ found e. beyond-key c.args.query.now.spec.index c.members-members.result are found Back (spot_hit c.args.spot.now) (e ∙ c.before-in-Back.ensures.found c.args.query.now.spec.index are.agree)) c.owned-in-Back.ensures
