use Rattle.std.specs.Prelude.{option_map}
use Rattle.newt_index.specs.Spots.{spot_hit}
use Rattle.newt_union.specs.Seen.{shown}
use Rattle.newt_union.proofs.View.{have_probe, before_seen}
use Rattle.newt_union.proofs.members.Members.before.Goals as goal

pub before_of-requires : goal.before_of-requires
before_of-requires c = have_probe c.args.spot.now.key c.args.probe.now c.args.self.now c.self.inside.list.items c.as_slice.result.now c.self.view_is c.as_slice.ensures.value c.requires

pub returns-clause-found : goal.returns-clause-found
returns-clause-found c =
    before_seen c.args.self.now c.self.inside.list.items c.as_slice.result.now (option_map shown c.before_of.result) c.self.view_is c.as_slice.ensures.value c.self.invariant
    (spot_hit c.args.spot.now) c.before_of.ensures.found
