use Rattle.std.specs.Prelude.{option_map}
use Rattle.newt_union.specs.Seen.{shown}
use Rattle.newt_union.proofs.View.{have_probe, at_or_after_seen}
use Rattle.newt_union.proofs.members.Members.at_or_after.Goals as goal

pub returns-clause-found : goal.returns-clause-found
returns-clause-found c spec key agree probe =
    at_or_after_seen c.args.self.now c.self.inside.list.items c.as_slice.result.now (option_map shown c.at_or_after_of.result) c.self.view_is c.as_slice.ensures.value c.self.invariant
    key (c.at_or_after_of.ensures.found key (have_probe key c.args.probe.now c.args.self.now c.self.inside.list.items c.as_slice.result.now c.self.view_is c.as_slice.ensures.value probe))
    spec agree
