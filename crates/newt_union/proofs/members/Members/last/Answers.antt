use Rattle.newt_union.specs.Seen.{shown}
use Rattle.std.specs.Prelude.{option_map}
use Rattle.newt_union.proofs.View.{last_seen}
use Rattle.newt_union.proofs.members.Members.last.Goals as goal

pub returns : goal.returns
returns c = last_seen c.args.self.now c.self.inside.list.items c.as_slice.result.now (option_map shown c.last_of.result) c.self.view_is c.as_slice.ensures.value c.self.invariant c.last_of.ensures
