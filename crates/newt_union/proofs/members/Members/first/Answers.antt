use Rattle.newt_union.specs.Seen.{shown}
use Rattle.std.specs.Prelude.{option_map}
use Rattle.newt_union.proofs.View.{first_seen}
use Rattle.newt_union.proofs.members.Members.first.Goals as goal

pub returns : goal.returns
returns c = first_seen c.args.self.now c.self.inside.list.items c.as_slice.result.now (option_map shown c.first_of.result) c.self.view_is c.as_slice.ensures.value c.self.invariant c.first_of.ensures
