use Rattle.std.proofs.Common.{◌≡◌, map, take}
use Rattle.newt_spec_world.specs.Reply.{items}
use Rattle.newt_reply.specs.Fields.{spec_item}
use Rattle.newt_reply.proofs.items.specs_text.Given as goal

abbrev pub invariant-loop-index : goal.invariant-loop-index
invariant-loop-index l = l.text.items ≡ items (map spec_item (take l.index l.specs))
