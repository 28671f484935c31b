use Rattle.std.proofs.Common.{◌≡◌, ◌++◌, flat_map, take}
use Rattle.newt_spec_world.specs.Reply.{field}
use Rattle.newt_reply.proofs.declared.push_fields.Given as goal

abbrev pub invariant-loop-field : goal.invariant-loop-field
invariant-loop-field l = l.line.items ≡ l.fn.line.items ++ flat_map field (take l.field-index l.fields)
