use Rattle.std.proofs.Common.{◌≡◌, ◌++◌, codes, flat_map, take}
use Rattle.newt_spec_world.specs.Reply.{field}
use Rattle.newt_reply.proofs.line.ok_front.Given as goal

abbrev pub invariant-loop-field : goal.invariant-loop-field
invariant-loop-field l = l.line.items ≡ codes "ok" ++ flat_map (λ part. field part.now) (take l.field-index l.fields)
