use Rattle.std.proofs.Common.{◌≡◌, map, take}
use Rattle.newt_spec_world.specs.Reply.{items}
use Rattle.newt_reply.specs.Fields.{note_item}
use Rattle.newt_reply.proofs.notes.notes_text.Given as goal

abbrev pub invariant-loop-index : goal.invariant-loop-index
invariant-loop-index l = l.text.items ≡ items (map note_item (take l.index l.notes))
