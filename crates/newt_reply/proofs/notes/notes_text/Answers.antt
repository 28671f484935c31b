use Rattle.newt_reply.specs.Fields.{note_item}
use Rattle.newt_reply.proofs.Listed.{one_more}
use Rattle.newt_reply.proofs.notes.notes_text.Goals as goal

pub loop-index-preserved : goal.loop-index-preserved
loop-index-preserved c =
    one_more note_item c.args.notes.now c.loop-index.index c.index-notes-index.result c.loop-index.text.items c.push_note.new.text.items c.loop-index-test.true
    c.index-notes-index.is c.loop-index.invariant c.in_ok-push_note.ensures
