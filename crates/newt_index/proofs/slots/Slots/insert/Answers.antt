use Rattle.newt_index.proofs.Notes.{inserted}
use Rattle.newt_index.proofs.slots.Slots.insert.Goals as goal

pub invariant_of-self-2 : goal.invariant_of-self-2
invariant_of-self-2 c =
    inserted c.note.new.notes c.args.slot c.args.key c.self.inside.keys.entries c.insert.new.self.entries c.in_ok-insert.ensures.entries c.in_ok-note.ensures.noted
    (c.note.ensures.kept c.self.inside.keys.entries c.self.invariant)
