use Rattle.newt_nsof_read.proofs.met.Seen.make_table.Goals as goal

pub note_all-requires-clause-once : goal.note_all-requires-clause-once
note_all-requires-clause-once c = rw c.deref.ensures.value c.self.invariant.once
