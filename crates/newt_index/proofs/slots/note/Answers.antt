use Rattle.std.proofs.Common.{IsTrue, rules, subst}
use Rattle.newt_index.specs.declared.slots.IdSlots.{IdSlots}
use Rattle.newt_index.specs.Noted.{AreNoted}
use Rattle.newt_index.proofs.Notes.{as_noted}
use Rattle.newt_index.proofs.slots.note.Goals as goal

pub returns-in_err-note_of_id-in-OfIds-clause-kept : goal.returns-in_err-note_of_id-in-OfIds-clause-kept
returns-in_err-note_of_id-in-OfIds-clause-kept c = λ es was.
    as_noted c.in-OfIds.of_ids c.note_of_id.new.of_ids c.in_err-note_of_id-in-OfIds.ensures.err es (subst (λ (notes : IdSlots). AreNoted notes es) c.in-OfIds.is was)

pub returns-else-not-branch-clause-kept : goal.returns-else-not-branch-clause-kept
returns-else-not-branch-clause-kept c = λ es was.
    let fits : IsTrue c.in_ok-note_of_id-in-OfIds.field-0 = search rules in
    c.in_ok-note_of_id-in-OfIds.ensures.kept fits es (subst (λ (notes : IdSlots). AreNoted notes es) c.in-OfIds.is was)
