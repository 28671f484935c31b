use Rattle.std.proofs.Common.{ℕ, sym, ◌∙◌, ap, subst, List}
use Rattle.std.specs.BTreeMap.{is_at}
use Rattle.std.specs.Map.{lookup}
use Rattle.newt_index.specs.Kept.{Entry, slot_cmp}
use Rattle.newt_index.specs.Noted.{AreNotes, bytes_at}
use Rattle.newt_index.proofs.Notes.{others, only_one, none_noted, noted_slot, struck, bytes_found}
use Rattle.newt_index.proofs.slots.take_out.Goals as goal

pub returns-in-Some-clause-keys : goal.returns-in-Some-clause-keys
returns-in-Some-clause-keys c =
    let es = c.args.keys.now.entries in
    let slot = c.in-Some.slot in
    let known = noted_slot c.args.notes.now c.args.uid slot es c.requires (sym c.remove.ensures.value ∙ c.in-Some.is) in
    let removed = c.remove-in-Some.ensures.entries in
    removed
    ∙ only_one (bytes_at c.args.notes.now) slot es c.requires.each known.1 (ap (lookup (is_at (slot_cmp slot))) (sym removed) ∙ c.remove-in-Some.ensures.updates.1)
    ∙ ap (λ (uid : ℕ). others uid es) known.0

pub returns-in-Some-clause-notes : goal.returns-in-Some-clause-notes
returns-in-Some-clause-notes c =
    subst (λ (es : List Entry). AreNotes c.remove.new.self es) (sym (returns-in-Some-clause-keys c))
    (struck c.args.notes.now c.remove.new.self c.args.uid c.remove.ensures.updates c.args.keys.now.entries c.requires)

pub returns-in_default-clause-keys : goal.returns-in_default-clause-keys
returns-in_default-clause-keys c =
    none_noted (bytes_at c.args.notes.now) c.args.uid c.args.keys.now.entries c.requires.each (ap bytes_found (sym c.remove.ensures.value ∙ c.in_default.is))

pub returns-in_default-clause-notes : goal.returns-in_default-clause-notes
returns-in_default-clause-notes c =
    subst (λ (es : List Entry). AreNotes c.remove.new.self es) (sym (returns-in_default-clause-keys c))
    (struck c.args.notes.now c.remove.new.self c.args.uid c.remove.ensures.updates c.args.keys.now.entries c.requires)
