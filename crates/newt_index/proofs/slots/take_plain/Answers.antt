use Rattle.std.proofs.Common.{Some, sym, ◌∙◌, ap, List, ℕ}
use Rattle.std.specs.BTreeMap.{is_at}
use Rattle.std.specs.Map.{lookup}
use Rattle.newt_index.specs.Kept.{slot_cmp}
use Rattle.newt_index.proofs.Notes.{only_one, plain_told, plain_tells, plain_left}
use Rattle.newt_index.proofs.slots.take_plain.Goals as goal

pub returns-clause-keys : goal.returns-clause-keys
returns-clause-keys c =
    let es = c.args.keys.now.entries in
    let slot = c.args.slot in
    let removed = c.remove.ensures.entries in
    removed
    ∙ only_one plain_told slot es (plain_tells es c.requires.plain) (ap (λ (bytes : List ℕ). Some bytes) (sym c.requires.empty))
    (ap (lookup (is_at (slot_cmp slot))) (sym removed) ∙ c.remove.ensures.updates.1)

pub returns-clause-plain : goal.returns-clause-plain
returns-clause-plain c = plain_left c.args.slot c.args.keys.now.entries c.remove.new.self.entries c.remove.ensures.entries c.requires.plain
