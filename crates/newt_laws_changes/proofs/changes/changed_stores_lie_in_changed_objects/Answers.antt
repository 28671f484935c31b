use Rattle.newt_laws_changes.proofs.Fresh.{fresh_lies}
use Rattle.newt_laws_changes.proofs.Replaced.{declared_lies, replaced_lies, patched_lies}
use Rattle.newt_laws_changes.proofs.Lying.{made_lies, dropped_lies, added_lies, removed_lies}
use Rattle.newt_laws_changes.proofs.Moved.{moved_lies}
use Rattle.newt_laws_changes.proofs.changes.changed_stores_lie_in_changed_objects.Goals as goal

pub returns : goal.returns
returns c = record {
  fresh = fresh_lies;
  made = made_lies;
  dropped = dropped_lies;
  added = added_lies;
  declared = declared_lies;
  replaced = replaced_lies;
  patched = patched_lies;
  removed = removed_lies;
  moved = moved_lies;
}
