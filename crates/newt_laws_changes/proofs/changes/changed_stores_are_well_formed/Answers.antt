use Rattle.newt_laws_changes.proofs.Fresh.{fresh_formed, moved_formed}
use Rattle.newt_laws_changes.proofs.Formed.{made_formed, dropped_formed, added_formed, replaced_formed, patched_formed, removed_formed}
use Rattle.newt_laws_changes.proofs.changes.changed_stores_are_well_formed.Goals as goal

pub returns : goal.returns
returns c = record {
  fresh = fresh_formed;
  made = made_formed;
  dropped = dropped_formed;
  added = λ sig now g s p w found room fits. added_formed sig s p now g w found room fits;
  replaced = replaced_formed;
  patched = patched_formed;
  removed = removed_formed;
  moved = λ sig uid to now s p q e w target room i. moved_formed sig to uid s p q e now w target room i;
}
