use Rattle.newt_laws_changes.proofs.Later.{later-make, later-drop, later-soup, later-add, later-remove, store-trans}
use Rattle.newt_laws_changes.proofs.changes.changes_give_new_ids.Goals as goal

pub returns-clause-made : goal.returns-clause-made
returns-clause-made c = later-make

pub returns-clause-dropped : goal.returns-clause-dropped
returns-clause-dropped c = later-drop

pub returns-clause-added : goal.returns-clause-added
returns-clause-added c name now g s = later-soup name _ (later-add now g) s

pub returns-clause-removed : goal.returns-clause-removed
returns-clause-removed c name uid s = later-soup name _ (later-remove uid) s

pub returns-clause-joined : goal.returns-clause-joined
returns-clause-joined c = store-trans
