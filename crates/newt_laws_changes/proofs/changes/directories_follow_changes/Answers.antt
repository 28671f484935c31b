use Rattle.newt_laws_changes.proofs.Bare.{made_bare, dropped_bare, added_bare, removed_bare}
use Rattle.newt_laws_changes.proofs.Bytes.{removed-directory}
use Rattle.newt_laws_changes.proofs.changes.directories_follow_changes.Goals as goal

pub returns-clause-made : goal.returns-clause-made
returns-clause-made c = made_bare

pub returns-clause-dropped : goal.returns-clause-dropped
returns-clause-dropped c sig s p w found = dropped_bare s sig p w found

pub returns-clause-added : goal.returns-clause-added
returns-clause-added c sig now g s p w found = added_bare s sig p w found now g

pub returns-clause-removed : goal.returns-clause-removed
returns-clause-removed c = removed_bare

pub returns-clause-unseen : goal.returns-clause-unseen
returns-clause-unseen c = removed-directory
