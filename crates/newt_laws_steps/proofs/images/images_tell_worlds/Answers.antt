use Rattle.newt_laws_steps.proofs.Held.{stands-same, stands-left, stands-blank, stands-sure}
use Rattle.newt_laws_steps.proofs.images.images_tell_worlds.Goals as goal

pub returns-clause-kept : goal.returns-clause-kept
returns-clause-kept c = stands-same

pub returns-clause-left : goal.returns-clause-left
returns-clause-left c = stands-left

pub returns-clause-blank : goal.returns-clause-blank
returns-clause-blank c = stands-blank

pub returns-clause-sure : goal.returns-clause-sure
returns-clause-sure c = stands-sure
