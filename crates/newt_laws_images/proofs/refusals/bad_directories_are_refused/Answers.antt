use Rattle.newt_laws_images.proofs.Refused.{no-directory, bad-directory}
use Rattle.newt_laws_images.proofs.refusals.bad_directories_are_refused.Goals as goal

pub returns-clause-missing : goal.returns-clause-missing
returns-clause-missing c = λ graph_of version objects blocks none s h. no-directory graph_of version objects blocks s h none

pub returns-clause-unreadable : goal.returns-clause-unreadable
returns-clause-unreadable c = λ graph_of version objects blocks bytes at none s h. bad-directory graph_of version objects blocks s h bytes at none
