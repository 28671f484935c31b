use Rattle.newt_laws_images.proofs.Again.{over}
use Rattle.newt_laws_images.proofs.refusals.large_stores_are_refused.Goals as goal

pub returns : goal.returns
returns c = λ graph_of version objects blocks reads are_bytes more s h. over graph_of version objects blocks s reads are_bytes h more
