use Rattle.newt_laws_images.proofs.Skeletons.{skeleton-graph}
use Rattle.newt_laws_images.proofs.lying.skeletons_are_graphs.Goals as goal

pub returns : goal.returns
returns c = skeleton-graph
