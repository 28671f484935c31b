use Rattle.newt_nsof_flat.proofs.Streams.{reads_graphs}
use Rattle.newt_nsof_flat.proofs.laws.flat_texts_are_read.Goals as goal

pub returns : goal.returns
returns c = reads_graphs
