use Rattle.newt_laws_images.proofs.Made.{found-lies}
use Rattle.newt_laws_images.proofs.lying.stores_are_made_of_records.Goals as goal

pub returns : goal.returns
returns c = λ graph_of version objects place named d reads found. found-lies graph_of version objects place named d found reads
