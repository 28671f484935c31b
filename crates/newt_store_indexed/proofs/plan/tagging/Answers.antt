use Rattle.newt_store_indexed.proofs.Filled.{is-tagging}
use Rattle.newt_store_indexed.proofs.plan.tagging.Goals as goal

pub returns-in-Ok-clause-tagged : goal.returns-in-Ok-clause-tagged
returns-in-Ok-clause-tagged g c = λ tells s shows. is-tagging s c.args.soup c.args.table.now c.in-Ok.masks shows.describes.formed (c.in-Ok.ensures.filled tells s shows)
