use Rattle.newt_store_indexed.proofs.Filled.{is-declaring}
use Rattle.newt_store_indexed.proofs.plan.declaring.Goals as goal

pub returns-in-Ok-clause-declared : goal.returns-in-Ok-clause-declared
returns-in-Ok-clause-declared g c = λ tells s shows. is-declaring s c.args.soup c.args.spec.now c.in-Ok.range shows.describes.formed (c.in-Ok.ensures.filled tells s shows)
