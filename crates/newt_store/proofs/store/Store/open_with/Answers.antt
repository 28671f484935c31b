use Rattle.newt_host.specs.Moments.{image}
use Rattle.newt_store.proofs.Gathered.{gathered-of}
use Rattle.newt_store.proofs.store.Store.open_with.Goals as goal

pub returns-clause-gathered : goal.returns-clause-gathered
returns-clause-gathered g c = λ tells s stands.
    gathered-of g.G.Gatherer.gathers c.in_ok-book.catalog (image c.args.unit (g.H.Host.outside c.args.host.now).now) s c.in_ok-book.gatherer stands (c.in_ok-book.ensures.gathered tells)
