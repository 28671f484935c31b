use Rattle.newt_graph.proofs.Known.{noted}
use Rattle.newt_graph.proofs.names.Names.note.Goals as goal

pub returns-clause-noted : goal.returns-clause-noted
returns-clause-noted c = λ name is.
    noted c.args.self.now.numbers c.insert.new.self name c.args.key c.args.n is c.in_ok-insert.ensures.updates
