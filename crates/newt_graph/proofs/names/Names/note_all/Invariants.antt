use Rattle.std.proofs.Common.{◌++◌, take}
use Rattle.newt_graph.specs.Names.{Knows}
use Rattle.newt_graph.proofs.names.Names.note_all.Given as goal

abbrev pub invariant-loop-i : goal.invariant-loop-i
invariant-loop-i l = Knows l.self.numbers (l.old ++ take l.i l.new)
