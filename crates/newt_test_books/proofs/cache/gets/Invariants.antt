use Rattle.std.proofs.Common.{true}
use Rattle.newt_memhost.specs.Outside.{outside_of}
use Rattle.newt_test_books.proofs.cache.gets.Given as goal

abbrev pub invariant-loop-id : goal.invariant-loop-id
invariant-loop-id g l = g.I.Interpreter.stands true l.it (outside_of l.host)
