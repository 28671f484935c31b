use Rattle.std.proofs.Common.{true}
use Rattle.newt_memhost.specs.Outside.{outside_of}
use Rattle.newt_store.specs.Calls.{IsOpen}
use Rattle.newt_test_store.proofs.contents.contents.Given as goal

abbrev pub invariant-loop-soup : goal.invariant-loop-soup
invariant-loop-soup g l = record {
  is_open : IsOpen g.P.PageBook.place g.P.PageBook.numbers g.P.PageBook.stands true l.store (outside_of l.host);
}
