use Rattle.std.proofs.Common.{true}
use Rattle.newt_memhost.specs.Outside.{outside_of}
use Rattle.newt_store_indexed.specs.Stands.{StandsOn}
use Rattle.newt_test_store.proofs.indexed_tables.play_rows.Given as goal

abbrev pub invariant-loop-row : goal.invariant-loop-row
invariant-loop-row g l = StandsOn g.P.PageBook.place g.P.PageBook.numbers g.P.PageBook.stands true l.store (outside_of l.host)
