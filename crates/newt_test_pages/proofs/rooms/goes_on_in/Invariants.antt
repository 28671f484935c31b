use Rattle.std.proofs.Common.{◌≡◌, ◌≤◌, true}
use Rattle.newt_memhost.specs.Outside.{outside_of}
use Rattle.newt_test_pages.proofs.rooms.goes_on_in.Given as goal

abbrev pub invariant-loop-number : goal.invariant-loop-number
invariant-loop-number g l = record {
  book : g.P.PageBook.stands true l.book (outside_of l.host) × (g.P.PageBook.place l.book ≡ 0);
  few : l.refused ≤ l.number;
}
