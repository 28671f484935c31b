use Rattle.std.proofs.Common.{◌≡◌, true}
use Rattle.newt_memhost.specs.Outside.{outside_of}
use Rattle.newt_test_pages.proofs.card.pages_in.Given as goal

abbrev pub invariant-loop : goal.invariant-loop
invariant-loop g l = record {
  book : g.P.PageBook.stands true l.book (outside_of l.host) × (g.P.PageBook.place l.book ≡ 0);
  room : g.P.PageBook.spare l.book ≡ g.P.PageBook.spare l.fn.book;
}
