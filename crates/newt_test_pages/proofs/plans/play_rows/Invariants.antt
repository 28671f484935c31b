use Rattle.std.proofs.Common.{◌≡◌, true}
use Rattle.newt_memhost.specs.Outside.{outside_of}
use Rattle.newt_test_pages.specs.Changes.{AreAtRest}
use Rattle.newt_test_pages.proofs.plans.play_rows.Given as goal

abbrev pub invariant-loop-row : goal.invariant-loop-row
invariant-loop-row g l = record {
  book : g.P.PageBook.stands true l.book (outside_of l.host) × (g.P.PageBook.place l.book ≡ 0);
  objects : AreAtRest l.objects (g.P.PageBook.numbers l.book) 0 (outside_of l.host);
}
