use Rattle.std.proofs.Common.{◌≡◌, true}
use Rattle.newt_memhost.specs.Outside.{outside_of}
use Rattle.newt_test_pages.proofs.books.play_rows.Given as goal

abbrev pub invariant-loop-row : goal.invariant-loop-row
invariant-loop-row g l = g.P.PageBook.stands true l.book (outside_of l.host) × (g.P.PageBook.place l.book ≡ 0)
