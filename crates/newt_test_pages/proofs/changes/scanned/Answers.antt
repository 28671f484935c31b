use Rattle.std.proofs.Common.{◌∙◌}
use Rattle.newt_memhost.specs.Outside.{outside_of}
use Rattle.newt_test_pages.proofs.Carried.{at_rest}
use Rattle.newt_test_pages.proofs.changes.scanned.Goals as goal

pub returns-in_err-scan-clause-book : goal.returns-in_err-scan-clause-book
returns-in_err-scan-clause-book g c = (c.in_err-scan.ensures.reads.book.stands, c.in_err-scan.ensures.reads.book.same_place ∙ c.requires.1)

pub returns-clause-book : goal.returns-clause-book
returns-clause-book g c = (c.in_ok-scan.ensures.reads.book.stands, c.in_ok-scan.ensures.reads.book.same_place ∙ c.requires.1)

pub returns-clause-objects : goal.returns-clause-objects
returns-clause-objects g c =
    let numbers = g.P.PageBook.numbers in
    let e = c.in_ok-scan.ensures in
    at_rest _ (numbers c.args.book.now) (numbers c.scan.new.book) (g.P.PageBook.place c.args.book.now) (outside_of c.scan.new.host) c.requires.1 e.reads.book.same_numbers e.objects.0 e.objects.1
