use Rattle.std.proofs.Common.{refl, ◌∙◌}
use Rattle.newt_memhost.specs.Outside.{outside_of}
use Rattle.newt_test_pages.proofs.Carried.{at_place, still_at_rest}
use Rattle.newt_test_pages.proofs.changes.bytes_of.Goals as goal

pub read-requires-clause-objects : goal.read-requires-clause-objects
read-requires-clause-objects g c = at_place c.args.objects.now (g.P.PageBook.numbers c.args.book.now) (g.P.PageBook.place c.args.book.now) (outside_of c.args.host.now) c.requires.book.1 c.requires.objects

pub returns-in_err-read-clause-book : goal.returns-in_err-read-clause-book
returns-in_err-read-clause-book g c = (c.in_err-read.ensures.reads.book.stands, c.in_err-read.ensures.reads.book.same_place ∙ c.requires.book.1)

pub returns-clause-book : goal.returns-clause-book
returns-clause-book g c = (c.in_ok-read.ensures.reads.book.stands, c.in_ok-read.ensures.reads.book.same_place ∙ c.requires.book.1)

pub returns-in_err-read-clause-objects : goal.returns-in_err-read-clause-objects
returns-in_err-read-clause-objects g c =
    let numbers = g.P.PageBook.numbers in
    let e = c.in_err-read.ensures in
    still_at_rest c.args.objects.now c.args.objects.now (numbers c.args.book.now) (numbers c.read.new.book) 0 (outside_of c.args.host.now) (outside_of c.read.new.host) (λ id. refl) c.requires.objects.none e.reads.book.same_numbers e.reads.book.looks.moment c.requires.objects

pub returns-clause-objects : goal.returns-clause-objects
returns-clause-objects g c =
    let numbers = g.P.PageBook.numbers in
    let e = c.in_ok-read.ensures in
    still_at_rest c.args.objects.now c.args.objects.now (numbers c.args.book.now) (numbers c.read.new.book) 0 (outside_of c.args.host.now) (outside_of c.read.new.host) (λ id. refl) c.requires.objects.none e.reads.book.same_numbers e.reads.book.looks.moment c.requires.objects
