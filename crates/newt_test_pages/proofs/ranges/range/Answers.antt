use Rattle.std.proofs.Common.{refl, ◌∙◌}
use Rattle.newt_memhost.specs.Outside.{outside_of}
use Rattle.newt_test_pages.proofs.Carried.{at_place, still_at_rest}
use Rattle.newt_test_pages.proofs.ranges.range.Goals as goal

pub read_range-requires-clause-objects : goal.read_range-requires-clause-objects
read_range-requires-clause-objects g c = at_place c.args.objects.now (g.P.PageBook.numbers c.args.book.now) (g.P.PageBook.place c.args.book.now) (outside_of c.args.host.now) c.requires.book.1 c.requires.objects

pub returns-clause-book : goal.returns-clause-book
returns-clause-book g c = (c.read_range.ensures.reads.book.stands, c.read_range.ensures.reads.book.same_place ∙ c.requires.book.1)

pub returns-clause-objects : goal.returns-clause-objects
returns-clause-objects g c =
    let numbers = g.P.PageBook.numbers in
    let e = c.read_range.ensures in
    still_at_rest c.args.objects.now c.args.objects.now (numbers c.args.book.now) (numbers c.read_range.new.book) 0 (outside_of c.args.host.now) (outside_of c.read_range.new.host) (λ id. refl) c.requires.objects.none e.reads.book.same_numbers e.reads.book.looks.moment c.requires.objects
