use Rattle.std.proofs.Common.{refl, true, ◌∙◌}
use Rattle.newt_memhost.specs.Outside.{outside_of}
use Rattle.newt_test_pages.proofs.Carried.{apart_alone, at_place, patched_out}
use Rattle.newt_test_pages.proofs.ranges.patch.Goals as goal

pub plan_patch-requires-clause-apart : goal.plan_patch-requires-clause-apart
plan_patch-requires-clause-apart g c = λ x there. apart_alone c.new-batch.result c.new-batch.ensures x

pub plan_patch-requires-clause-objects : goal.plan_patch-requires-clause-objects
plan_patch-requires-clause-objects g c = at_place c.args.objects.now (g.P.PageBook.numbers c.args.book.now) (g.P.PageBook.place c.args.book.now) (outside_of c.args.host.now) c.requires.book.1 c.requires.objects

pub commit-requires-clause-book : goal.commit-requires-clause-book
commit-requires-clause-book g c = c.in_ok-reserve.ensures.book true (outside_of c.plan_patch.new.host) c.in_ok-plan_patch.ensures.reads.book.stands

pub returns-clause-book : goal.returns-clause-book
returns-clause-book g c = (c.in_ok-commit.ensures.stands, c.in_ok-commit.ensures.same_place ∙ c.in_ok-reserve.ensures.same.0 ∙ c.in_ok-plan_patch.ensures.reads.book.same_place ∙ c.requires.book.1)

pub returns-clause-objects : goal.returns-clause-objects
returns-clause-objects g c =
    let numbers = g.P.PageBook.numbers in
    let place = g.P.PageBook.place in
    let e = c.in_ok-plan_patch.ensures in
    let r = c.in_ok-reserve.ensures.same in
    patched_out c.args.objects.now 7 c.args.at c.args.bytes.now c.new-batch.result c.plan_patch.new.batch (numbers c.args.book.now) (numbers c.reserve.new.self) (numbers c.commit.new.self)
    (place c.args.book.now) (place c.reserve.new.self) (outside_of c.args.host.now) (outside_of c.plan_patch.new.host) (outside_of c.commit.new.host) c.new-batch.ensures c.requires.there c.requires.book.1
    (r.0 ∙ e.reads.book.same_place ∙ c.requires.book.1) (r.1 ∙ e.reads.book.same_numbers) e.reads.book.looks.moment c.requires.objects (e.plans.patched refl) e.plans.puts.same_numbers c.in_ok-commit.ensures.numbers_are (c.in_ok-commit.ensures.committed refl)
