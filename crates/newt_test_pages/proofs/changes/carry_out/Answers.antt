use Rattle.std.proofs.Common.{◌∙◌, refl}
use Rattle.newt_memhost.specs.Outside.{outside_of}
use Rattle.newt_test_pages.proofs.Carried.{carried_out}
use Rattle.newt_test_pages.proofs.changes.carry_out.Goals as goal

pub returns-clause-objects : goal.returns-clause-objects
returns-clause-objects g c =
    let numbers = g.P.PageBook.numbers in
    let reserved = c.in_ok-reserve.ensures in
    record {
      table = carried_out c.args.objects.now c.adopt.new.self c.args.batch.now (numbers c.args.book.now) (numbers c.reserve.new.self) (numbers c.commit.new.self) (g.P.PageBook.place c.reserve.new.self)
          (outside_of c.args.host.now) (outside_of c.commit.new.host) (reserved.same.0 ∙ c.requires.book.1) reserved.same.1 c.requires.table c.requires.plan
          c.in_ok-commit.ensures.numbers_are (c.in_ok-commit.ensures.committed refl) c.adopt.ensures.adopted;
      none = c.adopt.ensures.no_plans;
    }
