use Rattle.std.proofs.Common.{◌∙◌, true}
use Rattle.newt_memhost.specs.Outside.{outside_of}
use Rattle.newt_test_pages.proofs.card.committed.Goals as goal

pub commit-requires-clause-book : goal.commit-requires-clause-book
commit-requires-clause-book g c = c.in_ok-reserve.ensures.book true (outside_of c.args.host.now) c.requires.book.0

pub returns : goal.returns
returns g c = (c.in_ok-commit.ensures.stands, c.in_ok-commit.ensures.same_place ∙ c.in_ok-reserve.ensures.same.0 ∙ c.requires.book.1)
