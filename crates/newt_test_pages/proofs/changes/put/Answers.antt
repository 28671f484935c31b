use Rattle.std.proofs.Common.{refl}
use Rattle.newt_memhost.specs.Outside.{outside_of}
use Rattle.newt_objects.specs.Held.{held}
use Rattle.newt_objects.proofs.Changing.{are_still}
use Rattle.newt_test_pages.proofs.changes.put.Goals as goal

pub carry_out-requires-clause-table : goal.carry_out-requires-clause-table
carry_out-requires-clause-table g c =
    let numbers = g.P.PageBook.numbers c.args.book.now in
    let outside = outside_of c.args.host.now in
    are_still _ (held c.args.objects.now) (held c.put_plan.new.objects) numbers numbers 0 outside outside c.put_plan.ensures.kept refl refl c.requires.objects.table
