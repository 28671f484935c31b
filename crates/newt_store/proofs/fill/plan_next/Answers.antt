use Rattle.newt_objects_commit.proofs.Planning.{adds-as}
use Rattle.newt_store.proofs.Filled.{new-free, none-over}
use Rattle.newt_store.proofs.Ids.{entry-pages}
use Rattle.newt_store.proofs.fill.plan_next.Goals as goal

pub plan_entry-requires-clause-way : goal.plan_entry-requires-clause-way
plan_entry-requires-clause-way c = c.requires.room.way

pub returns-clause-plans : goal.returns-clause-plans
returns-clause-plans c =
    let e = c.args.entry.now in
    let n = c.in_ok-new.new in
    let is = c.in_ok-new.ensures in
    let done = c.in_ok-plan_entry.ensures in
    record {
      one = n;
      is = is;
      way = done.way;
      pages = adds-as _ _ _ _ _ _ (entry-pages e.soup e.uid e.time e.graph n is.of_entry) (none-over c.args.objects.now n c.requires.room.none) done.pages;
      free = new-free e c.args.id c.args.last c.in_ok-new.next n c.args.objects.now c.plan_entry.new.objects is c.requires.room.free done.others;
    }
