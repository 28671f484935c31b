use Rattle.std.proofs.Common.{◌≡◌, ◌++◌, IsTrue, length, map}
use Rattle.newt_host.specs.Outside.{NoFault}
use Rattle.newt_spec_store.specs.Store.{Store as PlainStore}
use Rattle.newt_entries.specs.Full.{told}
use Rattle.newt_store.specs.Calls.{Shows, Reads}
use Rattle.newt_store_backup.specs.Listed.{soups_listed}
use Rattle.newt_store_backup.proofs.gather.put_soups.Given as goal

abbrev pub invariant-loop-left : goal.invariant-loop-left
invariant-loop-left g l =
    let outside = g.H.Host.outside in let place = g.P.PageBook.place in
    record {
      reads : Reads place g.P.PageBook.numbers g.P.PageBook.stands g.H.Host.told l.fn.store l.store (outside l.fn.host) (outside l.host);
      no_fault : NoFault (outside l.fn.host) (outside l.host);
      put : IsTrue g.H.Host.told → (s : PlainStore) → Shows place l.fn.store (outside l.fn.host) s
          → map told l.entries.items ++ soups_listed s l.left ≡ map told l.fn.entries.items ++ soups_listed s l.soups;
    }

abbrev pub decreases-loop-left : goal.decreases-loop-left
decreases-loop-left g l = length l.left
