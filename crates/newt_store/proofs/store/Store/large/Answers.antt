use Rattle.std.proofs.Common.{refl}
use Rattle.newt_store.proofs.Opened.{open-over}
use Rattle.newt_store.proofs.store.Store.large.Goals as goal

pub returns-clause-reads : goal.returns-clause-reads
returns-clause-reads g c =
    let r = c.read_large.ensures.reads.book in record {
      is_open = open-over c.requires r;
      same_place = r.same_place;
      same_numbers = r.same_numbers;
      catalog = refl;
      looks = r.looks;
    }
