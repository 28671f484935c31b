use Rattle.std.proofs.Common.{◌≡◌, ◌++◌, ℕ, List, map, subst, ◌∙◌}
use Rattle.std.specs.Prelude.{OnOk}
use Rattle.newt_host.specs.Moments.{image}
use Rattle.newt_entries.specs.Full.{told}
use Rattle.newt_store_backup.specs.Listed.{entries_listed}
use Rattle.newt_store_backup.proofs.gather.put_soup.Goals as goal

pub returns-clause-put : goal.returns-clause-put
returns-clause-put g c = λ tells s shows.
    subst (λ (us : List ℕ). OnOk c.put_listed.result (map told c.put_listed.new.entries.items ≡ map told c.args.entries.now.items ++ entries_listed c.args.soup s us))
    (c.deref.ensures.value ∙ c.in_ok-uids.ensures (image (g.P.PageBook.place c.args.store.now.book) (g.H.Host.outside c.args.host.now).now) s shows)
    (c.put_listed.ensures.put tells s shows)
