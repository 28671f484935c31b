use Rattle.std.proofs.Common.{IsTrue, ◌≡◌, ℕ, ◌<◌, ◌≤◌, nat_eq, List, length, Some, None}
use Rattle.std.specs.HashMap as hash
use Rattle.newt_host.specs.Moments.{image}
use Rattle.newt_host.specs.Outside.{OnlyReads}
use Rattle.newt_pagelog.specs.Kept.{is_kept, page_in}
use Rattle.newt_pagelog.specs.Placed.{lifted, page_from}
use Rattle.newt_pageplain.proofs.open.read_pages.Given as goal

abbrev pub invariant-loop-number : goal.invariant-loop-number
invariant-loop-number g l =
    let outside = g.H.Host.outside in
    let img = image l.journal.unit (outside l.fn.host).now in
    record {
      looks : OnlyReads l.journal.unit (outside l.fn.host) (outside l.host);
      no_fault : (outside l.host).dev_faults l.journal.unit ≡ (outside l.fn.host).dev_faults l.journal.unit;
      unique : hash.IsUnique nat_eq l.pages;
      above : (q : ℕ) → l.number ≤ q → page_in l.pages.entries q ≡ None;
      kept : (q : ℕ) → q < l.number → is_kept l.pages.entries q ≡ is_kept l.places.entries q;
      whole : (q : ℕ) (page : List ℕ) → page_in l.pages.entries q ≡ Some page → length page ≡ 512;
      same : IsTrue g.H.Host.told → (q : ℕ) → q < l.number → page_in l.pages.entries q ≡ page_in (lifted (page_from img) l.places.entries) q;
    }
