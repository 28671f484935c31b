use Rattle.std.proofs.Common.{length}
use Rattle.newt_journal.specs.Draft.{unit_of}
use Rattle.newt_pagelog.specs.Steps.{Stays, done}
use Rattle.newt_pages.specs.Copies.{below, copying, CopiesAll}
use Rattle.newt_pages.proofs.switch.copy_pages.Given as goal

abbrev pub invariant-loop-number : goal.invariant-loop-number
invariant-loop-number g l =
    let outside = g.H.Host.outside in
    record {
      copies : CopiesAll g.H.Host.told (unit_of l.fn.draft) (below l.number l.places.entries) l.fn.draft l.draft (outside l.fn.host) (outside l.host);
      stays : Stays g.H.Host.told (unit_of l.fn.draft) (copying (length (below l.number l.places.entries))) done (outside l.fn.host) (outside l.host);
    }
