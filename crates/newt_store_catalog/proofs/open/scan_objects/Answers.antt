use Rattle.std.proofs.Common.{sym, subst}
use Rattle.newt_host.specs.Moments.{image}
use Rattle.newt_objects.specs.Calls.{BlamesNone}
use Rattle.newt_store_catalog.proofs.Exits.{of-looks, search-value, search-none, search-memory, search-device}
use Rattle.newt_store_catalog.proofs.Opening.{no-objects, the-fault}
use Rattle.newt_store_catalog.proofs.open.scan_objects.Goals as goal

pub returns-in-Ok-clause-reads : goal.returns-in-Ok-clause-reads
returns-in-Ok-clause-reads g c = of-looks c.scan.ensures.reads.book

pub returns-in-Ok-clause-ends : goal.returns-in-Ok-clause-ends
returns-in-Ok-clause-ends g c = search-value (c.in-Ok.ensures.reads.no_fault tt)

pub returns-in-Err-Bad-clause-reads : goal.returns-in-Err-Bad-clause-reads
returns-in-Err-Bad-clause-reads g c = of-looks c.scan.ensures.reads.book

pub returns-in-Err-Bad-clause-ends : goal.returns-in-Err-Bad-clause-ends
returns-in-Err-Bad-clause-ends g c =
    let is = the-fault c.in-Err-Bad.is c.in-Err-Bad.field-0-is in
    search-none
    (λ tells. no-objects (image (g.P.PageBook.place c.args.book.now) (g.H.Host.outside c.args.host.now).now)
    (λ live table of_image is_table. c.scan.ensures.bad is tells live table of_image is_table))
    (c.scan.ensures.reads.no_fault (subst (λ r. BlamesNone r) (sym is) tt))

pub returns-in-Err-Memory-clause-reads : goal.returns-in-Err-Memory-clause-reads
returns-in-Err-Memory-clause-reads g c = of-looks c.scan.ensures.reads.book

pub returns-in-Err-Memory-clause-ends : goal.returns-in-Err-Memory-clause-ends
returns-in-Err-Memory-clause-ends g c =
    let is = the-fault c.in-Err-Memory.is c.in-Err-Memory.field-0-is in
    search-memory (c.scan.ensures.reads.no_fault (subst (λ r. BlamesNone r) (sym is) tt))

pub returns-in-Err-Device-clause-reads : goal.returns-in-Err-Device-clause-reads
returns-in-Err-Device-clause-reads g c = of-looks c.scan.ensures.reads.book

pub returns-in-Err-Device-clause-ends : goal.returns-in-Err-Device-clause-ends
returns-in-Err-Device-clause-ends g c = search-device (c.scan.ensures.reads.cause (the-fault c.in-Err-Device.is c.in-Err-Device.field-0-is))
