use Rattle.newt_store_catalog.proofs.Exits.{with-kept, search-value, search-memory, search-device}
use Rattle.newt_store_catalog.proofs.Opening.{kept-read}
use Rattle.newt_store_catalog.proofs.open.read_object.Goals as goal

pub returns-in-Ok-clause-bytes : goal.returns-in-Ok-clause-bytes
returns-in-Ok-clause-bytes g c = λ tells.
    kept-read g.H.Host.told c.args.objects.now (g.P.PageBook.numbers c.args.book.now) (g.P.PageBook.place c.args.book.now) (g.H.Host.outside c.args.host.now) c.requires.can.kept tells c.args.id c.in-Ok.bytes.items (c.in-Ok.ensures.bytes tells)

pub returns-in-Ok-clause-searches : goal.returns-in-Ok-clause-searches
returns-in-Ok-clause-searches g c = record { book = with-kept c.requires.can.kept c.read.ensures.reads.book; ends = search-value c.in-Ok.ensures.reads.no_fault }

pub returns-in-Err-Memory-clause-searches : goal.returns-in-Err-Memory-clause-searches
returns-in-Err-Memory-clause-searches g c = record { book = with-kept c.requires.can.kept c.read.ensures.reads.book; ends = search-memory (rw c.in-Err-Memory.field-0-is at c.in-Err-Memory.ensures.reads.cause) }

pub returns-in-Err-Device-clause-searches : goal.returns-in-Err-Device-clause-searches
returns-in-Err-Device-clause-searches g c = record { book = with-kept c.requires.can.kept c.read.ensures.reads.book; ends = search-device (rw c.in-Err-Device.field-0-is at c.in-Err-Device.ensures.reads.cause).1 }
