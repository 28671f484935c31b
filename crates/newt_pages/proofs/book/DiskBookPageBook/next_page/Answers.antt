use Rattle.newt_pages.specs.Disk.{small_with}
use Rattle.newt_pages.proofs.book.DiskBookPageBook.next_page.Goals as goal

pub next_page-requires : goal.next_page-requires
next_page-requires c = small_with c.args.self.now.places.entries c.args.self.now.numbered
