use Rattle.newt_pagelog.specs.Kept.{small_with}
use Rattle.newt_pageplain.proofs.book.PlainBookPageBook.next_page.Goals as goal

pub next_page-requires : goal.next_page-requires
next_page-requires c = small_with c.args.self.now.pages.entries c.args.self.now.sound
