use Rattle.std.proofs.Common.{sym, ◌∙◌}
use Rattle.newt_pagelog.proofs.Counts.{live-is}
use Rattle.newt_pages.proofs.book.DiskBookPageBook.live.Goals as goal

pub returns : goal.returns
returns c = c.len.ensures.len ∙ sym (live-is c.args.self.now.places.entries c.args.self.now.numbered.unique)
