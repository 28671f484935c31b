use Rattle.std.proofs.Common.{sym, ◌∙◌}
use Rattle.newt_pagelog.proofs.Counts.{live-is}
use Rattle.newt_pageplain.proofs.book.PlainBookPageBook.live.Goals as goal

pub returns : goal.returns
returns c = c.len.ensures.len ∙ sym (live-is c.args.self.now.pages.entries c.args.self.now.sound.unique)
