use Rattle.std.proofs.Common.{arith}
use Rattle.newt_pagelog.specs.Commits.{append_work, commit_work, switch_work}
use Rattle.newt_pagelog.proofs.Committing.{commits-widen}
use Rattle.newt_pagelog.proofs.Failing.{on-ok}
use Rattle.newt_pageplain.proofs.change.commit_with.Goals as goal

pub returns-then-has_room : goal.returns-then-has_room
returns-then-has_room g c =
    let e = c.commit_after.ensures in
    record {
      commits = commits-widen _ _ (record { programs = omega arith; fetches = omega arith; erases = omega arith; syncs = omega arith }) e.commits;
      pages = e.pages;
      sound = e.sound;
      appends = record { costs = λ tells free. e.commits.writes.costs; wears = λ tells free. e.commits.writes.wears };
    }

pub returns-else-has_room : goal.returns-else-has_room
returns-else-has_room g c =
    let e = c.commit_beside.ensures in
    let yes = c.has_room.ensures.open g.H.Host.told (g.H.Host.outside c.args.host.now) c.requires.ready.book.stands in
    record {
      commits = commits-widen _ _ (record { programs = omega arith; fetches = omega arith; erases = omega arith; syncs = omega arith }) e.commits;
      pages = on-ok c.commit_beside.result e.pages;
      sound = e.sound;
      appends = record {
        costs = λ tells free. absurd (let so = yes tells free in let no = c.if-has_room.false in cc);
        wears = λ tells free. absurd (let so = yes tells free in let no = c.if-has_room.false in cc);
      };
    }
