use Rattle.std.proofs.Common.{arith}
use Rattle.newt_pagelog.proofs.Committing.{commits-widen}
use Rattle.newt_host.specs.Moments.{image}
use Rattle.std.proofs.lemmas.Result.{IfOk-weaker}
use Rattle.newt_pages.proofs.Caching.{cached-none, all-ok}
use Rattle.newt_pages.proofs.change.commit_with.Goals as goal

pub returns-then-has_room : goal.returns-then-has_room
returns-then-has_room g c =
    let e = c.commit_after.ensures in
    record {
      commits = commits-widen _ _ (record { programs = omega arith; fetches = omega arith; erases = omega arith; syncs = omega arith }) e.commits;
      takes = e.takes;
      caches = λ tells. IfOk-weaker c.commit_after.result _ _ (λ after still. still c.args.cache.now.entries (c.requires.caches tells)) (e.caches tells);
      appends = record { costs = λ tells free. e.commits.writes.costs; wears = λ tells free. e.commits.writes.wears };
    }

pub returns-else-has_room : goal.returns-else-has_room
returns-else-has_room g c =
    let o = g.H.Host.outside in
    let e = c.commit_beside.ensures in
    let yes = c.has_room.ensures.open g.H.Host.told (o c.args.host.now) c.requires.ready.book.stands in
    record {
      commits = commits-widen _ _ (record { programs = omega (arith, c.requires.live); fetches = omega (arith, c.requires.live); erases = omega arith; syncs = omega arith }) e.commits;
      takes = e.takes;
      caches = λ tells. all-ok c.commit_beside.result (λ after. cached-none after (image c.args.journal.unit (o c.commit_beside.new.host).now) c.forget_all.new.cache.entries c.forget_all.ensures);
      appends = record {
        costs = λ tells free. absurd (let so = yes tells free in let no = c.if-has_room.false in cc);
        wears = λ tells free. absurd (let so = yes tells free in let no = c.if-has_room.false in cc);
      };
    }
