use Rattle.std.proofs.Common.{◌≡◌, ◌+◌, ◌*◌, [], ◌∷◌, ◌++◌, length, take, get_or, ◌∙◌, ap, arith}
use Rattle.std.specs.List.{flat_map}
use Rattle.std.proofs.lemmas.List.{take_more}
use Rattle.newt_spec_image.specs.Pages.{written_put}
use Rattle.newt_journal.specs.Draft.{unit_of}
use Rattle.newt_pagelog.proofs.Stepping.{keeps-start, keeps-two, keeps-widen, keeps-on, writes-none, flat-push, step, written-size, writes-done, writes-failed, writes-ok}
use Rattle.newt_pagelog.proofs.Maps.{no_put}
use Rattle.newt_pagelog.proofs.write.write_puts.Goals as goal

pub loop-put-init : goal.loop-put-init
loop-put-init g c =
    let o = g.H.Host.outside c.args.host.now in
    record {
      keeps = keeps-start g.H.Host.told (unit_of c.args.draft.now) o c.requires.steady;
      writes = writes-none g.H.Host.told c.args.draft.now o c.requires.draft c.requires.steady;
      put = omega arith;
    }

pub write_put-requires-clause-room : goal.write_put-requires-clause-room
write_put-requires-clause-room g c = let inv = c.loop-put.invariant in omega (arith, inv.put, inv.writes.len, c.requires.room, c.loop-put-test.true)

pub returns-in_err-write_put-clause-keeps : goal.returns-in_err-write_put-clause-keeps
returns-in_err-write_put-clause-keeps g c =
    let o = g.H.Host.outside in
    let told = g.H.Host.told in
    let u = unit_of c.args.draft.now in
    let i = c.loop-put.put-index in
    let inv = c.loop-put.invariant in
    keeps-widen told u (516 * i + 516) (516 * length c.args.puts.now) (o c.args.host.now) (o c.write_put.new.host) (omega (arith, c.loop-put-test.true))
    (keeps-two told u (516 * i) 516 (o c.args.host.now) (o c.loop-put.host) (o c.write_put.new.host) inv.writes.same inv.keeps (keeps-on told (unit_of c.loop-put.draft) u 516 (o c.loop-put.host) (o c.write_put.new.host) inv.writes.on (writes-failed c.from_residual.result c.from_residual.ensures.0 c.in_err-write_put.ensures.keeps)))

pub loop-put-preserved : goal.loop-put-preserved
loop-put-preserved g c =
    let o = g.H.Host.outside in
    let told = g.H.Host.told in
    let d = c.args.draft.now in
    let i = c.loop-put.put-index in
    let inv = c.loop-put.invariant in
    let puts = c.args.puts.now in
    let more : take (i + 1) puts ≡ take i puts ++ get_or puts i no_put ∷ [] = take_more puts i no_put c.loop-put-test.true in
    let all : flat_map written_put (take (i + 1) puts) ≡ flat_map written_put (take i puts) ++ written_put (get_or puts i no_put) = ap (flat_map written_put) more ∙ flat-push written_put (take i puts) (get_or puts i no_put) in
    let s = step told (unit_of d) (516 * i) 516 (516 * (i + 1)) (flat_map written_put (take i puts)) (written_put (get_or puts i no_put)) (flat_map written_put (take (i + 1) puts)) d c.loop-put.draft c.write_put.new.draft
    (o c.args.host.now) (o c.loop-put.host) (o c.write_put.new.host) all (omega arith) inv.keeps inv.writes (writes-done c.in_ok-write_put.ensures.keeps) c.in_ok-write_put.ensures.ok in
    record {
      keeps = s.keeps;
      writes = s.writes;
      put = omega (arith, inv.put, c.in_ok-write_put.ensures.ok.put, written-size (get_or puts i no_put).0 (get_or puts i no_put).1 c.write_put.ensures.size);
    }

pub returns-clause-keeps : goal.returns-clause-keeps
returns-clause-keeps g c =
    let o = g.H.Host.outside in
    let i = c.loop-put.put-index in
    keeps-widen g.H.Host.told (unit_of c.args.draft.now) (516 * i) (516 * length c.args.puts.now)
    (o c.args.host.now) (o c.loop-put.host) (omega (arith, c.loop-put-test.false, c.loop-put.auto.put-index-end))
    (writes-ok c.loop-put.invariant.keeps)
