use Rattle.std.proofs.Common.{◌≡◌, ℕ, ◌+◌, ◌*◌, List, [], ◌∷◌, ◌++◌, map, length, ◌∙◌, ap, arith, length-append}
use Rattle.std.specs.List.{flat_map}
use Rattle.std.proofs.lemmas.List.{map-append}
use Rattle.std.specs.Map.Iter.{deref_pair}
use Rattle.newt_spec_image.specs.Pages.{written_put}
use Rattle.newt_journal.specs.Draft.{unit_of}
use Rattle.newt_pagelog.proofs.Stepping.{keeps-start, keeps-two, keeps-widen, keeps-on, writes-none, writes-same, flat-push, step, written-size, writes-done, writes-failed, writes-ok}
use Rattle.std.proofs.lemmas.Map.Iter.{iter_turn, iter_end}
use Rattle.newt_pagelog.specs.Kept.{Entries}
use Rattle.newt_pageplain.proofs.write.write_pages.Goals as goal

pub loop-number-init : goal.loop-number-init
loop-number-init g c =
    let o = g.H.Host.outside c.args.host.now in
    record {
      keeps = keeps-start g.H.Host.told (unit_of c.args.draft.now) o c.requires.steady;
      writes = writes-none g.H.Host.told c.args.draft.now o c.requires.draft c.requires.steady;
      put = omega arith;
    }

pub write_put-requires-clause-room : goal.write_put-requires-clause-room
write_put-requires-clause-room g c =
    let inv = c.loop-number.invariant in
    let start : c.into_iter-number-iterator.result ≡ c.args.pages.now.entries = c.into_iter-number-iterator.ensures.into_iter_gives ∙ c.iter-number-items.ensures.rest in
    let turn = iter_turn deref_pair c.args.pages.now.entries c.loop-number.yielded c.into_iter-number-iterator.result c.loop-number.number-iterator c.next.new.self c.next.result start c.loop-number.yielded_by (c.in-Some.number, c.in-Some.page) c.in-Some.is c.next.ensures.steps in
    omega (arith, inv.put, inv.writes.len, c.requires.room, turn.0)

pub returns-in_err-write_put-clause-keeps : goal.returns-in_err-write_put-clause-keeps
returns-in_err-write_put-clause-keeps g c =
    let o = g.H.Host.outside in
    let told = g.H.Host.told in
    let u = unit_of c.args.draft.now in
    let inv = c.loop-number.invariant in
    let start : c.into_iter-number-iterator.result ≡ c.args.pages.now.entries = c.into_iter-number-iterator.ensures.into_iter_gives ∙ c.iter-number-items.ensures.rest in
    let turn = iter_turn deref_pair c.args.pages.now.entries c.loop-number.yielded c.into_iter-number-iterator.result c.loop-number.number-iterator c.next.new.self c.next.result start c.loop-number.yielded_by (c.in-Some.number, c.in-Some.page) c.in-Some.is c.next.ensures.steps in
    let i = length c.loop-number.yielded in
    keeps-widen told u (516 * i + 516) (516 * length c.args.pages.now.entries) (o c.args.host.now) (o c.write_put.new.host) (omega (arith, turn.0))
    (keeps-two told u (516 * i) 516 (o c.args.host.now) (o c.loop-number.host) (o c.write_put.new.host) inv.writes.same inv.keeps (keeps-on told (unit_of c.loop-number.draft) u 516 (o c.loop-number.host) (o c.write_put.new.host) inv.writes.on (writes-failed c.from_residual.result c.from_residual.ensures.0 c.in_err-write_put.ensures.keeps)))

pub loop-number-preserved : goal.loop-number-preserved
loop-number-preserved g c =
    let o = g.H.Host.outside in
    let told = g.H.Host.told in
    let d = c.args.draft.now in
    let inv = c.loop-number.invariant in
    let i = length c.loop-number.yielded in
    let done : Entries = map deref_pair c.loop-number.yielded in
    let p : ℕ × List ℕ = (c.in-Some.number.now, c.in-Some.page.now) in
    let yielded' = c.loop-number.yielded ++ (c.in-Some.number, c.in-Some.page) ∷ [] in
    let more : map deref_pair yielded' ≡ done ++ p ∷ [] = map-append deref_pair c.loop-number.yielded ((c.in-Some.number, c.in-Some.page) ∷ []) in
    let all : flat_map written_put (map deref_pair yielded') ≡ flat_map written_put done ++ written_put p = ap (flat_map written_put) more ∙ flat-push written_put done p in
    let long : length yielded' ≡ i + 1 = length-append c.loop-number.yielded ((c.in-Some.number, c.in-Some.page) ∷ []) in
    let s = step told (unit_of d) (516 * i) 516 (516 * length yielded') (flat_map written_put done) (written_put p) (flat_map written_put (map deref_pair yielded')) d c.loop-number.draft c.write_put.new.draft
    (o c.args.host.now) (o c.loop-number.host) (o c.write_put.new.host) all (omega (arith, long)) inv.keeps inv.writes (writes-done c.in_ok-write_put.ensures.keeps) c.in_ok-write_put.ensures.ok in
    record {
      keeps = s.keeps;
      writes = s.writes;
      put = omega (arith, inv.put, long, c.in_ok-write_put.ensures.ok.put, written-size p.0 p.1 c.write_put.ensures.size);
    }

pub returns-clause-ok : goal.returns-clause-ok
returns-clause-ok g c =
    let o = g.H.Host.outside in
    let inv = c.loop-number.invariant in
    let start : c.into_iter-number-iterator.result ≡ c.args.pages.now.entries = c.into_iter-number-iterator.ensures.into_iter_gives ∙ c.iter-number-items.ensures.rest in
    let end = iter_end deref_pair c.args.pages.now.entries c.loop-number.yielded c.into_iter-number-iterator.result c.loop-number.number-iterator c.next.new.self c.next.result start c.loop-number.yielded_by c.in-None.is c.next.ensures.steps in
    record {
      writes = writes-same g.H.Host.told (unit_of c.args.draft.now) (flat_map written_put (map deref_pair c.loop-number.yielded)) (flat_map written_put c.args.pages.now.entries) c.args.draft.now c.loop-number.draft (o c.args.host.now) (o c.loop-number.host)
          (ap (flat_map written_put) end.0) inv.writes;
      put = omega (arith, inv.put, end.1);
    }

pub returns-clause-keeps : goal.returns-clause-keeps
returns-clause-keeps g c =
    let o = g.H.Host.outside in
    let inv = c.loop-number.invariant in
    let start : c.into_iter-number-iterator.result ≡ c.args.pages.now.entries = c.into_iter-number-iterator.ensures.into_iter_gives ∙ c.iter-number-items.ensures.rest in
    let end = iter_end deref_pair c.args.pages.now.entries c.loop-number.yielded c.into_iter-number-iterator.result c.loop-number.number-iterator c.next.new.self c.next.result start c.loop-number.yielded_by c.in-None.is c.next.ensures.steps in
    keeps-widen g.H.Host.told (unit_of c.args.draft.now) (516 * length c.loop-number.yielded) (516 * length c.args.pages.now.entries) (o c.args.host.now) (o c.loop-number.host) (omega (arith, end.1)) (writes-ok inv.keeps)
