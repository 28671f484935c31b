use Rattle.std.proofs.Common.{◌≡◌, ℕ, ◌+◌, ◌*◌, ◌<◌, ◌≤◌, List, [], ◌∷◌, ◌++◌, length, take, get_or, ◌∙◌, ap, arith, length-append, Bool}
use Rattle.std.specs.List.{flat_map, filter}
use Rattle.std.proofs.lemmas.List.{take_more}
use Rattle.newt_spec_image.specs.Pages.{written_delete}
use Rattle.newt_journal.specs.Draft.{unit_of}
use Rattle.newt_pagelog.specs.Kept.{is_kept}
use Rattle.newt_pagelog.proofs.Stepping.{keeps-start, keeps-two, keeps-widen, keeps-on, writes-none, step, deletes-size, filter-take, writes-done, writes-failed}
use Rattle.std.proofs.lemmas.List.Elements.{filter-append}
use Rattle.std.proofs.lemmas.Grind.{flat_map-append}
use Rattle.newt_pagelog.proofs.write.write_deletes.Goals as goal

pub loop-number-init : goal.loop-number-init
loop-number-init g c =
    let o = g.H.Host.outside c.args.host.now in
    record {
      keeps = keeps-start g.H.Host.told (unit_of c.args.draft.now) o c.requires.steady;
      writes = writes-none g.H.Host.told c.args.draft.now o c.requires.draft c.requires.steady;
    }

more : (p : ℕ → Bool) (ns : List ℕ) (i : ℕ) → i < length ns → filter p (take (i + 1) ns) ≡ filter p (take i ns) ++ filter p (get_or ns i 0 ∷ [])
more p ns i low = ap (filter p) (take_more ns i 0 low) ∙ filter-append p (take i ns) (get_or ns i 0 ∷ [])

few : (p : ℕ → Bool) (ns : List ℕ) (i : ℕ) → i < length ns → length (filter p (take i ns)) + length (filter p (get_or ns i 0 ∷ [])) ≤ length (filter p ns)
few p ns i low = omega (arith, filter-take p ns (i + 1), ap (λ (l : List ℕ). length l) (more p ns i low), length-append (filter p (take i ns)) (filter p (get_or ns i 0 ∷ [])))

pub write_delete-requires-clause-room : goal.write_delete-requires-clause-room
write_delete-requires-clause-room g c =
    let p = is_kept c.args.pages.now.entries in
    let ns = c.args.deletes.now in
    let i = c.loop-number.number-index in
    let inv = c.loop-number.invariant in
    omega (arith, inv.writes.put, inv.writes.len, c.requires.room, deletes-size (filter p (take i ns)), few p ns i c.loop-number-test.true)

pub returns-in_err-write_delete-clause-keeps : goal.returns-in_err-write_delete-clause-keeps
returns-in_err-write_delete-clause-keeps g c =
    let o = g.H.Host.outside in
    let told = g.H.Host.told in
    let u = unit_of c.args.draft.now in
    let p = is_kept c.args.pages.now.entries in
    let ns = c.args.deletes.now in
    let i = c.loop-number.number-index in
    let inv = c.loop-number.invariant in
    let m = 4 * length (filter p (take i ns)) in
    let n = 4 * length (filter p (get_or ns i 0 ∷ [])) in
    keeps-widen told u (m + n) (4 * length (filter p ns)) (o c.args.host.now) (o c.write_delete.new.host) (omega (arith, few p ns i c.loop-number-test.true))
    (keeps-two told u m n (o c.args.host.now) (o c.loop-number.host) (o c.write_delete.new.host) inv.writes.same inv.keeps
    (keeps-on told (unit_of c.loop-number.draft) u n (o c.loop-number.host) (o c.write_delete.new.host) inv.writes.on (writes-failed c.from_residual.result c.from_residual.ensures.0 c.in_err-write_delete.ensures.keeps)))

pub loop-number-preserved : goal.loop-number-preserved
loop-number-preserved g c =
    let o = g.H.Host.outside in
    let told = g.H.Host.told in
    let d = c.args.draft.now in
    let p = is_kept c.args.pages.now.entries in
    let ns = c.args.deletes.now in
    let i = c.loop-number.number-index in
    let inv = c.loop-number.invariant in
    let front : List ℕ = filter p (take i ns) in
    let next : List ℕ = filter p (get_or ns i 0 ∷ []) in
    let whole : filter p (take (i + 1) ns) ≡ front ++ next = more p ns i c.loop-number-test.true in
    let all : flat_map written_delete (filter p (take (i + 1) ns)) ≡ flat_map written_delete front ++ flat_map written_delete next = ap (flat_map written_delete) whole ∙ flat_map-append written_delete front next in
    let s = step told (unit_of d) (4 * length front) (4 * length next) (4 * length (filter p (take (i + 1) ns))) (flat_map written_delete front) (flat_map written_delete next) (flat_map written_delete (filter p (take (i + 1) ns)))
    d c.loop-number.draft c.write_delete.new.draft (o c.args.host.now) (o c.loop-number.host) (o c.write_delete.new.host) all
    (omega (arith, ap (λ (l : List ℕ). length l) whole, length-append front next)) inv.keeps inv.writes (writes-done c.in_ok-write_delete.ensures.keeps) c.in_ok-write_delete.ensures.ok in
    record { keeps = s.keeps; writes = s.writes }
