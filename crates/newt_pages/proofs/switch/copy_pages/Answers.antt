use Rattle.std.proofs.Common.{◌≡◌, ℕ, ◌+◌, ◌<◌, nat_eq, length, sym, ◌∙◌, ap, subst, arith, length-append}
use Rattle.std.specs.Map.{lookup}
use Rattle.newt_journal.specs.Draft.{unit_of}
use Rattle.newt_journal.specs.declared.journal.Journal.{Journal}
use Rattle.newt_pagelog.specs.Placed.{ArePlaced, Places}
use Rattle.newt_pagelog.proofs.Stepping.{NoMore, both, stays-two, stays-on, stays-with, steady-on, writes-done, writes-failed, writes-ok, writes-widen}
use Rattle.newt_pages.specs.Copies.{below, copying, place_at, CopiesAll}
use Rattle.newt_pages.proofs.Copying.{stays-start, copies-none, copies-two, copies-same, below-none, below-more, below-room, bound-is}
use Rattle.newt_pages.proofs.switch.copy_pages.Goals as goal

pub loop-number-init : goal.loop-number-init
loop-number-init g c =
    let o = g.H.Host.outside c.args.host.now in
    let told = g.H.Host.told in
    let d = c.args.draft.now in
    record {
      copies = copies-same told (unit_of d) _ (below 0 c.args.places.now.entries) d d o o (sym (below-none c.args.places.now.entries)) (copies-none told d o c.requires.copying.draft_of.stands c.requires.copying.draft_of.steady);
      stays = stays-with _ _ (ap (λ (l : Places). copying (length l)) (sym (below-none c.args.places.now.entries))) (stays-start told (unit_of d) o c.requires.copying.draft_of.steady);
    }

pub copy_number-requires-clause-room : goal.copy_number-requires-clause-room
copy_number-requires-clause-room g c =
    let inv = c.loop-number.invariant in
    omega (arith, inv.copies.put, inv.copies.writes.len, c.requires.room, below-room c.loop-number.number 65536 c.args.places.now.entries (omega (arith, c.loop-number-test.true, c.requires.bound.small)))

pub copy_number-requires-clause-copying : goal.copy_number-requires-clause-copying
copy_number-requires-clause-copying g c =
    let w = c.loop-number.invariant.copies.writes in
    record {
      draft_of = record {
        stands = w.draft;
        steady = λ tells. steady-on (unit_of c.args.draft.now) (unit_of c.loop-number.draft) (g.H.Host.outside c.loop-number.host).now (sym w.on) (w.steady tells);
      };
      placed = subst (λ (j : Journal). ArePlaced j c.args.places.now.entries) (sym w.holds) c.requires.copying.placed;
    }

-- so many pages more
more_pages : (n : ℕ) (places : Places) → n < 65536
    → NoMore (both (copying (length (below n places))) (copying (length (place_at n (lookup (nat_eq n) places))))) (copying (length (below 65536 places)))
more_pages n places low = record {
  programs = omega (arith, below-room n 65536 places low);
  fetches = omega (arith, below-room n 65536 places low);
  erases = omega arith;
  syncs = omega arith;
}

next_page : (n : ℕ) (places : Places)
    → NoMore (both (copying (length (below n places))) (copying (length (place_at n (lookup (nat_eq n) places))))) (copying (length (below (n + 1) places)))
next_page n places =
    let size = ap (λ (l : Places). length l) (below-more n places) in
    let parts = length-append (below n places) (place_at n (lookup (nat_eq n) places)) in
    record {
      programs = omega (arith, size, parts);
      fetches = omega (arith, size, parts);
      erases = omega arith;
      syncs = omega arith;
    }

pub returns-in_err-copy_number-clause-stays : goal.returns-in_err-copy_number-clause-stays
returns-in_err-copy_number-clause-stays g c =
    let inv = c.loop-number.invariant in
    let n = c.loop-number.number in
    let places = c.args.places.now.entries in
    writes-widen _ _ (more_pages n places (omega (arith, c.loop-number-test.true, c.requires.bound.small)))
    (stays-two (copying (length (below n places))) (copying (length (place_at n (lookup (nat_eq n) places)))) inv.copies.writes.same inv.stays
    (stays-on (unit_of c.loop-number.draft) (unit_of c.args.draft.now) inv.copies.writes.on
    (writes-failed c.from_residual.result c.from_residual.ensures.0 c.in_err-copy_number.ensures.stays)))

pub loop-number-preserved : goal.loop-number-preserved
loop-number-preserved g c =
    let o = g.H.Host.outside in
    let told = g.H.Host.told in
    let d = c.args.draft.now in
    let u = unit_of d in
    let n = c.loop-number.number in
    let places = c.args.places.now.entries in
    let inv = c.loop-number.invariant in
    record {
      copies = copies-two told u (below n places) (place_at n (lookup (nat_eq n) places)) (below (n + 1) places) d c.loop-number.draft c.copy_number.new.draft (o c.args.host.now) (o c.loop-number.host) (o c.copy_number.new.host)
          (below-more n places) inv.copies c.in_ok-copy_number.ensures.ok;
      stays = writes-widen _ _ (next_page n places)
          (stays-two (copying (length (below n places))) (copying (length (place_at n (lookup (nat_eq n) places)))) inv.copies.writes.same inv.stays
          (stays-on (unit_of c.loop-number.draft) u inv.copies.writes.on (writes-done c.in_ok-copy_number.ensures.stays)));
    }

pub returns-clause-ok : goal.returns-clause-ok
returns-clause-ok g c =
    let o = g.H.Host.outside in
    let d = c.args.draft.now in
    let places = c.args.places.now.entries in
    let end : c.loop-number.number ≡ c.args.bound = omega (arith, c.loop-number-test.false, c.loop-number.auto.number-end) in
    subst (λ (l : Places). CopiesAll g.H.Host.told (unit_of d) l d c.loop-number.draft (o c.args.host.now) (o c.loop-number.host))
    (ap (λ (n : ℕ). below n places) end ∙ bound-is c.args.bound places c.requires.bound) c.loop-number.invariant.copies

pub returns-clause-stays : goal.returns-clause-stays
returns-clause-stays g c =
    let places = c.args.places.now.entries in
    let end : c.loop-number.number ≡ c.args.bound = omega (arith, c.loop-number-test.false, c.loop-number.auto.number-end) in
    stays-with _ _ (ap (λ (l : Places). copying (length l)) (ap (λ (n : ℕ). below n places) end ∙ bound-is c.args.bound places c.requires.bound)) (writes-ok c.loop-number.invariant.stays)
