use Rattle.std.proofs.Common.{◌≡◌, ℕ, ◌<◌, ◌≤◌, nat_eq, length, Some, None, refl, sym, ◌∙◌, ap, subst, arith, ⊎_elim}
use Rattle.std.specs.Map.{lookup}
use Rattle.std.specs.Option.{is_some, option_map}
use Rattle.std.proofs.lemmas.Bool.{cases_lt}
use Rattle.std.specs.HashMap as hash
use Rattle.std.proofs.Common.{HashMap, BuildHasherDefault, FoldHasher}
use Rattle.newt_pagebook.proofs.Tests.{the_some, none_is}
use Rattle.newt_pagelog.specs.Kept.{page_in, is_kept}
use Rattle.newt_pagelog.specs.Placed.{Places, lifted}
use Rattle.newt_pagelog.proofs.Placing.{lookup-lifted}
use Rattle.newt_pages.specs.Copies.{below}
use Rattle.newt_pages.proofs.Copying.{below-none, bound-is, bound-none}
use Rattle.newt_pages.proofs.Moving.{stand-same, room-one, more-rest, more-moved, more-kept, more-placed, more-long, none-is, none-moved, none-placed}
use Rattle.newt_pages.proofs.table.move_pages.Goals as goal
use Rattle.newt_pages.proofs.table.move_pages.Goals.{then-contains_key, else-contains_key}

abbrev Map : Type 0
Map = HashMap ℕ ℕ (BuildHasherDefault FoldHasher)

pub loop-number-init : goal.loop-number-init
loop-number-init c = record {
  at = omega (arith, ap (λ (l : Places). length l) (below-none c.args.places.now.entries));
  rest = λ q low. refl;
  moved = λ old new stand q low. absurd (omega (arith, low));
  kept = λ q. refl;
  placed = λ j low high q a below. absurd (omega (arith, below));
  spare = refl;
  len = refl;
  unique = c.requires.unique;
}

pub overflow_add-at : goal.overflow_add-at
overflow_add-at c =
    let fn = c.args.places.now.entries in
    let n = c.loop-number.number-counter in
    let inv = c.loop-number.invariant in
    let there = the_some (lookup (nat_eq n) fn) (ap is_some (sym (inv.rest n (omega arith))) ∙ sym c.contains_key.ensures ∙ c.if-contains_key.true) in
    omega (arith, inv.at, room-one fn n 65536 there.0 (omega (arith, c.loop-number-test.true, c.requires.bound.small)) there.1, c.requires.near)

pub loop-number-preserved : goal.loop-number-preserved
loop-number-preserved c =
    let fn = c.args.places.now.entries in
    let n = c.loop-number.number-counter in
    let old = c.loop-number.places.entries in
    let first = c.args.first in
    let inv = c.loop-number.invariant in
    let low_n : n < 65536 = omega (arith, c.loop-number-test.true, c.requires.bound.small) in
    let here : lookup (nat_eq n) old ≡ lookup (nat_eq n) fn = inv.rest n (omega arith) in
    elim c.if-contains_key.branch [
      | then-contains_key w ↦
          let new = w.move_page.new.places.entries in
          let es : c.if-contains_key.places.entries ≡ new = ap (λ (m : Map). m.entries) w.places-is in
          let e = w.move_page.ensures in
          let there = the_some (lookup (nat_eq n) fn) (ap is_some (sym here) ∙ sym c.contains_key.ensures ∙ w.if-contains_key.true) in
          let p = there.0 in
          record {
            at = omega (arith, w.at-is, inv.at, more-long fn old new n c.loop-number.at p first there.1 e.updates);
            rest = λ q low. ap (λ (l : Places). lookup (nat_eq q) l) es ∙ more-rest fn old new n c.loop-number.at p first there.1 e.updates inv.rest q low;
            moved = λ f g stand q low. ap (λ (l : Places). page_in (lifted g l) q) es ∙ more-moved fn old new n c.loop-number.at p first there.1 e.updates f g inv.at stand (inv.moved f g) q low;
            kept = λ q. ap (λ (l : Places). is_kept l q) es ∙ more-kept fn old new n c.loop-number.at p first there.1 e.updates inv.kept q;
            placed = λ j low high q a less is. more-placed fn old new n c.loop-number.at p first there.1 e.updates j
                (record { small = low_n; low = omega (arith, inv.at, low); high = omega (arith, inv.at, high, room-one fn n 65536 p low_n there.1) }) (inv.placed j low high) q a less
                (sym (ap (λ (l : Places). lookup (nat_eq q) l) es) ∙ is);
            spare = ap (λ (m : Map). hash.spare m) w.places-is ∙ e.room.spare ∙ inv.spare;
            len = ap (λ (l : Places). length l) es ∙ e.room.len ∙ inv.len;
            unique = subst (λ (m : Map). hash.IsUnique nat_eq m) (sym w.places-is) e.room.unique;
          }
      | else-contains_key w ↦
          let es : c.if-contains_key.places.entries ≡ old = ap (λ (m : Map). m.entries) w.places-is in
          let none : lookup (nat_eq n) fn ≡ None = none_is (lookup (nat_eq n) fn) (ap is_some (sym here) ∙ sym c.contains_key.ensures ∙ w.if-contains_key.false) in
          record {
            at = omega (arith, w.at-is, inv.at, ap (λ (l : Places). length l) (none-is fn old n first none here));
            rest = λ q low. ap (λ (l : Places). lookup (nat_eq q) l) es ∙ inv.rest q (omega (arith, low));
            moved = λ f g stand q low. ap (λ (l : Places). page_in (lifted g l) q) es ∙ none-moved fn old n first none here f g stand (inv.moved f g) q low;
            kept = λ q. ap (λ (l : Places). is_kept l q) es ∙ inv.kept q;
            placed = λ j low high q a less is. none-placed fn old n first none here j (inv.placed j low high) q a less (sym (ap (λ (l : Places). lookup (nat_eq q) l) es) ∙ is);
            spare = ap (λ (m : Map). hash.spare m) w.places-is ∙ inv.spare;
            len = ap (λ (l : Places). length l) es ∙ inv.len;
            unique = subst (λ (m : Map). hash.IsUnique nat_eq m) (sym w.places-is) inv.unique;
          }
    ]

pub returns-clause-next : goal.returns-clause-next
returns-clause-next c =
    let fn = c.args.places.now.entries in
    let end : c.loop-number.number-counter ≡ c.args.bound = omega (arith, c.loop-number-test.false, c.loop-number.auto.number-counter-end) in
    omega (arith, c.loop-number.invariant.at, ap (λ (n : ℕ). length (below n fn)) end, c.requires.bound.all)

pub returns-clause-moves : goal.returns-clause-moves
returns-clause-moves c =
    let fn = c.args.places.now.entries in
    let bound = c.args.bound in
    let new = c.loop-number.places.entries in
    let inv = c.loop-number.invariant in
    let end : c.loop-number.number-counter ≡ bound = omega (arith, c.loop-number-test.false, c.loop-number.auto.number-counter-end) in
    let all : below c.loop-number.number-counter fn ≡ below 65536 fn = ap (λ (n : ℕ). below n fn) end ∙ bound-is bound fn c.requires.bound in
    let none : (q : ℕ) → c.loop-number.number-counter ≤ q → q < 65536 → lookup (nat_eq q) new ≡ None = λ q low high. inv.rest q low ∙ bound-none bound q fn c.requires.bound (omega (arith, end, low)) high in
    record {
      moved = λ f g stand q high. ⊎_elim
          (λ (low : q < c.loop-number.number-counter). inv.moved f g (stand-same g c.args.first (lifted f (below 65536 fn)) (lifted f (below c.loop-number.number-counter fn)) (ap (lifted f) (sym all)) stand) q low)
          (λ (low : c.loop-number.number-counter ≤ q).
          lookup-lifted g new q ∙ ap (option_map g) (none q low high) ∙ sym (lookup-lifted f fn q ∙ ap (option_map f) (sym (inv.rest q low) ∙ none q low high)))
          (cases_lt q c.loop-number.number-counter);
      kept = inv.kept;
      placed = λ j low high q a less is. ⊎_elim
          (λ (below_it : q < c.loop-number.number-counter). inv.placed j low high q a below_it is)
          (λ (above : c.loop-number.number-counter ≤ q). absurd (let no : Some a ≡ None = sym is ∙ none q above less in cc))
          (cases_lt q c.loop-number.number-counter);
    }

pub returns-clause-room : goal.returns-clause-room
returns-clause-room c =
    let inv = c.loop-number.invariant in
    record { spare = inv.spare; len = inv.len; unique = inv.unique }
