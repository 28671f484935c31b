-- No unit has a card.
use Rattle.std.proofs.Common.{◌≡◌, ◌<◌, ◌+◌, ◌∙◌, refl, ap, sym, arith, length, length-append, map, take, get_or, List, ◌∷◌, [], ◌++◌, None, ℕ, Bool, false}
use Rattle.std.proofs.lemmas.List.{take_more, map-append}
use Rattle.newt_engine_units.specs.declared.units.Slot.{Slot}
use Rattle.newt_engine_units.specs.Stands.{unmounted}
use Rattle.newt_engine_units.proofs.Slots.{fresh-dues, fresh-stands, fresh-marks, get-take}
use Rattle.newt_engine_units.proofs.Turns.{world-fresh}
use Rattle.newt_engine_units.proofs.units.Units.of.Goals as goal

pub returns-clause-stands : goal.returns-clause-stands
returns-clause-stands g c told outside known durable =
    let size : length c.loop-has.slots.items ≡ 8 = omega (arith, c.loop-has.invariant.1, c.loop-has-test.false, c.loop-has.auto.has-index-end) in
    fresh-stands (record { alloc = c.args.alloc; slots = c.loop-has.slots; default = None; minute = 0 }) (take c.loop-has.has-index c.args.attached) c.loop-has.invariant.0 size refl
    g.C.Card.place g.C.Card.stands told outside (λ u has h. known u has (get-take c.loop-has.has-index u c.args.attached has h)) durable

pub returns-clause-world : goal.returns-clause-world
returns-clause-world g c outside =
    let size : length c.loop-has.slots.items ≡ 8 = omega (arith, c.loop-has.invariant.1, c.loop-has-test.false, c.loop-has.auto.has-index-end) in
    world-fresh g.C.Card.reads (record { alloc = c.args.alloc; slots = c.loop-has.slots; default = None; minute = 0 }) outside
    (fresh-dues (record { alloc = c.args.alloc; slots = c.loop-has.slots; default = None; minute = 0 }) (take c.loop-has.has-index c.args.attached) c.loop-has.invariant.0 size refl)
    (fresh-marks (record { alloc = c.args.alloc; slots = c.loop-has.slots; default = None; minute = 0 }) (take c.loop-has.has-index c.args.attached) c.loop-has.invariant.0 size refl) refl refl

-- one slot more
slots-more : {C : Type 0} (had : List Bool) (slots later : List (Slot C)) (at : ℕ) → slots ≡ map unmounted (take at had) → at < length had
    → later ≡ slots ++ unmounted (get_or had at false) ∷ [] → later ≡ map unmounted (take (at + 1) had)
slots-more had slots later at so below more =
    more ∙ ap (λ slots. slots ++ unmounted (get_or had at false) ∷ []) so ∙ sym (map-append unmounted (take at had) (get_or had at false ∷ []))
    ∙ sym (ap (map unmounted) (take_more had at false below))

size-more : {X : Type 0} (slots later : List X) (slot : X) (at : ℕ) → length slots ≡ at → later ≡ slots ++ slot ∷ [] → length later ≡ at + 1
size-more slots later slot at size more = ap length more ∙ length-append slots (slot ∷ []) ∙ ap (λ n. n + 1) size

pub loop-has-preserved : goal.loop-has-preserved
loop-has-preserved g c = (
  slots-more c.args.attached c.loop-has.slots.items _ c.loop-has.has-index c.loop-has.invariant.0 (omega arith) c.in_ok-push.ensures.items,
  size-more c.loop-has.slots.items _ _ c.loop-has.has-index c.loop-has.invariant.1 c.in_ok-push.ensures.items,
)
