-- What the watches are told after a reply is what the world after the step tells.
use Rattle.std.proofs.Common.{◌≡◌, refl, ap, sym, ◌∙◌, subst, ℕ, List, [], ◌∷◌, true, false, Bool, not, ◌==◌, ◌&&◌, nat_le, length, take, Option, Some, None, option_map, option_and_then, unwrap_or, if◌then◌else◌}
use Rattle.std.specs.Prelude.{is_none}
use Rattle.newt_base.specs.Refusals.{first_of}
use Rattle.newt_base.specs.declared.Refusal.{Refusal}
use Rattle.newt_notify.specs.declared.note.Kind.TheVariants.{Remove}
use Rattle.newt_spec_graph.proofs.Lists.{both-ways, none-some}
use Rattle.newt_spec_store.specs.Store.{Soup, Store}
use Rattle.newt_spec_whole.specs.Events.{Event, add_event, entry_event, events, next_sig}
use Rattle.newt_spec_world.specs.Answer.{answer, answered, fields, new_uid, or_nil}
use Rattle.newt_spec_world.specs.Refused.{checks}
use Rattle.newt_spec_world.specs.Reply.{Reply}
use Rattle.newt_spec_world.specs.Step.{Step, plain, found, thrown, halfway, looks_anew, looks_at, moves_away, unsure_look}
use Rattle.newt_spec_world.specs.World.{World, mounted_store, soup_in}
use Rattle.newt_spec_world.specs.declared.command.Command.{Command}
use Rattle.newt_spec_world.specs.declared.command.Command.TheVariants as command
use Rattle.newt_laws_world.proofs.Kept.{all-false}
use Rattle.newt_laws_steps.proofs.Replying.{is_fault}
use Rattle.newt_laws_whole.specs.Steps.{has_taken, is_past, notes_after}
use Rattle.newt_engine_units.specs.Looks.{next_uid_on}
use Rattle.newt_engine_units.specs.declared.units.Units.{Units}
use Rattle.newt_engine_whole.specs.Told.{HasSig, all_due, due_told, event_of, failed_due}
use Rattle.newt_engine_whole.specs.declared.due.Due.{Due}
use Rattle.newt_engine_whole.specs.declared.due.Due.TheVariants.{Nothing, Soup as Made, One, Two}

-- ---- the signature of a soup that is made

answer-sig : (w : World) (c : Command) → is_fault (answer w c).1 ≡ false → HasSig w c (answer w c).1
unfolding answer checks fields
answer-sig w (command.Soup u s) good = go (first_of (checks w (command.Soup u s))) refl good
  where
    made : (o : Option Store) → is_none o ≡ false → or_nil (λ t. Reply.number t.next_soup) o ≡ Reply.number (unwrap_or (option_map (λ t. t.next_soup) o) 0)
    made None h = cc
    made (Some t) h = refl

    go : (o : Option Refusal) → first_of (checks w (command.Soup u s)) ≡ o → is_fault (answered w (command.Soup u s) o).1 ≡ false
        → (answered w (command.Soup u s) o).1 ≡ Reply.number (next_sig w u)
    go (Some r) e k = absurd (both-ways (sym k))
    go None e k = made (mounted_store w u) (all-false (checks w (command.Soup u s)) e).1.0
answer-sig w _ good = tt

looked-sig : (w : World) (c : Command) (u : ℕ) (r : Reply) → looks_at c ≡ Some u → HasSig w c r
looked-sig w (command.Soup x s) u r h = absurd (none-some u h)
looked-sig w _ u r h = tt

looked : (w : World) (c : Command) (u : ℕ) → looks_anew w c ≡ Some u → (x : ℕ) × (looks_at c ≡ Some x)
looked w c u h = go (looks_at c) h
  where
    go : (o : Option ℕ) → option_and_then (unsure_look w) o ≡ Some u → (x : ℕ) × (o ≡ Some x)
    go None k = absurd (none-some u k)
    go (Some x) k = (x, refl)

-- the reply of a step that is none of a failure has it
pub step-sig : (w : World) (c : Command) (v : World) (r : Reply) → Step w c v r → is_fault r ≡ false → HasSig w c r
step-sig w c v r (plain none is) good =
    let same : (answer w c).1 ≡ r = ap (λ (a : World × Reply). a.1) is in
    subst (HasSig w c) same (answer-sig w c (ap is_fault same ∙ good))
step-sig w c v r (found {u} looks has is) good = let at = looked w c u looks in looked-sig w c at.0 r at.1
step-sig w c v r (thrown {u} next is) good = absurd (both-ways (sym good ∙ ap is_fault is))
step-sig w c v r (halfway {u} moves ok next is) good = absurd (both-ways (sym good ∙ ap is_fault is))

-- ---- the notes

-- a move, and no other command, has two notes
abbrev is_move : Command → Bool
is_move (command.Move t s uid x y) = true
is_move c = false

few : (w : World) (c : Command) → is_move c ≡ false → nat_le (length (events w c)) 1 ≡ true
unfolding events
few w (command.Move t s uid x y) h = absurd (both-ways (sym h))
few w _ h = refl

stays : (c : Command) (u : ℕ) → is_move c ≡ false → moves_away c u ≡ false
stays (command.Move t s uid x y) u h = absurd (both-ways (sym h))
stays _ u h = refl

-- a reply to a command, if it is done
abbrev some_reply : World → Command → Reply
some_reply w (command.Soup u s) = Reply.number (next_sig w u)
some_reply w c = Reply.done

some_sig : (w : World) (c : Command) → HasSig w c (some_reply w c)
some_sig w (command.Soup u s) = refl
some_sig w _ = tt

module _ {C : Type 0} (soups : C → Store) (units : Units C) (w v : World) where
  -- what is told of two notes where the device of a unit failed
  abbrev told_first : ℕ → Event → Event → List Event
  told_first u e f =
      if ((f.1.unit == u) && not (e.1.unit == u)) && elim (next_uid_on soups units e.1.unit e.0) [ None ↦ false | Some next ↦ not (next == e.1.uid) ]
      then e ∷ [] else []

  both-of : (due : Due) (r : Reply) (e f : Event) → all_due due r ≡ e ∷ f ∷ [] → (u : ℕ) → failed_due soups units due u ≡ told_first u e f
  both-of Nothing r e f h u = absurd (cc)
  both-of (Made x name) (Reply.number n) e f h u = absurd (cc)
  both-of (Made x name) _ e f h u = absurd (cc)
  both-of (One a) r e f h u = absurd (cc)
  both-of (Two a b) r e f h u =
      let first : event_of a ≡ e = cc in
      let second : event_of b ≡ f = cc in
      ap (λ (g : Event). told_first u g (event_of b)) first ∙ ap (told_first u e) second

  few-of : (due : Due) (r : Reply) (es : List Event) → all_due due r ≡ es → nat_le (length es) 1 ≡ true → (u : ℕ) → failed_due soups units due u ≡ []
  few-of Nothing r es h k u = refl
  few-of (Made x name) r es h k u = refl
  few-of (One a) r es h k u = refl
  few-of (Two a b) r es h k u = absurd (both-ways (ap (λ (xs : List Event). nat_le (length xs) 1) h ∙ k))

  past-of : (n : ℕ) (o : Option Soup) → elim (option_map (λ (p : Soup). p.next_uid) o) [ None ↦ false | Some next ↦ not (next == n) ] ≡ is_past n o
  past-of n None = refl
  past-of n (Some p) = refl

  module _ (due : Due) (uids : (u : ℕ) (name : List ℕ) → option_map (λ p. p.next_uid) (soup_in v u name) ≡ next_uid_on soups units u name) where
    failed-move : (t uid x : ℕ) (s y : List ℕ) → let c = command.Move t s uid x y in ((r : Reply) → HasSig w c r → all_due due r ≡ events w c)
        → (u : ℕ) → failed_due soups units due u ≡ notes_after w c v (Reply.thrown u)
    unfolding events
    failed-move t uid x s y is u =
        both-of due Reply.done (add_event w x y) (entry_event w Remove t s uid) (is Reply.done tt) u
        ∙ ap (λ (b : Bool). if ((t == u) && not (x == u)) && b then add_event w x y ∷ [] else [])
        (ap (λ (o : Option ℕ). let b : Bool = elim o [ None ↦ false | Some next ↦ not (next == new_uid w x y) ] in b) (sym (uids x y)) ∙ past-of (new_uid w x y) (soup_in v x y))

    failed-other : (c : Command) → is_move c ≡ false → ((r : Reply) → HasSig w c r → all_due due r ≡ events w c)
        → (u : ℕ) → failed_due soups units due u ≡ notes_after w c v (Reply.thrown u)
    failed-other c other is u = few-of due (some_reply w c) (events w c) (is (some_reply w c) (some_sig w c)) (few w c other) u
        ∙ sym (ap (λ (b : Bool). if b && has_taken w c v then take 1 (events w c) else []) (stays c u other))

    failed-same : (c : Command) → ((r : Reply) → HasSig w c r → all_due due r ≡ events w c) → (u : ℕ) → failed_due soups units due u ≡ notes_after w c v (Reply.thrown u)
    failed-same (command.Move t s uid x y) is u = failed-move t uid x s y is u
    failed-same c is u = failed-other c refl is u

    pub told-same : (c : Command) (r : Reply) → ((r : Reply) → HasSig w c r → all_due due r ≡ events w c) → (is_fault r ≡ false → HasSig w c r)
        → due_told soups units due r ≡ notes_after w c v r
    told-same c (Reply.refused x) is sig = refl
    told-same c (Reply.thrown u) is sig = failed-same c is u
    told-same c r is sig = is r (sig refl)
