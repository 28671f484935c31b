-- The watches are told one note after another.
use Rattle.std.proofs.Common.{◌≡◌, refl, ap, sym, ◌∙◌, subst, ℕ, List, [], ◌∷◌, Bool, true, false, if◌then◌else◌}
use Rattle.newt_notify.specs.Watch.{kept_all}
use Rattle.newt_reply.specs.Said.{said}
use Rattle.newt_reply.specs.declared.reply.Reply.{Reply}
use Rattle.newt_reply.specs.declared.reply.Reply.TheVariants as reply
use Rattle.newt_spec_store.specs.Store.{Store}
use Rattle.newt_spec_whole.specs.Events.{Event, note_all}
use Rattle.newt_engine_units.specs.declared.units.Units.{Units}
use Rattle.newt_engine_whole.specs.Told.{Tells, all_due, due_told, event_of, failed_due, is_halfway, made}
use Rattle.newt_engine_whole.specs.declared.due.Due.{Due}
use Rattle.newt_engine_whole.specs.declared.due.Due.TheVariants.{Nothing, Soup, One, Two}
use Rattle.newt_engine_whole.specs.declared.due.Told.{Told}
use Rattle.newt_engine_whole.specs.declared.whole.Whole.{Whole}

-- ---- none, two, or the same ones

module _ {C : Type 0} where
  pub nothing-told : {it : Whole C} {notes : List Event} → notes ≡ [] → Tells notes it it
  nothing-told {it} {notes} none = record { watches = λ ws kept. kept ∙ ap (λ (es : List Event). kept_all (note_all es ws)) (sym none); world = refl; works = refl }

  pub both-told : {old mid new : Whole C} {e f : Event} → Tells (e ∷ []) old mid → Tells (f ∷ []) mid new → Tells (e ∷ f ∷ []) old new
  both-told {e = e} a b = record { watches = λ ws kept. b.watches (note_all (e ∷ []) ws) (a.watches ws kept); world = b.world ∙ a.world; works = b.works ∙ a.works }

  pub tells-as : {old new : Whole C} {es fs : List Event} → es ≡ fs → Tells es old new → Tells fs old new
  tells-as {old} {new} is tells = subst (λ (notes : List Event). Tells notes old new) is tells

-- ---- what is due

-- no other reply has the signature of a soup
pub unmade : (u : ℕ) (name : List ℕ) (r : Reply) → ((n : ℕ) → r ≡ reply.Number n → ⊥) → made u name (said r) ≡ []
unmade u name (reply.Number n) other = absurd (other n refl)
unmade u name _ other = refl

module _ {C : Type 0} (soups : C → Store) (units : Units C) where
  -- a command that is not refused, and in which no device failed, was done
  pub done-told : (due : Due) (r : Reply) → ((x : _) → r ≡ reply.Refused x → ⊥) → ((u : ℕ) → r ≡ reply.Thrown u → ⊥) → due_told soups units due (said r) ≡ all_due due (said r)
  done-told due (reply.Refused x) refused thrown = absurd (refused x refl)
  done-told due (reply.Thrown u) refused thrown = absurd (thrown u refl)
  done-told due _ refused thrown = refl

  -- where there are not two notes, none is told of a device that failed
  pub no-two : (due : Due) (u : ℕ) → ((a b : Told) → due ≡ Two a b → ⊥) → failed_due soups units due u ≡ []
  no-two Nothing u other = refl
  no-two (Soup x name) u other = refl
  no-two (One a) u other = refl
  no-two (Two a b) u other = absurd (other a b refl)

  -- the first of two is, or is not
  pub first-told : (due : Due) (a b : Told) (u : ℕ) → due ≡ Two a b → is_halfway soups units a b u ≡ true → event_of a ∷ [] ≡ failed_due soups units due u
  first-told due a b u two is = sym (ap (λ (d : Due). failed_due soups units d u) two ∙ ap (λ (t : Bool). if t then event_of a ∷ [] else []) is)

  pub none-told : (due : Due) (a b : Told) (u : ℕ) → due ≡ Two a b → is_halfway soups units a b u ≡ false → failed_due soups units due u ≡ []
  none-told due a b u two is = ap (λ (d : Due). failed_due soups units d u) two ∙ ap (λ (t : Bool). if t then event_of a ∷ [] else []) is
