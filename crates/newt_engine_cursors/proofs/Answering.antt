-- What the world answers to the commands that move a cursor.
use Rattle.std.proofs.Common.{◌≡◌, refl, ap, sym, ◌∙◌, subst, ℕ, [], ◌∷◌, Bool, true, false, List, Option, Some, None, ℤ}
use Rattle.std.specs.Prelude.{Result, Ok, Err, is_none, slice_get}
use Rattle.newt_base.specs.Refusals.{Checks, first_of}
use Rattle.newt_base.specs.declared.Refusal.{Refusal}
use Rattle.newt_base.specs.declared.Refusal.TheVariants.{Cursor as NoCursor, Key as BadKey}
use Rattle.newt_graph.specs.Graph.{RawGraph}
use Rattle.newt_spec_store.specs.Keys.{Key}
use Rattle.newt_spec_query.specs.Cursor.{Cursor, Place}
use Rattle.newt_spec_world.specs.declared.command.Command.{Command}
use Rattle.newt_spec_world.specs.declared.command.Command.TheVariants as command
use Rattle.newt_spec_world.specs.Reply.{Reply}
use Rattle.newt_spec_world.specs.World.{World, cursor, flat, hits_of, set_place, settle}
use Rattle.newt_spec_world.specs.Changed.{Step, changed, step_from, stepped, go_to_key, to_key, key_from}
use Rattle.newt_spec_world.specs.Refused.{checks, no_cursor, bad_key, on_some}
use Rattle.newt_spec_world.specs.Answer.{answer, current, fields, or_nil}
use Rattle.newt_store_change.specs.declared.fault.StoreFault.{StoreFault}
use Rattle.newt_store_change.specs.declared.fault.StoreFault.TheVariants.{Refused, Stop}
use Rattle.newt_engine_cursors.specs.Calls.{Shows}
use Rattle.newt_engine_cursors.specs.Motions.{Steers, step_of}
use Rattle.newt_engine_units.specs.Answers.{Answers}
use Rattle.newt_engine_cursors.specs.Replies.{shown_at, shown_reply}
use Rattle.newt_engine_cursors.specs.Unread.{is_unread, steps_unread, walks_unread}
use Rattle.newt_laws_answers.specs.Fetched.{pages_shown}
use Rattle.newt_laws_world.specs.Settled.{IsSettled, moves_keys}
use Rattle.newt_engine_cursors.specs.declared.show.Shown.{Shown}
use Rattle.newt_engine_cursors.specs.declared.stepping.Motion.TheVariants as motion
use Rattle.newt_engine_hits.specs.declared.ways.Way.TheVariants.{On, Back}
use Rattle.newt_engine_cursors.proofs.Answered.{refused-answer, done-answer, done-goal}

-- a command that is done shows the cursor
pub shown-answers : (w v u : World) (c : Command) (n : ℕ) (shown : Shown) → first_of (checks w c) ≡ None → changed w c ≡ u → ((v : World) → fields w v c ≡ or_nil (current v) (cursor v n)) → IsSettled u
    → Shows u v n shown → Answers w v c shown_reply (Ok shown)
shown-answers w v u c n shown pass is shows settled s =
    done-goal w u v c (shown_reply shown) pass is (s.world ∙ sym settled) (s.shown ∙ ap (λ (x : World). shown_at x n) (sym settled) ∙ sym (shows (settle u)))

-- the command steps a cursor so, and shows it
pub record IsStepping (c : Command) (n : ℕ) (step : Step) : Type 0 where
  pub tests : (w : World) → checks w c ≡ no_cursor w n ∷ []
  pub does : (w : World) → changed w c ≡ stepped w n step
  pub shows : (w v : World) → fields w v c ≡ or_nil (current v) (cursor v n)
  pub unread : (w : World) → steps_unread w c ≡ is_unread (cursor w n)
  pub known : (ks : List (Option Cursor)) → walks_unread ks c ≡ is_unread (flat (slice_get ks n))
  pub few : moves_keys c ≡ false

pub next-steps : (n : ℕ) → IsStepping (command.Next n) n (step_of (motion.Step On))
unfolding checks changed fields moves_keys
next-steps n = record { tests = λ w. refl; does = λ w. refl; shows = λ w v. refl; unread = λ w. refl; known = λ ks. refl; few = refl }

pub prev-steps : (n : ℕ) → IsStepping (command.Prev n) n (step_of (motion.Step Back))
unfolding checks changed fields moves_keys
prev-steps n = record { tests = λ w. refl; does = λ w. refl; shows = λ w v. refl; unread = λ w. refl; known = λ ks. refl; few = refl }

pub reset-steps : (n : ℕ) → IsStepping (command.Reset n) n (step_of (motion.Leap On))
unfolding checks changed fields moves_keys
reset-steps n = record { tests = λ w. refl; does = λ w. refl; shows = λ w v. refl; unread = λ w. refl; known = λ ks. refl; few = refl }

pub end-steps : (n : ℕ) → IsStepping (command.End n) n (step_of (motion.Leap Back))
unfolding checks changed fields moves_keys
end-steps n = record { tests = λ w. refl; does = λ w. refl; shows = λ w v. refl; unread = λ w. refl; known = λ ks. refl; few = refl }

moveby-steps : (n : ℕ) (by : ℤ) → IsStepping (command.Moveby n by) n (step_of (motion.By by))
unfolding checks changed fields moves_keys
moveby-steps n by = record { tests = λ w. refl; does = λ w. refl; shows = λ w v. refl; unread = λ w. refl; known = λ ks. refl; few = refl }

-- a cursor that is open steps to where it comes
pub there-stepped : (w : World) (n : ℕ) (step : Step) (k : Cursor) (next : Place) → Some k ≡ cursor w n → next ≡ step (hits_of w k.query) k.query.spec.index k.place → set_place w n next ≡ stepped w n step
there-stepped w n step k next there at = ap (λ (p : Place). set_place w n p) at ∙ ap (λ (o : Option Cursor). step_from w n step o) there

-- and is shown there
pub steers-there : (w v : World) (n : ℕ) (step : Step) (k : Cursor) (next : Place) (shown : Shown) → Some k ≡ cursor w n → next ≡ step (hits_of w k.query) k.query.spec.index k.place
    → Shows (set_place w n next) v n shown → Steers w v n step (Ok shown)
steers-there w v n step k next shown there at s = (
  ap is_none (sym there),
  subst (λ (u : World). Shows u v n shown) (there-stepped w n step k next there at) s,
)

-- no cursor is open, or one is
pub no-cursor : (w : World) (n : ℕ) (more : Checks) → is_none (cursor w n) ≡ true → first_of (no_cursor w n ∷ more) ≡ Some NoCursor
no-cursor w n more e = ap (λ b. first_of ((NoCursor, b) ∷ more)) e

pub one-cursor : (w : World) (n : ℕ) (more : Checks) → is_none (cursor w n) ≡ false → first_of (no_cursor w n ∷ more) ≡ first_of more
one-cursor w n more e = ap (λ b. first_of ((NoCursor, b) ∷ more)) e

pub steered-answers : (w v : World) (c : Command) (n : ℕ) (step : Step) → IsStepping c n step → IsSettled (stepped w n step) → (r : Result Shown StoreFault) → Steers w v n step r → Answers w v c shown_reply r
steered-answers w v c n step s settled (Ok shown) d =
    shown-answers w v (stepped w n step) c n shown (ap first_of (s.tests w) ∙ one-cursor w n [] d.0) (s.does w) (s.shows w) settled d.1
steered-answers w v c n step s settled (Err (Refused r)) d =
    refused-answer w c NoCursor (ap first_of (s.tests w) ∙ no-cursor w n [] d.0)
    ∙ ap {A = World} {B = World × Reply} (λ v. (v, Reply.refused NoCursor)) (sym d.2) ∙ ap {A = Refusal} {B = World × Reply} (λ r. (v, Reply.refused r)) (sym d.1)
steered-answers w v c n step s settled (Err (Stop stop)) d = tt

-- what is shown of the stepped cursor is what the command is answered by
pub stepped-pages : (w : World) (c : Command) (n : ℕ) (step : Step) → IsStepping c n step → IsSettled (stepped w n step) → (u : ℕ)
    → pages_shown (shown_at (stepped w n step) n) u ≡ pages_shown (answer w c).1 u
stepped-pages w c n step s settled u = go (cursor w n) refl
  where
    go : (o : Option Cursor) → cursor w n ≡ o → pages_shown (shown_at (stepped w n step) n) u ≡ pages_shown (answer w c).1 u
    go None e =
        ap (λ (o : Option Cursor). pages_shown (shown_at (step_from w n step o) n) u) e ∙ ap (λ (o : Option Cursor). pages_shown (or_nil (current w) o) u) e
        ∙ sym (ap (λ (a : World × Reply). pages_shown a.1 u) (refused-answer w c NoCursor (ap first_of (s.tests w) ∙ no-cursor w n [] (ap is_none e))))
    go (Some k) e = sym
        (ap (λ (a : World × Reply). pages_shown a.1 u) (done-answer w (stepped w n step) c (ap first_of (s.tests w) ∙ one-cursor w n [] (ap is_none e)) (s.does w))
        ∙ ap (λ (r : Reply). pages_shown r u) (s.shows w (settle (stepped w n step))) ∙ ap (λ (v : World). pages_shown (shown_at v n) u) settled)

pub moveby-stepping : (n : ℕ) (by z : ℤ) → z ≡ by → IsStepping (command.Moveby n by) n (step_of (motion.By z))
moveby-stepping n by z e = subst (λ (z : ℤ). IsStepping (command.Moveby n by) n (step_of (motion.By z))) (sym e) (moveby-steps n by)

-- ---- to a key

module _ (w : World) (n : ℕ) (g : RawGraph) where
  key-tests : checks w (command.Gotokey n g) ≡ no_cursor w n ∷ bad_key w n g ∷ []
  unfolding checks
  key-tests = refl

  key-does : changed w (command.Gotokey n g) ≡ stepped w n (go_to_key g)
  unfolding changed
  key-does = refl

  key-shows : (v : World) → fields w v (command.Gotokey n g) ≡ or_nil (current v) (cursor v n)
  unfolding fields
  key-shows v = refl

  pub key-few : moves_keys (command.Gotokey n g) ≡ false
  unfolding moves_keys
  key-few = refl

  pub no-cursor-key : is_none (cursor w n) ≡ true → answer w (command.Gotokey n g) ≡ (w, Reply.refused NoCursor)
  no-cursor-key e = refused-answer w (command.Gotokey n g) NoCursor (ap first_of key-tests ∙ no-cursor w n (bad_key w n g ∷ []) e)

  -- one is open
  module _ (k : Cursor) (open_one : cursor w n ≡ Some k) where
    some-cursor : is_none (cursor w n) ≡ false
    some-cursor = ap is_none open_one

    tested : first_of (checks w (command.Gotokey n g)) ≡ first_of ((BadKey, is_none (key_from k.query.spec.index g)) ∷ [])
    tested =
        ap first_of key-tests ∙ one-cursor w n (bad_key w n g ∷ []) some-cursor
        ∙ ap (λ (o : Option Cursor). first_of ((BadKey, on_some o (λ k. is_none (key_from k.query.spec.index g))) ∷ [])) open_one

    pub bad-key : key_from k.query.spec.index g ≡ None → answer w (command.Gotokey n g) ≡ (w, Reply.refused BadKey)
    bad-key e = refused-answer w (command.Gotokey n g) BadKey (tested ∙ ap (λ (o : Option Key). first_of ((BadKey, is_none o) ∷ [])) e)

    module _ (key : Key) (e : key_from k.query.spec.index g ≡ Some key) where
      pub key-does-so : changed w (command.Gotokey n g) ≡ stepped w n (step_of (motion.Key key))
      key-does-so =
          key-does ∙ ap (step_from w n (go_to_key g)) open_one
          ∙ ap (λ (o : Option Key). set_place w n (to_key o (hits_of w k.query) k.query.spec.index k.place)) e
          ∙ sym (ap (step_from w n (step_of (motion.Key key))) open_one)

      passes : first_of (checks w (command.Gotokey n g)) ≡ None
      passes = tested ∙ ap (λ (o : Option Key). first_of ((BadKey, is_none o) ∷ [])) e

      pub key-answers : IsSettled (stepped w n (step_of (motion.Key key))) → (v : World) (r : Result Shown StoreFault) → Steers w v n (step_of (motion.Key key)) r
          → Answers w v (command.Gotokey n g) shown_reply r
      key-answers settled v (Ok shown) d = shown-answers w v (stepped w n (step_of (motion.Key key))) (command.Gotokey n g) n shown passes key-does-so key-shows settled d.1
      key-answers settled v (Err (Refused r)) d = absurd (cc_false d.0 some-cursor)
        where
          cc_false : {b : Bool} → b ≡ true → b ≡ false → ⊥
          cc_false x y = cc
      key-answers settled v (Err (Stop stop)) d = tt

      pub key-pages : IsSettled (stepped w n (step_of (motion.Key key))) → (u : ℕ)
          → pages_shown (shown_at (stepped w n (step_of (motion.Key key))) n) u ≡ pages_shown (answer w (command.Gotokey n g)).1 u
      key-pages settled u = sym
          (ap (λ (a : World × Reply). pages_shown a.1 u) (done-answer w (stepped w n (step_of (motion.Key key))) (command.Gotokey n g) passes key-does-so)
          ∙ ap (λ (r : Reply). pages_shown r u) (key-shows (settle (stepped w n (step_of (motion.Key key)))))
          ∙ ap (λ (v : World). pages_shown (shown_at v n) u) settled)
