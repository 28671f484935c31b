-- What the world answers to a command whose tests are known, and to those that show, count, clone and close a cursor.
use Rattle.std.proofs.Common.{◌≡◌, refl, ap, sym, ◌∙◌, ℕ, [], ◌∷◌, Bool, true, false, Option, Some, None, option_map, length}
use Rattle.std.specs.Prelude.{is_none, is_some, not, slice_set}
use Rattle.newt_base.specs.Refusals.{Checks, first_of}
use Rattle.newt_base.specs.declared.Refusal.{Refusal}
use Rattle.newt_base.specs.declared.Refusal.TheVariants.{Cursor as NoCursor, Limit}
use Rattle.newt_spec_graph.proofs.Lists.{some-same, none-some}
use Rattle.newt_spec_query.specs.Hits.{Query}
use Rattle.newt_spec_query.specs.Cursor.{Cursor, Place}
use Rattle.newt_spec_world.specs.declared.command.Command.{Command}
use Rattle.newt_spec_world.specs.declared.command.Command.TheVariants as command
use Rattle.newt_spec_world.specs.Reply.{Reply}
use Rattle.newt_spec_world.specs.World.{World, cursor, free_cursor, hits_of, settle}
use Rattle.newt_spec_world.specs.Changed.{changed, cloned, open_at}
use Rattle.newt_spec_world.specs.Refused.{checks, no_cursor, no_free_cursor}
use Rattle.newt_spec_world.specs.Answer.{answer, answered, current, fields, or_nil, side}
use Rattle.newt_query.specs.Filter.{asks_texts}
use Rattle.newt_engine_cursors.specs.Unread.{is_unread}
use Rattle.newt_laws_answers.specs.Fetched.{pages_shown}
use Rattle.newt_laws_world.specs.Settled.{IsSettled}
use Rattle.newt_engine_cursors.specs.Replies.{shown_at, side_at}

pub refused-answer : (w : World) (c : Command) (r : Refusal) → first_of (checks w c) ≡ Some r → answer w c ≡ (w, Reply.refused r)
unfolding answer
refused-answer w c r e = ap (answered w c) e

pub done-answer : (w v : World) (c : Command) → first_of (checks w c) ≡ None → changed w c ≡ v → answer w c ≡ (settle v, fields w (settle v) c)
unfolding answer
done-answer w v c e is = ap (answered w c) e ∙ ap {A = World} {B = World × Reply} (λ v. (settle v, fields w (settle v) c)) is

-- the world after it and its reply, as they are known
pub done-goal : (w u v : World) (c : Command) (reply : Reply) → first_of (checks w c) ≡ None → changed w c ≡ u → v ≡ settle u → reply ≡ fields w (settle u) c → answer w c ≡ (v, reply)
done-goal w u v c reply e is after said = done-answer w u c e is ∙ (λ i. (sym after i, sym said i))

-- no cursor of this number is open
pub closed-cursor : (w : World) (n : ℕ) (more : Checks) → is_none (cursor w n) ≡ true → first_of (no_cursor w n ∷ more) ≡ Some NoCursor
closed-cursor w n more e = ap (λ b. first_of ((NoCursor, b) ∷ more)) e

-- one is
pub open-cursor : (w : World) (n : ℕ) (more : Checks) → is_none (cursor w n) ≡ false → first_of (no_cursor w n ∷ more) ≡ first_of more
open-cursor w n more e = ap (λ b. first_of ((NoCursor, b) ∷ more)) e

-- what is looked up of a place says whether a cursor is open
pub open-alike : {X Y Z : Type 0} (f : X → Z) (g : Y → Z) (a : Option X) (b : Option Y) (there : Bool) → option_map f a ≡ option_map g b → is_some a ≡ there → is_none b ≡ not there
open-alike f g None None there e h = ap not h
open-alike f g None (Some y) there e h = absurd (none-some (g y) e)
open-alike f g (Some x) None there e h = absurd (none-some (f x) (sym e))
open-alike f g (Some x) (Some y) there e h = ap not h

-- ---- where it is not open

pub entry-closed : (w : World) (n : ℕ) → is_none (cursor w n) ≡ true → answer w (command.Entry n) ≡ (w, Reply.refused NoCursor)
unfolding checks
entry-closed w n e = refused-answer w (command.Entry n) NoCursor (closed-cursor w n [] e)

pub count-closed : (w : World) (n : ℕ) → is_none (cursor w n) ≡ true → answer w (command.Count n) ≡ (w, Reply.refused NoCursor)
unfolding checks
count-closed w n e = refused-answer w (command.Count n) NoCursor (closed-cursor w n [] e)

pub which-closed : (w : World) (n : ℕ) → is_none (cursor w n) ≡ true → answer w (command.Which n) ≡ (w, Reply.refused NoCursor)
unfolding checks
which-closed w n e = refused-answer w (command.Which n) NoCursor (closed-cursor w n [] e)

pub clone-closed : (w : World) (n : ℕ) → is_none (cursor w n) ≡ true → answer w (command.Clone n) ≡ (w, Reply.refused NoCursor)
unfolding checks
clone-closed w n e = refused-answer w (command.Clone n) NoCursor (closed-cursor w n (no_free_cursor w ∷ []) e)

pub close-closed : (w : World) (n : ℕ) → is_none (cursor w n) ≡ true → answer w (command.Close n) ≡ (w, Reply.refused NoCursor)
unfolding checks
close-closed w n e = refused-answer w (command.Close n) NoCursor (closed-cursor w n [] e)

-- ---- where it is

pub entry-open : (w v : World) (n : ℕ) (reply : Reply) → is_none (cursor w n) ≡ false → v ≡ settle w → reply ≡ or_nil (current (settle w)) (cursor (settle w) n) → answer w (command.Entry n) ≡ (v, reply)
unfolding checks changed fields
entry-open w v n reply e after said = done-goal w w v (command.Entry n) reply (open-cursor w n [] e) refl after said

-- and its pages
pub entry-pages : (w : World) (n : ℕ) → is_none (cursor w n) ≡ false → IsSettled w → (u : ℕ) → pages_shown (shown_at w n) u ≡ pages_shown (answer w (command.Entry n)).1 u
entry-pages w n e settled u =
    ap (λ (x : World). pages_shown (shown_at x n) u) (sym settled)
    ∙ sym (ap (λ (a : World × Reply). pages_shown a.1 u) (entry-open w (settle w) n (shown_at (settle w) n) e refl refl))

pub count-open : (w v : World) (n : ℕ) (reply : Reply) → is_none (cursor w n) ≡ false → v ≡ settle w → reply ≡ or_nil (λ k. Reply.number (length (hits_of w k.query))) (cursor w n) → answer w (command.Count n) ≡ (v, reply)
unfolding checks changed fields
count-open w v n reply e after said = done-goal w w v (command.Count n) reply (open-cursor w n [] e) refl after said

pub count-said : (w : World) (o : Option Cursor) (q : Query) (n : ℕ) → Some q ≡ option_map (λ k. k.query) o → n ≡ length (hits_of w q)
    → Reply.number n ≡ or_nil (λ k. Reply.number (length (hits_of w k.query))) o
count-said w None q n e h = absurd (none-some q (sym e))
count-said w (Some k) q n e h = ap Reply.number (h ∙ ap (λ q. length (hits_of w q)) (some-same q k.query e))

which-side : (o : Option Cursor) (p : Place) → Some p ≡ option_map (λ k. k.place) o → side_at p ≡ or_nil side o
which-side None p e = absurd (none-some p (sym e))
which-side (Some k) p e = ap side_at (some-same p k.place e)

pub which-open : (w v : World) (n : ℕ) (p : Place) (reply : Reply) → Some p ≡ option_map (λ k. k.place) (cursor w n) → v ≡ settle w → reply ≡ side_at p → answer w (command.Which n) ≡ (v, reply)
unfolding checks changed fields
which-open w v n p reply e after said =
    done-goal w w v (command.Which n) reply (open-cursor w n [] (open-alike (λ (p : Place). p) (λ (k : Cursor). k.place) (Some p) (cursor w n) true e refl)) refl after
    (said ∙ which-side (cursor w n) p e)

clone-is : (w : World) (o : Option Cursor) (f : Option ℕ) (c : ℕ) → is_none o ≡ false → free_cursor w ≡ Some c → cloned w o ≡ record w { cursors = slice_set w.cursors c o }
clone-is w None f c e free = cc
clone-is w (Some k) f c e free = ap (open_at w k) free

pub clone-open : (w u v : World) (n c : ℕ) → is_none (cursor w n) ≡ false → free_cursor w ≡ Some c → u ≡ record w { cursors = slice_set w.cursors c (cursor w n) } → v ≡ settle u
    → answer w (command.Clone n) ≡ (v, Reply.number c)
unfolding checks changed fields
clone-open w u v n c e free is after =
    done-goal w u v (command.Clone n) (Reply.number c) (open-cursor w n (no_free_cursor w ∷ []) e ∙ ap (λ (o : Option ℕ). first_of ((Limit, is_none o) ∷ [])) free)
    (clone-is w (cursor w n) (free_cursor w) c e free ∙ sym is) after (ap (or_nil Reply.number) (sym free))

pub clone-full : (w : World) (n : ℕ) → is_none (cursor w n) ≡ false → free_cursor w ≡ None → answer w (command.Clone n) ≡ (w, Reply.refused Limit)
unfolding checks
clone-full w n e free =
    refused-answer w (command.Clone n) Limit (open-cursor w n (no_free_cursor w ∷ []) e ∙ ap (λ (o : Option ℕ). first_of ((Limit, is_none o) ∷ [])) free)

pub close-open : (w u v : World) (n : ℕ) → is_none (cursor w n) ≡ false → u ≡ record w { cursors = slice_set w.cursors n None } → v ≡ settle u → answer w (command.Close n) ≡ (v, Reply.done)
unfolding checks changed fields
close-open w u v n e is after = done-goal w u v (command.Close n) Reply.done (open-cursor w n [] e) (sym is) after refl

-- the query of an open cursor that asks for no words or texts
pub unread-open : (o : Option Cursor) (q : Query) → Some q ≡ option_map (λ k. k.query) o → is_unread o ≡ true → asks_texts q.spec ≡ false
unread-open None q e un = absurd (none-some q (sym e))
unread-open (Some k) q e un = ap (λ (x : Query). asks_texts x.spec) (some-same q k.query e) ∙ not-true (asks_texts k.query.spec) un
  where
    not-true : (b : Bool) → not b ≡ true → b ≡ false
    not-true true h = cc
    not-true false h = refl
