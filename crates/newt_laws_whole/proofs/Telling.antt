-- Which notes a step of the world tells, by the world after it.
use Rattle.std.proofs.Common.{◌≡◌, inl, refl, ap, sym, ◌∙◌, subst, arith, ℕ, ◌+◌, List, [], ◌∷◌, true, false, Bool, not, cond, ◌==◌, ◌&&◌, Option, Some, None, option_map, option_and_then, unwrap_or, take, find, if◌then◌else◌}
use Rattle.std.proofs.lemmas.Bool.{eqb-true}
use Rattle.std.proofs.lemmas.Bool.Decides.{Decides-eqb}
use Rattle.newt_base.specs.Names.{equal_text}
use Rattle.newt_base.specs.Refusals.{first_of}
use Rattle.newt_base.specs.declared.Refusal.{Refusal}
use Rattle.newt_spec_graph.specs.Lists.{Among}
use Rattle.newt_spec_graph.proofs.Lists.{both-ways, none-some}
use Rattle.newt_spec_store.specs.Store.{Entry, Soup, Store, add_entry, change_first, change_soup, remove_entry, soup_named}
use Rattle.newt_spec_world.specs.World.{World, Device, Media, blank, one, two, lost, store_of, on_unit, change_media, change_store, device, mounted_store, soup_in, entry_in, settle, store_on_unit}
use Rattle.newt_spec_world.specs.Changed.{changed, copy_to}
use Rattle.newt_spec_world.specs.Refused.{checks, no_soup}
use Rattle.newt_spec_world.specs.Reply.{Reply}
use Rattle.newt_spec_world.specs.Answer.{answer, answered, fields, new_uid}
use Rattle.newt_spec_world.specs.Step.{Step, plain, found, thrown, halfway, looks_anew, looks_at, moves_away, unsure_look, thrown_out, torn, world_halfway, either_of}
use Rattle.newt_spec_world.specs.declared.command.Command.{Command}
use Rattle.newt_spec_world.specs.declared.command.Command.TheVariants as command
use Rattle.newt_laws_world.specs.Worlds.{is_plain}
use Rattle.newt_laws_world.proofs.Kept.{AllFalse, all-false, not-none}
use Rattle.newt_laws_world.proofs.Units.{device-other, device-same}
use Rattle.newt_laws_steps.proofs.MeantRows.{right-false}
use Rattle.newt_laws_steps.proofs.Replying.{fields_good, is_fault}
use Rattle.newt_laws_steps.proofs.Standing.{is-accepted}
use Rattle.newt_spec_whole.specs.Whole.{Whole}
use Rattle.newt_spec_whole.specs.Events.{Event, events}
use Rattle.newt_spec_whole.specs.Step as wholes
use Rattle.newt_spec_whole.specs.Step.{WholeStep, whole_thrown}
use Rattle.newt_laws_whole.specs.Since.{if_done}
use Rattle.newt_laws_whole.specs.Steps.{notes_of, noting, has_taken, is_past, notes_after}
use Rattle.newt_laws_whole.proofs.Plain.{plain-turn}
use Rattle.newt_laws_whole.proofs.Stepping.{plain-steps, found-steps}

-- ---- a command that is done, or refused

-- a reply that is no refusal and tells of no failure has all notes
good-notes : (w v : World) (c : Command) (r : Reply) → is_fault r ≡ false → notes_after w c v r ≡ events w c
good-notes w v c (Reply.refused x) h = absurd (both-ways (sym h))
good-notes w v c (Reply.thrown u) h = absurd (both-ways (sym h))
good-notes w v c _ h = refl

pub answer-notes : (w : World) (c : Command) → let a = answer w c in notes_after w c a.0 a.1 ≡ notes_of w c
unfolding answer
answer-notes w c = go (first_of (checks w c))
  where
    go : (o : Option Refusal) → notes_after w c (answered w c o).0 (answered w c o).1 ≡ if_done o (events w c)
    go (Some r) = refl
    go None = let v = (answered w c None).0 in good-notes w v c (fields w v c) (fields_good w v c)

-- a format and a mount have no notes
pub looked-none : (w : World) (c : Command) (u : ℕ) → looks_at c ≡ Some u → events w c ≡ []
unfolding events
looked-none w (command.Format x name sig) u h = refl
looked-none w (command.Mount x) u h = refl
looked-none w _ u h = absurd (cc)

pub looked : (w : World) (c : Command) (u : ℕ) → looks_anew w c ≡ Some u → (x : ℕ) × (looks_at c ≡ Some x)
looked w c u h = go (looks_at c) h
  where
    go : (o : Option ℕ) → option_and_then (unsure_look w) o ≡ Some u → (x : ℕ) × (o ≡ Some x)
    go None k = absurd (none-some u k)
    go (Some x) k = (x, refl)

pub no-notes : (w v : World) (c : Command) (r : Reply) → events w c ≡ [] → notes_after w c v r ≡ []
no-notes w v c (Reply.refused x) h = refl
no-notes w v c (Reply.thrown u) h = ap (λ es. if moves_away c u && has_taken w c v then take 1 es else []) h ∙ go (moves_away c u && has_taken w c v)
  where
    go : (b : Bool) → ◌≡◌ {A = List Event} (if b then [] else []) []
    go true = refl
    go false = refl
no-notes w v c _ h = h

-- none refused or not
pub none-done : (o : Option Refusal) → ◌≡◌ {A = List Event} (if_done o []) []
none-done None = refl
none-done (Some r) = refl

-- ---- a unit that is thrown out

-- a move away from a unit goes to another one
pub away : (t uid x u : ℕ) (s y : List ℕ) → moves_away (command.Move t s uid x y) u ≡ true → (t ≡ u) × (x ≡ u → ⊥)
away t uid x u s y h = (eqb-true t u (first (t == u) h), λ e. both-ways (sym (other (t == u) (x == u) h) ∙ (Decides-eqb x u).1 e))
  where
    first : (b : Bool) → b && not (x == u) ≡ true → b ≡ true
    first true k = refl
    first false k = absurd (both-ways k)

    other : (a b : Bool) → a && not b ≡ true → b ≡ false
    other true true k = absurd (both-ways k)
    other true false k = refl
    other false b k = absurd (both-ways k)

-- what another unit has stays
out-other : (w : World) (u x : ℕ) (change : Media → Media) → (x ≡ u → ⊥) → mounted_store (settle (thrown_out w u change)) x ≡ mounted_store w x
out-other w u x change differs = ap on_unit (device-other w u (λ d. record d { media = change d.media; mounted = false }) x differs)

-- so the soups there do
soup-by : (v w : World) (x : ℕ) (y : List ℕ) → mounted_store v x ≡ mounted_store w x → soup_in v x y ≡ soup_in w x y
soup-by v w x y same = ap (option_and_then (soup_named y)) same

-- a soup is not past its own next id
own-id : (o : Option Soup) → is_past (unwrap_or (option_map (λ (p : Soup). p.next_uid) o) 0) o ≡ false
own-id None = refl
own-id (Some p) = ap not ((Decides-eqb p.next_uid p.next_uid).1 refl)

same-not-taken : (w v : World) (c : Command) (u : ℕ) → ((t uid x : ℕ) (s y : List ℕ) → c ≡ command.Move t s uid x y → (x ≡ u → ⊥) → soup_in v x y ≡ soup_in w x y)
    → notes_after w c v (Reply.thrown u) ≡ []
same-not-taken w v (command.Move t s uid x y) u same = go (moves_away (command.Move t s uid x y) u) refl
  where
    go : (b : Bool) → moves_away (command.Move t s uid x y) u ≡ b
        → (if b && has_taken w (command.Move t s uid x y) v then take 1 (events w (command.Move t s uid x y)) else []) ≡ []
    go false is = refl
    go true is = ap (λ (b : Bool). if b then take 1 (events w (command.Move t s uid x y)) else [])
        (ap (is_past (new_uid w x y)) (same t uid x s y refl (away t uid x u s y is).1) ∙ own-id (soup_in w x y))
same-not-taken w v _ u same = refl

-- ---- a target that has the entry

find-first : {X : Type 0} (test : X → Bool) (f : X → X) → ((x : X) → test (f x) ≡ test x) → (xs : List X) → find test (change_first test f xs) ≡ option_map f (find test xs)
find-first test f keeps [] = refl
find-first {X} test f keeps (x ∷ xs) = go (test x) refl (find-first test f keeps xs)
  where
    go : (b : Bool) → test x ≡ b → find test (change_first test f xs) ≡ option_map f (find test xs)
        → find test (cond b (f x ∷ xs) (x ∷ change_first test f xs)) ≡ option_map f (cond b (Some x) (find test xs))
    go true is more = ap (λ (b : Bool). cond b (Some (f x)) (find test xs)) (keeps x ∙ is)
    go false is more = ap (λ (b : Bool). cond b (Some x) (find test (change_first test f xs))) is ∙ more

pub mounted-change : (w : World) (x : ℕ) (f : Store → Store) (st : Store) → mounted_store w x ≡ Some st → mounted_store (change_store w x f) x ≡ Some (f st)
mounted-change w x f st h = ap on_unit (device-same w x (λ d. record d { media = change_media f d.media })) ∙ go (device w x) h
  where
    media : (b : Bool) (m : Media) → cond b (store_of m) None ≡ Some st → cond b (store_of (change_media f m)) None ≡ Some (f st)
    media false m k = absurd (none-some st k)
    media true blank k = absurd (none-some st k)
    media true (one s) k = ap (option_map f) k
    media true (two a b) k = absurd (none-some st k)
    media true lost k = absurd (none-some st k)

    go : (o : Option Device) → on_unit o ≡ Some st → on_unit (option_map (λ (d : Device). record d { media = change_media f d.media }) o) ≡ Some (f st)
    go None k = absurd (none-some st k)
    go (Some d) k = media d.mounted d.media k

-- the world after such a move has given the next id
module _ (w : World) (t uid x u : ℕ) (s y : List ℕ) (moves : moves_away (command.Move t s uid x y) u ≡ true) (fine : AllFalse (checks w (command.Move t s uid x y))) where
  abbrev move : Command
  move = command.Move t s uid x y

  differs : x ≡ u → ⊥
  differs = (away t uid x u s y moves).1

  apart : x ≡ t → ⊥
  apart e = differs (e ∙ (away t uid x u s y moves).0)

  into : (p : Soup) × (soup_in w x y ≡ Some p)
  unfolding checks
  into = not-none (soup_in w x y) (right-false (no_soup w t s).1 (no_soup w x y).1 fine.1.1.0)

  from : (e : Entry) × (entry_in w t s uid ≡ Some e)
  unfolding checks
  from = not-none (entry_in w t s uid) fine.1.1.1.0

  on : (st : Store) × (mounted_store w x ≡ Some st)
  on = go (mounted_store w x) refl into.1
    where
      go : (o : Option Store) → mounted_store w x ≡ o → option_and_then (soup_named y) o ≡ Some into.0 → (st : Store) × (mounted_store w x ≡ Some st)
      go None e k = absurd (none-some into.0 k)
      go (Some st) e k = (st, e)

  abbrev added : Soup → Soup
  added = add_entry w.minute from.0.graph

  target : mounted_store (copy_to w x y (entry_in w t s uid)) x ≡ Some (change_soup y added on.0)
  target = ap (λ (o : Option Entry). mounted_store (copy_to w x y o) x) from.1 ∙ mounted-change w x (change_soup y added) on.0 on.1

  after : mounted_store (changed w move) x ≡ Some (change_soup y added on.0)
  unfolding changed
  after = ap on_unit (device-other (copy_to w x y (entry_in w t s uid)) t
      (λ (d : Device). record d { media = change_media (change_soup s (remove_entry uid)) d.media }) x apart) ∙ target

  named : soup_named y on.0 ≡ Some into.0
  named = sym (ap (option_and_then (soup_named y)) on.1) ∙ into.1

  soup-after : soup_in (world_halfway w move u) x y ≡ Some (added into.0)
  soup-after =
      ap (option_and_then (soup_named y)) (out-other (changed w move) u x (either_of (store_on_unit w u)) differs ∙ after)
      ∙ find-first (λ (p : Soup). equal_text p.name y) added (λ p. refl) on.0.soups ∙ ap (option_map added) named

  one-more : (n : ℕ) → not ((n + 1) == n) ≡ true
  one-more n = go ((n + 1) == n) refl
    where
      go : (b : Bool) → ((n + 1) == n) ≡ b → not b ≡ true
      go false e = refl
      go true e = let same : n + 1 ≡ n = (Decides-eqb (n + 1) n).0 e in absurd (omega (arith, same))

  pub taken : has_taken w move (world_halfway w move u) ≡ true
  taken = ap (is_past (new_uid w x y)) soup-after
      ∙ ap (λ (o : Option Soup). not ((into.0.next_uid + 1) == unwrap_or (option_map (λ (p : Soup). p.next_uid) o) 0)) into.1
      ∙ one-more into.0.next_uid

pub halfway-notes : (w : World) (c : Command) (u : ℕ) → moves_away c u ≡ true → first_of (checks w c) ≡ None
    → notes_after w c (world_halfway w c u) (Reply.thrown u) ≡ take 1 (events w c)
halfway-notes w (command.Move t s uid x y) u moves done =
    let k = command.Move t s uid x y in
    ap (λ (b : Bool). if b && has_taken w k (world_halfway w k u) then take 1 (events w k) else []) moves
    ∙ ap (λ (b : Bool). if b then take 1 (events w k) else []) (taken w t uid x u s y moves (all-false (checks w k) done))
halfway-notes w _ u moves done = absurd (both-ways moves)

-- a unit that is thrown out takes no note with it
pub thrown-notes : (w : World) (c : Command) (u : ℕ) (change : Media → Media) → notes_after w c (settle (thrown_out w u change)) (Reply.thrown u) ≡ []
thrown-notes w c u change = same-not-taken w (settle (thrown_out w u change)) c u
    (λ t uid x s y e differs. soup-by (settle (thrown_out w u change)) w x y (out-other w u x change differs))

-- ---- a step

pub steps-tell : (h : Whole) (c : Command) (v : World) (r : Reply) → is_plain c ≡ true → Step h.world c v r → WholeStep h c (noting h v (notes_after h.world c v r)) r
steps-tell h c v r p (plain none is) =
    subst (λ es. WholeStep h c (noting h v es) r)
    (sym (ap (λ (a : World × Reply). notes_after h.world c a.0 a.1) (sym is) ∙ answer-notes h.world c))
    (plain-steps h c v r p none is)
steps-tell h c v r p (found {u} {v = x} looks has is) =
    let at = looked h.world c u looks in
    subst (λ es. WholeStep h c (noting h v es) r)
    (ap (if_done (first_of (checks x c))) (looked-none x c at.0 at.1) ∙ none-done (first_of (checks x c))
    ∙ sym (no-notes h.world v c r (looked-none h.world c at.0 at.1)))
    (found-steps h c u x v r p looks has is)
steps-tell h c v r p (thrown {u} next is) =
    wholes.thrown c (subst (λ (ds : List Command). Among ds c) (sym (plain-turn h c p)) (inl refl))
    (ap {A = World × List Event} (λ (a : World × List Event). noting h a.0 a.1)
    (ap {A = List Event} {B = World × List Event} (λ es. (v, es)) none ∙ ap {A = World} {B = World × List Event} (λ x. (x, [])) next))
    is
  where
    none : notes_after h.world c v r ≡ []
    none = ap (notes_after h.world c v) is
        ∙ same-not-taken h.world v c u (λ t uid x s y e differs.
        soup-by v h.world x y (ap (λ (k : World). mounted_store k x) next ∙ out-other h.world u x (torn h.world c u) differs))
steps-tell h c v r p (halfway {u} moves ok next is) =
    wholes.halfway moves ok
    (ap {A = World × List Event} (λ (a : World × List Event). noting h a.0 a.1)
    (ap {A = List Event} {B = World × List Event} (λ es. (v, es)) notes ∙ ap {A = World} {B = World × List Event} (λ x. (x, take 1 (events h.world c))) next))
    is
  where
    notes : notes_after h.world c v r ≡ take 1 (events h.world c)
    notes = ap (notes_after h.world c v) is ∙ ap (λ (x : World). notes_after h.world c x (Reply.thrown u)) next
        ∙ halfway-notes h.world c u moves (is-accepted h.world c ok)
