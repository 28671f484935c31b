-- What a step of the whole asks of the world is a step of the world.
use Rattle.std.proofs.Common.{◌≡◌, ◌⊎◌, inl, inr, refl, ap, sym, ◌∙◌, subst, ℕ, List, [], ◌∷◌, true, false, Bool, not, Option, Some, None, option_and_then, option_map, unwrap_or, drop, if◌then◌else◌}
use Rattle.std.specs.Prelude.{is_none}
use Rattle.newt_base.specs.Refusals.{Checks, first_of}
use Rattle.newt_base.specs.declared.Refusal.{Refusal}
use Rattle.newt_spec_graph.specs.Lists.{Among}
use Rattle.newt_spec_graph.proofs.Lists.{both-ways, none-some}
use Rattle.newt_spec_store.specs.Store.{Store}
use Rattle.newt_spec_store.specs.Valid.{well_formed}
use Rattle.newt_work.specs.Work.{Copy, is_based}
use Rattle.newt_spec_world.specs.World.{World, mounted_store, soup_in, entry_in, settle}
use Rattle.newt_spec_world.specs.Changed.{changed}
use Rattle.newt_spec_world.specs.Refused.{checks, on_some, no_unit, not_mounted, no_soup, no_entry}
use Rattle.newt_spec_world.specs.Reply.{Reply}
use Rattle.newt_spec_world.specs.Answer.{answer, answered}
use Rattle.newt_spec_world.specs.Alias.{Spot}
use Rattle.newt_spec_world.specs.Step as worlds
use Rattle.newt_spec_world.specs.Step.{Step, Found, looks_anew, looks_at, moves_away, world_halfway, world_thrown}
use Rattle.newt_spec_world.specs.declared.command.Command.{Command}
use Rattle.newt_spec_world.specs.declared.command.Command.TheVariants as command
use Rattle.newt_laws_images.proofs.Chosen.{there-named, soup-good, there-entry}
use Rattle.newt_laws_world.specs.Named.{IsNamed}
use Rattle.newt_laws_world.specs.Worlds.{is_plain}
use Rattle.newt_laws_world.proofs.Aliases.{named-by}
use Rattle.newt_laws_world.proofs.Kept.{not-none}
use Rattle.newt_laws_world.proofs.Units.{soup-has, entry-has, has-mounted}
use Rattle.newt_spec_whole.specs.Whole.{Whole, asked_in_turn, asks, alias_of_copy, copy, living, get_of, change_of, in_world, save_in_turn}
use Rattle.newt_spec_whole.specs.Refused.{whole_checks, no_copy, no_free_copy, entry_gone, entry_changed, no_room}
use Rattle.newt_spec_whole.specs.Answer.{whole_answer, whole_answered}
use Rattle.newt_spec_whole.specs.Step.{WholeStep, plain, found, thrown, halfway, whole_thrown}
use Rattle.newt_laws_whole.specs.Runs.{AllFormed, DraftsFit}
use Rattle.newt_laws_whole.specs.Steps.{WorldStep}
use Rattle.newt_laws_whole.proofs.Drafts.{first-none}
use Rattle.newt_laws_whole.proofs.Plain.{plain-answer, plain-turn}
use Rattle.newt_laws_whole.proofs.Reading.{entry_tests}
use Rattle.newt_laws_whole.proofs.Saving.{row-none, save-changes, still-world}
use Rattle.newt_laws_whole.proofs.Telling.{looked}

-- ---- commands that look at a unit, and those that move

look-plain : (c : Command) (u : ℕ) → looks_at c ≡ Some u → is_plain c ≡ true
unfolding is_plain
look-plain (command.Format u name sig) n h = refl
look-plain (command.Mount u) n h = refl
look-plain _ n h = absurd (none-some n h)

pub looked-plain : (h : Whole) (c : Command) (u : ℕ) → looks_anew h.world c ≡ Some u → is_plain c ≡ true
looked-plain h c u looks = let at = looked h.world c u looks in look-plain c at.0 at.1

pub move-plain : (c : Command) (u : ℕ) → moves_away c u ≡ true → is_plain c ≡ true
unfolding is_plain
move-plain (command.Move t s uid x y) u h = refl
move-plain _ u h = absurd (both-ways h)

-- ---- what watches and copies do

-- the whole is answered, or a device failed in what it asked
pub other-steps : (h : Whole) (c : Command) (v : Whole) (r : Reply) → is_plain c ≡ false → WholeStep h c v r
    → (whole_answer h c ≡ (v, r)) ⊎ ((u : ℕ) × (asked : Command) × Among (asked_in_turn h c) asked × (v ≡ whole_thrown h asked u) × (r ≡ Reply.thrown u))
other-steps h c v r p (plain none is) = inl is
other-steps h c v r p (found {u} looks has is) = absurd (both-ways (sym p ∙ looked-plain h c u looks))
other-steps h c v r p (thrown {u} asked among next is) = inr (u, asked, among, next, is)
other-steps h c v r p (halfway {u} moves ok next is) = absurd (both-ways (sym p ∙ move-plain c u moves))

-- ---- a command that is read or changed by way of a copy

-- the tests of the reading of an entry that is there
get-passes : (w : World) (k : Copy) (s : Spot) → IsNamed w (alias_of_copy k) s → ((t : Store) → mounted_store w s.unit ≡ Some t → well_formed t ≡ true) → first_of (checks w (get_of s)) ≡ None
unfolding checks
get-passes w k s n formed =
    row-none (no_unit w s.unit).0 _ (rest 1) (ap is_none (has-mounted w s.unit n.on n.mounted_there).1.is)
    (row-none (not_mounted w s.unit).0 _ (rest 2) (ap is_none n.mounted_there)
    (row-none (no_soup w s.unit s.soup.name).0 _ (rest 3) (ap is_none soup)
    (row-none (no_entry w s.unit s.soup.name s.entry.uid).0 _ [] (ap is_none entry) refl)))
  where
    rest : ℕ → Checks
    rest i = drop i (entry_tests w s.unit s.soup.name s.entry.uid)

    ok : well_formed n.on ≡ true
    ok = formed n.on n.mounted_there

    soup : soup_in w s.unit s.soup.name ≡ Some s.soup
    soup = soup-has w s.unit n.on s.soup.name n.mounted_there ∙ there-named n.on s.soup ok n.is_soup

    entry : entry_in w s.unit s.soup.name s.entry.uid ≡ Some s.entry
    entry = entry-has w s.unit s.soup s.soup.name s.entry.uid soup ∙ there-entry s.soup s.entry (soup-good n.on s.soup ok n.is_soup) n.is_entry

answered-step : (w : World) (d : Command) → looks_anew w d ≡ None → Step w d (answer w d).0 (answer w d).1
answered-step w d none = worlds.plain none refl

-- a command of the world that passes its tests
done-step : (w : World) (d : Command) (v : World) → looks_anew w d ≡ None → first_of (checks w d) ≡ None → v ≡ settle (changed w d) → Step w d v (answer w d).1
unfolding answer
done-step w d v none passes is = worlds.plain none (pair (answered w d (first_of (checks w d))) v (is ∙ sym (ap (λ o. (answered w d o).0) passes)))
  where
    pair : (a : World × Reply) (v : World) → v ≡ a.0 → a ≡ (v, a.1)
    pair a v e = ap (λ x. (x, a.1)) (sym e)

-- the copy of a command that is done is there
pub copy-there : (h : Whole) (n : ℕ) (rest : Checks) → first_of (no_copy h n ∷ rest) ≡ None → (k : Copy) × (copy h n ≡ Some k)
copy-there h n rest e = not-none (copy h n) (first-none (no_copy h n).0 (no_copy h n).1 rest e).0

-- and its entry
pub spot-there : (h : Whole) (n : ℕ) (rest : Checks) (k : Copy) → copy h n ≡ Some k → first_of (no_copy h n ∷ entry_gone h n ∷ rest) ≡ None → (s : Spot) × (living h k ≡ Some s)
spot-there h n rest k here e = not-none (living h k)
    (sym (ap (λ o. on_some o (λ k. is_none (living h k))) here)
    ∙ (first-none (entry_gone h n).0 (entry_gone h n).1 rest (first-none (no_copy h n).0 (no_copy h n).1 (entry_gone h n ∷ rest) e).1).0)

-- ---- one step of the world

module _ (h : Whole) (formed : AllFormed h.world) (fits : DraftsFit h.copies) where
  abbrev Goes : Command → Whole → Type 0
  Goes c v = (v.world ≡ h.world) ⊎ WorldStep h c v

  open-goes : (u : ℕ) (s : List ℕ) (uid : ℕ) → Goes (command.Open u s uid) (whole_answer h (command.Open u s uid)).0
  unfolding whole_answer whole_checks checks asks
  open-goes u s uid = go (first_of (whole_checks h (command.Open u s uid))) refl
    where
      get : Command
      get = command.Get u s uid

      first-four : (a b c d e : Bool) (p q x y z : Refusal) → first_of ((p, a) ∷ (q, b) ∷ (x, c) ∷ (y, d) ∷ (z, e) ∷ []) ≡ None → first_of ((p, a) ∷ (q, b) ∷ (x, c) ∷ (y, d) ∷ []) ≡ None
      first-four true b c d e p q x y z k = absurd (none-some p (sym k))
      first-four false true c d e p q x y z k = absurd (none-some q (sym k))
      first-four false false true d e p q x y z k = absurd (none-some x (sym k))
      first-four false false false true e p q x y z k = absurd (none-some y (sym k))
      first-four false false false false e p q x y z k = refl

      passes : first_of (whole_checks h (command.Open u s uid)) ≡ None → first_of (checks h.world get) ≡ None
      passes e = first-four (no_unit h.world u).1 (not_mounted h.world u).1 (no_soup h.world u s).1 (no_entry h.world u s uid).1 (no_free_copy h).1
          (no_unit h.world u).0 (not_mounted h.world u).0 (no_soup h.world u s).0 (no_entry h.world u s uid).0 (no_free_copy h).0 e

      go : (o : Option Refusal) → first_of (whole_checks h (command.Open u s uid)) ≡ o → Goes (command.Open u s uid) (whole_answered h (command.Open u s uid) o).0
      go (Some r) e = inl refl
      go None e = inr (record { asked = get; among = inl refl; reply = (answer h.world get).1; step = done-step h.world get (settle (changed h.world get)) refl (passes e) refl })

  revert-goes : (n : ℕ) → Goes (command.Revert n) (whole_answer h (command.Revert n)).0
  unfolding whole_answer whole_checks asks
  revert-goes n = go (first_of (whole_checks h (command.Revert n))) refl
    where
      done : (k : Copy) → copy h n ≡ Some k → (s : Spot) → living h k ≡ Some s → Goes (command.Revert n) (whole_answered h (command.Revert n) None).0
      done k here s lives = inr (record {
        asked = get_of s;
        among = subst (λ (o : Option Command). Among (let x : List Command = elim o [ None ↦ [] | Some d ↦ d ∷ [] ] in x) (get_of s)) (sym asked) (inl refl);
        reply = (answer h.world (get_of s)).1;
        step = done-step h.world (get_of s) (whole_answered h (command.Revert n) None).0.world refl
            (get-passes h.world k s (named-by h.world (alias_of_copy k) s lives) (formed s.unit))
            (ap (λ (o : Option Command). let x : World = elim o [ None ↦ h.world | Some d ↦ settle (changed h.world d) ] in x) asked);
      })
        where
          asked : asks h (command.Revert n) ≡ Some (get_of s)
          asked = ap (λ (o : Option Copy). option_and_then (λ k. option_map (λ s. get_of s) (living h k)) o) here ∙ ap (λ (o : Option Spot). option_map (λ s. get_of s) o) lives

      go : (o : Option Refusal) → first_of (whole_checks h (command.Revert n)) ≡ o → Goes (command.Revert n) (whole_answered h (command.Revert n) o).0
      go (Some r) e = inl refl
      go None e = let k = copy-there h n (entry_gone h n ∷ []) e in let s = spot-there h n [] k.0 k.1 e in done k.0 k.1 s.0 s.1

  save-goes : (n : ℕ) → Goes (command.Save n) (whole_answer h (command.Save n)).0
  unfolding whole_answer whole_checks
  save-goes n = go (first_of (whole_checks h (command.Save n))) refl
    where
      refused : (r : Refusal) → first_of (whole_checks h (command.Save n)) ≡ Some r → (whole_answer h (command.Save n)).0.world ≡ h.world
      refused r e = ap (λ o. (whole_answered h (command.Save n) o).0.world) e

      turn : (k : Copy) (s : Spot) → copy h n ≡ Some k → living h k ≡ Some s → is_based s.entry.time s.entry.graph k ≡ true → asked_in_turn h (command.Save n) ≡ get_of s ∷ change_of k s ∷ []
      turn k s here lives based =
          ap (λ (o : Option Copy). unwrap_or (option_and_then (λ k. option_map (save_in_turn k) (living h k)) o) []) here
          ∙ ap (λ (o : Option Spot). unwrap_or (option_map (save_in_turn k) o) []) lives
          ∙ ap (λ (b : Bool). get_of s ∷ (if b then change_of k s ∷ [] else [])) based

      based : first_of (whole_checks h (command.Save n)) ≡ None → (k : Copy) (s : Spot) → copy h n ≡ Some k → living h k ≡ Some s → is_based s.entry.time s.entry.graph k ≡ true
      based e k s here lives =
          let more = first-none (no_copy h n).0 (no_copy h n).1 (entry_gone h n ∷ entry_changed h n ∷ no_room h n ∷ []) e in
          let last = first-none (entry_gone h n).0 (entry_gone h n).1 (entry_changed h n ∷ no_room h n ∷ []) more.1 in
          let same = first-none (entry_changed h n).0 (entry_changed h n).1 (no_room h n ∷ []) last.1 in
          not-not (is_based s.entry.time s.entry.graph k)
          (sym (ap (λ o. on_some o (λ k. on_some (living h k) (λ s. not (is_based s.entry.time s.entry.graph k)))) here
          ∙ ap (λ o. on_some o (λ s. not (is_based s.entry.time s.entry.graph k))) lives) ∙ same.0)
        where
          not-not : (b : Bool) → not b ≡ false → b ≡ true
          not-not true k = refl
          not-not false k = absurd (both-ways (sym k))

      copied : first_of (whole_checks h (command.Save n)) ≡ None → (k : Copy) × (copy h n ≡ Some k)
      copied e = copy-there h n (entry_gone h n ∷ entry_changed h n ∷ no_room h n ∷ []) e

      go : (o : Option Refusal) → first_of (whole_checks h (command.Save n)) ≡ o → Goes (command.Save n) (whole_answer h (command.Save n)).0
      go (Some r) e = inl (refused r e)
      go None e =
          let k = copied e in
          let s = save-changes h n k.0 formed (fits n k.0 k.1) e k.1 in
          let v = (whole_answer h (command.Save n)).0.world in
          let d = change_of k.0 s.0 in
          inr (record {
            asked = d;
            among = subst (λ (ds : List Command). Among ds d) (sym (turn k.0 s.0 k.1 s.1 (based e k.0 s.0 k.1 s.1))) (inr (inl refl));
            reply = (answer h.world d).1;
            step = subst (λ (x : World). Step h.world d x (answer h.world d).1) (sym s.2) (answered-step h.world d refl);
          })

  -- a command of watches and copies, where no device fails
  answer-goes : (c : Command) → is_plain c ≡ false → Goes c (whole_answer h c).0
  unfolding is_plain asks
  answer-goes (command.Watch s most) p = inl (still-world h (command.Watch s most) refl)
  answer-goes (command.Notes n) p = inl (still-world h (command.Notes n) refl)
  answer-goes (command.Unwatch n) p = inl (still-world h (command.Unwatch n) refl)
  answer-goes (command.Draft n) p = inl (still-world h (command.Draft n) refl)
  answer-goes (command.Edit n path g) p = inl (still-world h (command.Edit n path g) refl)
  answer-goes (command.Discard n) p = inl (still-world h (command.Discard n) refl)
  answer-goes (command.Open u s uid) p = open-goes u s uid
  answer-goes (command.Save n) p = save-goes n
  answer-goes (command.Revert n) p = revert-goes n
  answer-goes _ p = absurd (both-ways (sym p))

-- a device that fails in what is asked
thrown-goes : (h : Whole) (c : Command) (asked : Command) (u : ℕ) → Among (asked_in_turn h c) asked → WorldStep h c (whole_thrown h asked u)
thrown-goes h c asked u among = record { asked = asked; among = among; reply = Reply.thrown u; step = worlds.thrown refl refl }

-- a command of the world
pub plain-step : (h : Whole) (c : Command) (v : Whole) (r : Reply) → is_plain c ≡ true → WholeStep h c v r → Step h.world c v.world r
plain-step h c v r p (plain none is) =
    worlds.plain none (ap {B = World × Reply} (λ (a : Whole × Reply). (a.0.world, a.1)) (sym (plain-answer h c p) ∙ is))
plain-step h c v r p (found {v = x} looks has is) =
    worlds.found looks has (ap {B = World × Reply} (λ (a : Whole × Reply). (a.0.world, a.1)) (sym (plain-answer (in_world h x) c p) ∙ is))
plain-step h c v r p (thrown {u} asked among next is) =
    worlds.thrown (ap (λ (x : Whole). x.world) next ∙ ap (λ (d : Command). world_thrown h.world d u) (one (subst (λ (ds : List Command). Among ds asked) (plain-turn h c p) among))) is
  where
    one : Among (c ∷ []) asked → asked ≡ c
    one (inl e) = sym e
    one (inr k) = absurd k
plain-step h c v r p (halfway moves ok next is) = worlds.halfway moves ok (ap (λ (x : Whole). x.world) next) is

pub step-goes : (h : Whole) (c : Command) (v : Whole) (r : Reply) → AllFormed h.world → DraftsFit h.copies → WholeStep h c v r → (v.world ≡ h.world) ⊎ WorldStep h c v
step-goes h c v r formed fits s = go (is_plain c) refl
  where
    go : (b : Bool) → is_plain c ≡ b → (v.world ≡ h.world) ⊎ WorldStep h c v
    go true p = inr (record { asked = c; among = subst (λ (ds : List Command). Among ds c) (sym (plain-turn h c p)) (inl refl); reply = r; step = plain-step h c v r p s })
    go false p = elim (other-steps h c v r p s) [
      | inl is ↦ subst (λ (a : Whole × Reply). (a.0.world ≡ h.world) ⊎ WorldStep h c a.0) is (answer-goes h formed fits c p)
      | inr t ↦ inr (subst (WorldStep h c) (sym t.3) (thrown-goes h c t.1 t.0 t.2))
    ]
