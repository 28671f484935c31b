-- What holds of a whole, and of its stores, after each step and each run.
use Rattle.std.proofs.Common.{◌≡◌, ◌⊎◌, ◌≤◌, inl, inr, arith, refl, sym, ◌∙◌, subst, ℕ, zero, suc, List, [], ◌∷◌, true, false, Bool, cond, Option, Some, None, option_and_then, option_map, unwrap_or, IsTrue, if◌then◌else◌}
use Rattle.std.specs.Prelude.{slice_get, replicate, Ok, Err}
use Rattle.std.proofs.lemmas.Bool.{and_parts}
use Rattle.newt_base.specs.Refusals.{first_of}
use Rattle.newt_base.specs.declared.Refusal.{Refusal}
use Rattle.newt_spec_graph.specs.Lists.{Among, Each}
use Rattle.newt_spec_graph.proofs.Lists.{both-ways, none-some, some-same}
use Rattle.newt_spec_script.specs.Rows.{Goes, IsRun, Row, world_at, last_world}
use Rattle.newt_spec_script.specs.Script.{Item}
use Rattle.newt_spec_store.specs.OfImage.{blocks_of}
use Rattle.newt_spec_store.specs.Store.{Store}
use Rattle.newt_spec_store.specs.Valid.{fits, valid, well_formed}
use Rattle.newt_spec_whole.specs.Answer.{whole_answer, whole_answered}
use Rattle.newt_spec_whole.specs.First.{whole_of}
use Rattle.newt_spec_whole.specs.Refused.{whole_checks}
use Rattle.newt_spec_whole.specs.Step.{WholeStep, plain, found, thrown, halfway}
use Rattle.newt_spec_whole.specs.Whole.{Whole, asked_in_turn, asks, change_of, copy, get_of, in_world, living, save_in_turn}
use Rattle.newt_work.specs.Work.{Copy, copy_at}
use Rattle.newt_spec_world.specs.Alias.{Spot}
use Rattle.newt_spec_world.specs.Changed.{changed}
use Rattle.newt_spec_world.specs.First.{world_of}
use Rattle.newt_spec_world.specs.Reply.{Reply}
use Rattle.newt_spec_world.specs.Step.{is_format_of}
use Rattle.newt_spec_world.specs.World.{World, Device, Media, blank, one, two, lost, device, flat, settle, store_of, store_if_mounted, stores_on}
use Rattle.newt_spec_world.specs.declared.command.Command.{Command}
use Rattle.newt_spec_world.specs.declared.command.Command.TheVariants as command
use Rattle.newt_laws_steps.specs.Meant.{MountedSure}
use Rattle.newt_laws_steps.specs.Steps.{WorldMayBeLater}
use Rattle.newt_laws_steps.proofs.Fitting.{step-valid}
use Rattle.newt_laws_steps.proofs.Kept.{row-kept, unsure-by}
use Rattle.newt_laws_steps.proofs.Runs.{first-sure}
use Rattle.newt_laws_steps.proofs.Standing.{step-sure, step-settled, step-apart}
use Rattle.newt_laws_steps.proofs.Stepping.{kept-later, step-later, stores-not, stores-trans, thrown-later}
use Rattle.newt_laws_world.proofs.Runs.{first-unmounted, first-valid}
use Rattle.newt_laws_world.specs.Scripts.{ItemHasForm}
use Rattle.newt_laws_world.specs.Settled.{IsSettled, MountedApart}
use Rattle.newt_laws_world.specs.Worlds.{AllValid, OnMedia, has_form, is_plain}
use Rattle.newt_laws_whole.specs.Runs.{AllFormed, CanBeEntry, DraftsFit, IsSound}
use Rattle.newt_laws_whole.specs.Steps.{WorldStep}
use Rattle.newt_laws_whole.proofs.Asking.{looked-plain, other-steps, plain-step, step-goes}
use Rattle.newt_laws_whole.proofs.Fits.{drafts-fit}
use Rattle.newt_laws_whole.proofs.Plain.{plain-answer}

-- ---- stores go on, whatever is asked

pub later-not : (w : World) → WorldMayBeLater w w
later-not w u s k = stores-not (stores_on w u) s k

pub later-trans : (w v x : World) → WorldMayBeLater w v → WorldMayBeLater v x → WorldMayBeLater w x
later-trans w v x h k u s a = let r = h u s a in stores-trans (stores_on w u) (stores_on v u) (stores_on x u) r (k u r.some.0 r.some.1)

-- a command that is no format
row-later : (w : World) (d : Command) → ((u : ℕ) → is_format_of d u ≡ false) → WorldMayBeLater w (settle (changed w d))
row-later w d never u s k = kept-later w (changed w d) u (row-kept w d u (never u)) s k

-- what a command of watches and copies asks is no format
other-later : (h : Whole) (c : Command) (d : Command) → is_plain c ≡ false → asks h c ≡ Some d → WorldMayBeLater h.world (settle (changed h.world d))
unfolding is_plain asks
other-later h (command.Watch s most) d p e = absurd (none-some d e)
other-later h (command.Notes n) d p e = absurd (none-some d e)
other-later h (command.Unwatch n) d p e = absurd (none-some d e)
other-later h (command.Draft n) d p e = absurd (none-some d e)
other-later h (command.Edit n path g) d p e = absurd (none-some d e)
other-later h (command.Discard n) d p e = absurd (none-some d e)
other-later h (command.Open u s uid) d p e =
    subst (λ (x : Command). WorldMayBeLater h.world (settle (changed h.world x))) (some-same (command.Get u s uid) d e) (row-later h.world (command.Get u s uid) (λ u. refl))
other-later h (command.Save n) d p e = copied (copy h n) e
  where
    lives : (k : Copy) (o : Option Spot) → option_map (change_of k) o ≡ Some d → WorldMayBeLater h.world (settle (changed h.world d))
    lives k None e = absurd (none-some d e)
    lives k (Some s) e = subst (λ (x : Command). WorldMayBeLater h.world (settle (changed h.world x))) (some-same (change_of k s) d e) (row-later h.world (change_of k s) (λ u. refl))

    copied : (o : Option Copy) → option_and_then (λ k. option_map (change_of k) (living h k)) o ≡ Some d → WorldMayBeLater h.world (settle (changed h.world d))
    copied None e = absurd (none-some d e)
    copied (Some k) e = lives k (living h k) e
other-later h (command.Revert n) d p e = copied (copy h n) e
  where
    lives : (o : Option Spot) → option_map (λ s. get_of s) o ≡ Some d → WorldMayBeLater h.world (settle (changed h.world d))
    lives None e = absurd (none-some d e)
    lives (Some s) e = subst (λ (x : Command). WorldMayBeLater h.world (settle (changed h.world x))) (some-same (get_of s) d e) (row-later h.world (get_of s) (λ u. refl))

    copied : (o : Option Copy) → option_and_then (λ k. option_map (λ s. get_of s) (living h k)) o ≡ Some d → WorldMayBeLater h.world (settle (changed h.world d))
    copied None e = absurd (none-some d e)
    copied (Some k) e = lives (living h k) e
other-later h _ d p e = absurd (both-ways (sym p))

other-answer-later : (h : Whole) (c : Command) → is_plain c ≡ false → WorldMayBeLater h.world (whole_answer h c).0.world
unfolding whole_answer
other-answer-later h c p = go (first_of (whole_checks h c))
  where
    asked : (o : Option Command) → asks h c ≡ o → WorldMayBeLater h.world (let x : World = elim o [ None ↦ h.world | Some d ↦ settle (changed h.world d) ] in x)
    asked None e = later-not h.world
    asked (Some d) e = other-later h c d p e

    go : (o : Option Refusal) → WorldMayBeLater h.world (whole_answered h c o).0.world
    go (Some r) = later-not h.world
    go None = asked (asks h c) refl

pub whole-later : (h : Whole) (c : Command) (v : Whole) (r : Reply) → WholeStep h c v r → WorldMayBeLater h.world v.world
whole-later h c v r s = go (is_plain c) refl
  where
    go : (b : Bool) → is_plain c ≡ b → WorldMayBeLater h.world v.world
    go true p = step-later h.world c v.world r (plain-step h c v r p s)
    go false p = elim (other-steps h c v r p s) [
      | inl is ↦ subst (λ (a : Whole × Reply). WorldMayBeLater h.world a.0.world) is (other-answer-later h c p)
      | inr t ↦ subst (λ (x : Whole). WorldMayBeLater h.world x.world) (sym t.3) (thrown-later h.world t.1 t.0)
    ]

-- ---- so in a run

goes-later : (h : Whole) (x : Item) (row : Row Whole) → Goes WholeStep h x row → WorldMayBeLater h.world row.0.world
goes-later h (Ok c) row s = whole-later h c row.0 row.1 s
goes-later h (Err r) row s = subst (λ (x : Whole). WorldMayBeLater h.world x.world) (sym s.0) (later-not h.world)

pub between-later : (h : Whole) (items : List Item) (rows : List (Row Whole)) (k m : ℕ) → IsRun WholeStep h items rows → k ≤ m → WorldMayBeLater (world_at h rows k).world (world_at h rows m).world
between-later h [] [] zero zero run low = later-not h.world
between-later h [] [] zero (suc m) run low = later-not h.world
between-later h [] [] (suc k) zero run low = later-not h.world
between-later h [] [] (suc k) (suc m) run low = later-not h.world
between-later h [] (row ∷ rows) k m run low = absurd run
between-later h (x ∷ xs) [] k m run low = absurd run
between-later h (x ∷ xs) (row ∷ rows) zero zero run low = later-not h.world
between-later h (x ∷ xs) (row ∷ rows) zero (suc m) run low =
    later-trans h.world row.0.world (world_at row.0 rows m).world (goes-later h x row run.0) (between-later row.0 xs rows zero m run.1 (omega arith))
between-later h (x ∷ xs) (row ∷ rows) (suc k) zero run low = absurd (omega (arith, low))
between-later h (x ∷ xs) (row ∷ rows) (suc k) (suc m) run low = between-later row.0 xs rows k m run.1 (omega (arith, low))

pub whole-run-later : (h : Whole) (items : List Item) (rows : List (Row Whole)) → IsRun WholeStep h items rows → WorldMayBeLater h.world (last_world h rows).world
whole-run-later h [] [] run = later-not h.world
whole-run-later h [] (row ∷ rows) run = absurd run
whole-run-later h (x ∷ xs) [] run = absurd run
whole-run-later h (x ∷ xs) (row ∷ rows) run =
    later-trans h.world row.0.world (last_world row.0 rows).world (goes-later h x row run.0) (whole-run-later row.0 xs rows run.1)

-- ---- what is sound stays so

pub sound-formed : (h : Whole) → IsSound h → AllFormed h.world
sound-formed h sound u t on = go (device h.world u) refl on
  where
    held : (blocks : ℕ) (m : Media) (b : Bool) → OnMedia (λ blocks s. IsTrue (valid blocks s)) blocks m → cond b (store_of m) None ≡ Some t → well_formed t ≡ true
    held blocks m false all e = absurd (none-some t e)
    held blocks blank true all e = absurd (none-some t e)
    held blocks (one s) true all e = subst (λ (x : Store). well_formed x ≡ true) (some-same s t e) (and_parts (well_formed s) (fits blocks s) all).0
    held blocks (two a b) true all e = absurd (none-some t e)
    held blocks lost true all e = absurd (none-some t e)

    go : (o : Option Device) → device h.world u ≡ o → option_and_then store_if_mounted o ≡ Some t → well_formed t ≡ true
    go None e k = absurd (none-some t k)
    go (Some d) e k = held d.blocks d.media d.mounted (sound.valid u tt d e) k

-- a command that is asked has the form of its words
asked-form : (h : Whole) (c d : Command) → DraftsFit h.copies → IsTrue (has_form c) → Among (asked_in_turn h c) d → IsTrue (has_form d)
unfolding asks has_form
asked-form h (command.Watch s most) d fits form k = absurd k
asked-form h (command.Notes n) d fits form k = absurd k
asked-form h (command.Unwatch n) d fits form k = absurd k
asked-form h (command.Draft n) d fits form k = absurd k
asked-form h (command.Edit n path g) d fits form k = absurd k
asked-form h (command.Discard n) d fits form k = absurd k
asked-form h (command.Open u s uid) d fits form k = only k
  where
    only : (command.Get u s uid ≡ d) ⊎ ⊥ → IsTrue (has_form d)
    only (inl e) = subst (λ (x : Command). IsTrue (has_form x)) e refl
    only (inr k) = absurd k
asked-form h (command.Revert n) d fits form k = copied (copy h n) k
  where
    single : (x : Command) → IsTrue (has_form x) → Among (x ∷ []) d → IsTrue (has_form d)
    single x form (inl e) = subst (λ (x : Command). IsTrue (has_form x)) e form
    single x form (inr k) = absurd k

    lives : (o : Option Spot) → Among (let x : List Command = elim (option_map (λ s. get_of s) o) [ None ↦ [] | Some d ↦ d ∷ [] ] in x) d → IsTrue (has_form d)
    lives None k = absurd k
    lives (Some s) k = single (get_of s) refl k

    copied : (o : Option Copy) → Among (let x : List Command = elim (option_and_then (λ k. option_map (λ s. get_of s) (living h k)) o) [ None ↦ [] | Some d ↦ d ∷ [] ] in x) d → IsTrue (has_form d)
    copied None k = absurd k
    copied (Some x) k = lives (living h x) k
asked-form h (command.Save n) d fits form k = copied (copy h n) refl k
  where
    last : (b : Bool) (x : Command) → IsTrue (has_form x) → Among (if b then x ∷ [] else []) d → IsTrue (has_form d)
    last true x form (inl e) = subst (λ (x : Command). IsTrue (has_form x)) e form
    last true x form (inr k) = absurd k
    last false x form k = absurd k

    turn : (k : Copy) (s : Spot) → CanBeEntry k.draft → Among (save_in_turn k s) d → IsTrue (has_form d)
    turn k s can (inl e) = subst (λ (x : Command). IsTrue (has_form x)) e refl
    turn k s can (inr more) = last _ (change_of k s) can.within more

    lives : (k : Copy) (o : Option Spot) → CanBeEntry k.draft → Among (unwrap_or (option_map (save_in_turn k) o) []) d → IsTrue (has_form d)
    lives k None can among = absurd among
    lives k (Some s) can among = turn k s can among

    copied : (o : Option Copy) → copy h n ≡ o → Among (unwrap_or (option_and_then (λ k. option_map (save_in_turn k) (living h k)) o) []) d → IsTrue (has_form d)
    copied None here among = absurd among
    copied (Some x) here among = lives x (living h x) (fits n x here) among
asked-form h c d fits form k = only k
  where
    only : (c ≡ d) ⊎ ⊥ → IsTrue (has_form d)
    only (inl e) = subst (λ (x : Command). IsTrue (has_form x)) e form
    only (inr k) = absurd k

-- the copies' drafts after a step
step-drafts : (h : Whole) (c : Command) (v : Whole) (r : Reply) → AllFormed h.world → DraftsFit h.copies → WholeStep h c v r → DraftsFit v.copies
step-drafts h c v r formed fits (plain none is) = subst (λ (a : Whole × Reply). DraftsFit a.0.copies) is (drafts-fit h c formed fits)
step-drafts h c v r formed fits (found {u} {v = x} looks has is) =
    subst (λ (a : Whole × Reply). DraftsFit a.0.copies) (sym (plain-answer (in_world h x) c (looked-plain h c u looks)) ∙ is) fits
step-drafts h c v r formed fits (thrown asked among next is) = subst (λ (x : Whole). DraftsFit x.copies) (sym next) fits
step-drafts h c v r formed fits (halfway moves ok next is) = subst (λ (x : Whole). DraftsFit x.copies) (sym next) fits

pub sound-step : (h : Whole) (c : Command) (v : Whole) (r : Reply) → IsSound h → IsTrue (has_form c) → WholeStep h c v r → IsSound v
sound-step h c v r sound form s = go (step-goes h c v r formed sound.drafts s)
  where
    formed : AllFormed h.world
    formed = sound-formed h sound

    drafts : DraftsFit v.copies
    drafts = step-drafts h c v r formed sound.drafts s

    go : (v.world ≡ h.world) ⊎ WorldStep h c v → IsSound v
    go (inl same) = record {
      sure = subst MountedSure (sym same) sound.sure;
      settled = subst IsSettled (sym same) sound.settled;
      apart = subst MountedApart (sym same) sound.apart;
      valid = subst AllValid (sym same) sound.valid;
      drafts = drafts;
    }
    go (inr w) = record {
      sure = step-sure h.world w.asked v.world w.reply sound.sure w.step;
      settled = step-settled h.world w.asked v.world w.reply sound.sure sound.settled w.step;
      apart = step-apart h.world w.asked v.world w.reply sound.sure sound.apart w.step;
      valid = step-valid h.world w.asked v.world w.reply sound.valid (asked-form h c w.asked sound.drafts form w.among) w.step;
      drafts = drafts;
    }

goes-sound : (h : Whole) (x : Item) (row : Row Whole) → IsSound h → ItemHasForm x → Goes WholeStep h x row → IsSound row.0
goes-sound h (Ok c) row sound form s = sound-step h c row.0 row.1 sound form s
goes-sound h (Err r) row sound form s = subst IsSound (sym s.0) sound

pub sound-run : (h : Whole) (items : List Item) (rows : List (Row Whole)) (k : ℕ) → IsSound h → Each ItemHasForm items → IsRun WholeStep h items rows → IsSound (world_at h rows k)
sound-run h [] [] zero sound form run = sound
sound-run h [] [] (suc k) sound form run = sound
sound-run h [] (row ∷ rows) k sound form run = absurd run
sound-run h (x ∷ xs) [] k sound form run = absurd run
sound-run h (x ∷ xs) (row ∷ rows) zero sound form run = sound
sound-run h (x ∷ xs) (row ∷ rows) (suc k) sound form run = sound-run row.0 xs rows k (goes-sound h x row sound form.0 run.0) form.1 run.1

-- ---- at the start

pub first-sound : (reads : List ℕ → Option Store) (held : List ℕ → Option (List ℕ)) (names : List (List ℕ))
    → ((image : List ℕ) (s : Store) → reads image ≡ Some s → IsTrue (valid (blocks_of image) s)) → IsSound (whole_of reads held names)
first-sound reads held names good = record {
  sure = λ u d e mounted. sym (unsure-by w u d e) ∙ first-sure reads held names u;
  settled = refl;
  apart = first-unmounted reads held names;
  valid = first-valid reads held names good;
  drafts = λ n k e. absurd (none n k e);
}
  where
    w : World
    w = world_of reads held names

    no-copy : (m n : ℕ) → flat (slice_get (replicate m (let o : Option Copy = None in o)) n) ≡ None
    no-copy zero n = refl
    no-copy (suc m) zero = refl
    no-copy (suc m) (suc n) = no-copy m n

    none : (n : ℕ) (k : Copy) → copy_at n (replicate 16 None) ≡ Some k → ⊥
    none n k e = none-some k (sym (no-copy 16 n) ∙ e)
