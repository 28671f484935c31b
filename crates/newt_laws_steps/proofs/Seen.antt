-- What a command sees of a unit that it looks at anew: what its image is read as.
use Rattle.std.proofs.Common.{◌≡◌, inl, inr, ◌⊎◌, refl, ap, sym, ◌∙◌, subst, ℕ, List, true, false, Bool, ◌&&◌, IsTrue, IsSome, Option, Some, None, is_none, option_and_then, if◌then◌else◌}
use Rattle.newt_base.specs.Refusals.{first_of}
use Rattle.newt_host.specs.Moments.{Moment, MayLeave, image}
use Rattle.newt_host.specs.Outside.{Outside}
use Rattle.newt_spec_graph.proofs.Lists.{none-some, some-same}
use Rattle.newt_spec_store.specs.Store.{Store}
use Rattle.newt_spec_store.specs.Valid.{valid}
use Rattle.newt_spec_world.specs.Answer.{answer}
use Rattle.newt_spec_world.specs.First.{media_of}
use Rattle.newt_spec_world.specs.Step.{Step, plain, found, Found, MayTurnOut, looks_at, look_checks, unsure_look, looks_anew, with_media}
use Rattle.newt_spec_world.specs.World.{World, Device, Media, blank, one, two, lost, is_unsure, device, unsure_on}
use Rattle.newt_spec_world.specs.declared.command.Command.{Command}
use Rattle.newt_laws_steps.specs.StandsFor.{Holds, Marks, StandsFor, seen, seen_on}

-- ---- a unit that is looked at anew has a device, and it is not known what it holds

look-unsure : (w : World) (c : Command) (u : ℕ) → looks_anew w c ≡ Some u → unsure_on w u ≡ true
look-unsure w c u looks = at (looks_at c) looks
  where
    at : (o : Option ℕ) → option_and_then (unsure_look w) o ≡ Some u → unsure_on w u ≡ true
    at None e = absurd (none-some u e)
    at (Some v) e = passed (is_none (first_of (look_checks w v))) (unsure_on w v) refl e
      where
        passed : (a b : Bool) → unsure_on w v ≡ b → ◌≡◌ {A = Option ℕ} (if a && b then Some v else None) (Some u) → unsure_on w u ≡ true
        passed true true is k = ap (unsure_on w) (sym (some-same v u k)) ∙ is
        passed true false is k = absurd (none-some u k)
        passed false b is k = absurd (none-some u k)

unsure-device : (w : World) (u : ℕ) → unsure_on w u ≡ true → (d : Device) × (device w u ≡ Some d) × (is_unsure d.media ≡ true)
unsure-device w u h = go (device w u) refl
  where
    at : Option Device → Bool
    at o = elim o [ None ↦ false | Some d ↦ is_unsure d.media ]

    never : true ≡ false → ⊥
    never e = cc

    go : (o : Option Device) → device w u ≡ o → (d : Device) × (device w u ≡ Some d) × (is_unsure d.media ≡ true)
    go None e = absurd (never (sym h ∙ ap at e))
    go (Some d) e = (d, e, sym (ap at e) ∙ h)

-- ---- what is found there

module _ (reads : List ℕ → Option Store) where
  may-turn-out : (blocks : ℕ) (now : Moment) (u : ℕ) → MayLeave u now (image u now) → ((s : Store) → reads (image u now) ≡ Some s → IsTrue (valid blocks s))
      → (m : Media) → is_unsure m ≡ true → Holds reads now u m → MayTurnOut blocks m (media_of (reads (image u now)))
  may-turn-out blocks now u may good blank h holds = cc
  may-turn-out blocks now u may good (one s) h holds = cc
  may-turn-out blocks now u may good (two a b) h holds = elim (holds (image u now) may) [ inl e ↦ inl (ap media_of e) | inr e ↦ inr (ap media_of e) ]
  may-turn-out blocks now u may good lost h holds = known (reads (image u now)) refl
    where
      known : (o : Option Store) → reads (image u now) ≡ o → (media_of o ≡ blank) ⊎ ((s : Store) × IsTrue (valid blocks s) × (media_of o ≡ one s))
      known None e = inl refl
      known (Some s) e = inr (s, good s e, refl)

  pub seen-step : (marks : Marks) (outside : Outside) (w : World) (c : Command) → StandsFor reads marks outside w
      → ((u : ℕ) → IsSome (outside.card u) → MayLeave u outside.now (image u outside.now))
      → ((u : ℕ) (s : Store) → IsSome (outside.card u) → reads (image u outside.now) ≡ Some s → IsTrue (valid (outside.blocks u) s))
      → Step w c (answer (seen reads w outside.now c) c).0 (answer (seen reads w outside.now c) c).1
  seen-step marks outside w c stands may good = go (looks_anew w c) refl
    where
      there : (u : ℕ) → looks_anew w c ≡ Some u → Found w u (with_media w u (media_of (reads (image u outside.now))))
      there u looks =
          let r = unsure-device w u (look-unsure w c u looks) in
          let of = stands.devices u r.0 r.1 in
          let card : IsSome (outside.card u) = sym (stands.attached u) ∙ ap Rattle.std.specs.Option.is_some r.1 in
          record {
            on = r.0;
            there = r.1;
            holds = media_of (reads (image u outside.now));
            may = subst (λ (n : ℕ). MayTurnOut n r.0.media (media_of (reads (image u outside.now)))) (sym of.blocks)
                (may-turn-out (outside.blocks u) outside.now u (may u card) (λ s e. good u s card e) r.0.media r.2 of.holds);
            is = refl;
          }

      go : (o : Option ℕ) → looks_anew w c ≡ o → Step w c (answer (seen_on reads w outside.now o) c).0 (answer (seen_on reads w outside.now o) c).1
      go None e = plain e refl
      go (Some u) e = found {u = u} {v = with_media w u (media_of (reads (image u outside.now)))} e (there u e) refl
