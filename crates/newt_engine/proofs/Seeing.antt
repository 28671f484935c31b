-- What a command sees of a world that is meant by the known one, and what it makes of it.
use Rattle.std.proofs.Common.{arith, ◌≡◌, ◌≢◌, ◌⊎◌, inl, inr, refl, ap, sym, ◌∙◌, subst, ℕ, zero, suc, ◌≤◌, List, [], ◌∷◌, map, Bool, true, false, ◌&&◌, ◌||◌, nat_lt, IsTrue, Option, Some, None, option_map, option_and_then, is_none, if◌then◌else◌, ◌==◌}
use Rattle.std.specs.Prelude.{IsSome, is_some, slice_get}
use Rattle.std.proofs.lemmas.Bool.{eqb-true}
use Rattle.newt_base.specs.Refusals.{first_of}
use Rattle.newt_base.specs.declared.Refusal.{Refusal}
use Rattle.newt_base.specs.declared.Refusal.TheVariants.{Unit as NoUnit, Blocks, Mounted}
use Rattle.newt_host.specs.Moments.{Moment, image}
use Rattle.newt_host.specs.Outside.{Outside}
use Rattle.newt_spec_graph.proofs.Lists.{both-ways, none-some, some-same}
use Rattle.newt_spec_store.specs.Store.{Store, new_store}
use Rattle.newt_spec_world.specs.Answer.{answer, answered}
use Rattle.newt_spec_world.specs.Changed.{changed}
use Rattle.newt_spec_world.specs.First.{media_of, unit_numbers}
use Rattle.newt_spec_world.specs.Refused.{checks}
use Rattle.newt_spec_world.specs.Reply.{Reply}
use Rattle.newt_spec_world.specs.Step.{formats, is_accepted, is_format_of, look_checks, looks_anew, looks_at, unsure_look, with_media}
use Rattle.newt_spec_world.specs.World.{World, Device, Media, blank, one, two, lost, change_at, change_device, device, flat, is_unsure, stores_of, stores_on, unsure_on, IsBlankOn}
use Rattle.newt_spec_world.specs.declared.command.Command.{Command}
use Rattle.newt_spec_world.specs.declared.command.Command.TheVariants as command
use Rattle.newt_laws_world.proofs.Units.{device-other, device-same, same-or-not}
use Rattle.newt_laws_steps.specs.Meant.{MountedSure, meant_by, over, over_device, over_units}
use Rattle.newt_laws_steps.specs.StandsFor.{Holds, IsDeviceOf, IsKept, Marks, StandsFor, known, known_device, seen, seen_on}
use Rattle.newt_laws_steps.proofs.Held.{stands-sure}
use Rattle.newt_laws_steps.proofs.Kept.{stores-by, unsure-by}
use Rattle.newt_laws_steps.proofs.Meant.{device-m, known-over, store-m}
use Rattle.newt_laws_steps.proofs.MeantAnswer.{answer-m, sure-device}
use Rattle.newt_laws_steps.proofs.MeantRows.{first-m}
use Rattle.newt_laws_steps.proofs.MeantSteps.{found-m}
use Rattle.newt_laws_steps.proofs.Stepping.{row-sure}
use Rattle.newt_laws_steps.proofs.StoodFor.{known-stands}

-- ---- one unit

pub media-sure : (o : Option Store) → is_unsure (media_of o) ≡ false
media-sure None = refl
media-sure (Some s) = refl

-- the unit of a look that passes its tests, or none
abbrev looked : Bool → ℕ → Option ℕ
looked b u = if b then Some u else None

looked-none : (a : Bool) (u : ℕ) → looked (a && false) u ≡ None
looked-none true u = refl
looked-none false u = refl

-- a unit of which it is known what it holds is not looked at
pub look-none : (w : World) (u : ℕ) → unsure_on w u ≡ false → unsure_look w u ≡ None
look-none w u e = ap (λ b. looked (is_none (first_of (look_checks w u)) && b) u) e ∙ looked-none (is_none (first_of (look_checks w u))) u

-- the unit that is looked at
pub look-is : (w : World) (c : Command) (u : ℕ) → looks_anew w c ≡ Some u → (looks_at c ≡ Some u) × (unsure_look w u ≡ Some u)
look-is w c u looks = go (looks_at c) refl looks
  where
    its : (a : Bool) (v : ℕ) → looked a v ≡ Some u → v ≡ u
    its true v h = some-same v u h
    its false v h = absurd (none-some u h)

    go : (o : Option ℕ) → looks_at c ≡ o → option_and_then (unsure_look w) o ≡ Some u → (looks_at c ≡ Some u) × (unsure_look w u ≡ Some u)
    go None e h = absurd (none-some u h)
    go (Some v) e h =
        let is : v ≡ u = its (is_none (first_of (look_checks w v)) && unsure_on w v) v h in
        (e ∙ ap {B = Option ℕ} (λ n. Some n) is, subst (λ n. unsure_look w n ≡ Some u) is h)

pub look-unsure : (w : World) (u : ℕ) → unsure_look w u ≡ Some u → unsure_on w u ≡ true
look-unsure w u h = go (unsure_on w u) refl
  where
    go : (b : Bool) → unsure_on w u ≡ b → unsure_on w u ≡ true
    go true e = e
    go false e = absurd (none-some u (sym (look-none w u e) ∙ h))

-- where a format of it is at hand, nothing is looked at anew where the unit is sure
looks-sure : (w : World) (c : Command) (u : ℕ) → is_format_of c u ≡ true → unsure_on w u ≡ false → looks_anew w c ≡ None
looks-sure w (command.Format t name sig) u is e = look-none w t (ap (unsure_on w) (eqb-true t u is) ∙ e)
looks-sure w c u is e = absurd (both-ways is)

-- ---- what a unit holds

abbrev stores-at : Option Device → List Store
stores-at o = elim o [ None ↦ [] | Some d ↦ stores_of d.media ]

abbrev unsure-at : Option Device → Bool
unsure-at o = elim o [ None ↦ false | Some d ↦ is_unsure d.media ]

-- whatever is meant of it, what is known of it stays
pub stores-same : (f : ℕ → Media) (w : World) (u : ℕ) → unsure_on w u ≡ false → stores_on (meant_by f w) u ≡ stores_on w u
stores-same f w u e = ap stores-at (device-m f w u) ∙ go (device w u) e
  where
    go : (o : Option Device) → unsure-at o ≡ false → stores-at (option_map (over_device (f u)) o) ≡ stores-at o
    go None e = refl
    go (Some d) e = ap stores_of (known-over (f u) d.media e)

-- a unit that is blank is sure
pub blank-sure : (w : World) (u : ℕ) → IsBlankOn w u → unsure_on w u ≡ false
blank-sure w u is = unsure-by w u is.0 is.1 ∙ ap is_unsure is.2

-- and where it is sure, it is blank whatever is meant of it
pub blank-same : (f : ℕ → Media) (w : World) (u : ℕ) → unsure_on w u ≡ false → IsBlankOn (meant_by f w) u → IsBlankOn w u
blank-same f w u e is = go (device w u) refl (sym (device-m f w u) ∙ is.1)
  where
    go : (o : Option Device) → device w u ≡ o → option_map (over_device (f u)) o ≡ Some is.0 → IsBlankOn w u
    go None k h = absurd (none-some is.0 h)
    go (Some d) k h = (d, k, sym (known-over (f u) d.media (sym (unsure-by w u d k) ∙ e)) ∙ ap (λ (x : Device). x.media) (some-same (over_device (f u) d) is.0 h) ∙ is.2)

-- a unit of which it is known what it holds, stays so
pub answer-sure : (w : World) (c : Command) (u : ℕ) → unsure_on w u ≡ false → unsure_on (answer w c).0 u ≡ false
unfolding answer
answer-sure w c u e = go (first_of (checks w c))
  where
    go : (o : Option Refusal) → unsure_on (answered w c o).0 u ≡ false
    go None = row-sure w c u e
    go (Some r) = e

-- a unit that is formatted has a store
abbrev formatted : List ℕ → ℕ → Device → Device
formatted name sig d = record d { media = one (new_store name sig); mounted = false }

format-one : (w : World) (t : ℕ) (name : List ℕ) (sig u : ℕ) (o : Option Refusal) → is_format_of (command.Format t name sig) u && is_none o ≡ true
    → (d : Device) → device (answered w (command.Format t name sig) o).0 u ≡ Some d → (s : Store) × (d.media ≡ one s)
unfolding changed
format-one w t name sig u (Some r) h d is = absurd (both-ways (sym (none (t == u)) ∙ h))
  where
    none : (b : Bool) → b && false ≡ false
    none true = refl
    none false = refl
format-one w t name sig u None h d is = made (device w t) (sym (device-same w t (formatted name sig)) ∙ ap (device (change_device w t (formatted name sig))) (here (t == u) refl h) ∙ is)
  where
    here : (b : Bool) → (t == u) ≡ b → b && true ≡ true → t ≡ u
    here true e k = eqb-true t u e
    here false e k = absurd (both-ways k)

    made : (o : Option Device) → option_map (formatted name sig) o ≡ Some d → (s : Store) × (d.media ≡ one s)
    made None k = absurd (none-some d k)
    made (Some x) k = (new_store name sig, ap (λ (y : Device). y.media) (sym (some-same (formatted name sig x) d k)))

pub formatted-one : (w : World) (c : Command) (u : ℕ) → formats w c u ≡ true → (d : Device) → device (answer w c).0 u ≡ Some d → (s : Store) × (d.media ≡ one s)
unfolding answer
formatted-one w (command.Format t name sig) u h d is = format-one w t name sig u (first_of (checks w (command.Format t name sig))) h d is
formatted-one w c u h d is = absurd (both-ways h)

-- ---- the known world

-- the unit of a number is that of its function, and after the eighth there is none
at-number : (f : ℕ → Option Device) (u : ℕ) → (flat (slice_get (map f unit_numbers) u) ≡ f u) ⊎ ((8 ≤ u) × (flat (slice_get (map f unit_numbers) u) ≡ None))
at-number f zero = inl refl
at-number f (suc zero) = inl refl
at-number f (suc (suc zero)) = inl refl
at-number f (suc (suc (suc zero))) = inl refl
at-number f (suc (suc (suc (suc zero)))) = inl refl
at-number f (suc (suc (suc (suc (suc zero))))) = inl refl
at-number f (suc (suc (suc (suc (suc (suc zero)))))) = inl refl
at-number f (suc (suc (suc (suc (suc (suc (suc zero))))))) = inl refl
at-number f (suc (suc (suc (suc (suc (suc (suc (suc n)))))))) = inr (omega arith, refl)

module _ (reads : List ℕ → Option Store) (marks : Marks) (outside : Outside) (kept : IsKept reads marks outside) where
  abbrev its-device : Option (List ℕ) → ℕ → Option Device
  its-device card u = option_map {U = Device} (λ name. record {
    blocks = outside.blocks u;
    media = if marks.due u then lost else media_of (reads (image u outside.now));
    mounted = marks.mounted u;
  }) card

  pub known-at : (u : ℕ) → device (known reads marks outside) u ≡ known_device reads marks outside u
  known-at u = elim (at-number (known_device reads marks outside) u) [
    | inl e ↦ e
    | inr e ↦ e.1 ∙ sym (ap (λ card. its-device card u) (kept.eight u e.0))
  ]

  -- of which a sync is due, if it has a device
  pub known-due : (u : ℕ) (d : Device) → device (known reads marks outside) u ≡ Some d → is_unsure d.media ≡ marks.due u
  known-due u d e = go (outside.card u) (sym (known-at u) ∙ e)
    where
      its : (b : Bool) → is_unsure (if b then lost else media_of (reads (image u outside.now))) ≡ b
      its true = refl
      its false = media-sure (reads (image u outside.now))

      go : (card : Option (List ℕ)) → its-device card u ≡ Some d → is_unsure d.media ≡ marks.due u
      go None h = absurd (none-some d h)
      go (Some name) h = ap (λ (x : Device). is_unsure x.media) (sym (some-same _ d h)) ∙ its (marks.due u)

  -- a unit of which none is due is sure
  pub known-sure : (u : ℕ) → marks.due u ≡ false → unsure_on (known reads marks outside) u ≡ false
  known-sure u due = go (device (known reads marks outside) u) refl
    where
      go : (o : Option Device) → device (known reads marks outside) u ≡ o → unsure-at o ≡ false
      go None e = refl
      go (Some d) e = known-due u d e ∙ due

  pub known-none : (u : ℕ) → outside.card u ≡ None → device (known reads marks outside) u ≡ None
  known-none u none = known-at u ∙ ap (λ card. its-device card u) none

  pub known-some : (u : ℕ) → IsSome (outside.card u) → (d : Device) × (device (known reads marks outside) u ≡ Some d)
  known-some u some = go (outside.card u) refl
    where
      go : (card : Option (List ℕ)) → outside.card u ≡ card → (d : Device) × (device (known reads marks outside) u ≡ Some d)
      go None e = absurd (both-ways (sym (ap is_some e) ∙ some))
      go (Some name) e = (_, known-at u ∙ ap (λ card. its-device card u) e)

-- ---- what is seen

module _ (reads : List ℕ → Option Store) (marks : Marks) (outside : Outside) (c : Command) (kept : IsKept reads marks outside) where
  abbrev w0 : World
  w0 = known reads marks outside

  abbrev s0 : World
  s0 = seen reads w0 outside.now c

  abbrev image-media : ℕ → Media
  image-media u = media_of (reads (image u outside.now))

  sure-w0 : MountedSure w0
  sure-w0 = stands-sure reads marks outside w0 (known-stands reads marks outside kept)

  -- a world in which a unit is looked at anew, or none
  seen-sure : (w : World) (o : Option ℕ) (u : ℕ) → unsure_on w u ≡ false → unsure_on (seen_on reads w outside.now o) u ≡ false
  seen-sure w None u e = e
  seen-sure w (Some n) u e = go (same-or-not u n)
    where
      put : (o : Option Device) → unsure-at (option_map (λ (d : Device). record d { media = image-media n }) o) ≡ false
      put None = refl
      put (Some d) = media-sure (reads (image n outside.now))

      go : (u ≡ n) ⊎ (u ≡ n → ⊥) → unsure_on (with_media w n (image-media n)) u ≡ false
      go (inl is) = ap (unsure_on (with_media w n (image-media n))) is ∙ ap unsure-at (device-same w n (λ d. record d { media = image-media n })) ∙ put (device w n)
      go (inr other) = ap unsure-at (device-other w n (λ d. record d { media = image-media n }) u other) ∙ e

  -- the same of each unit of which no sync is due
  pub due-sure : (u : ℕ) → marks.due u ≡ false → unsure_on s0 u ≡ false
  due-sure u due = seen-sure w0 (looks_anew w0 c) u (known-sure reads marks outside kept u due)

  pub due-answer : (u : ℕ) → marks.due u ≡ false → unsure_on (answer s0 c).0 u ≡ false
  due-answer u due = answer-sure s0 c u (due-sure u due)

  -- a unit that is unsure in the answer is one of which a sync was due
  pub answer-due : (u : ℕ) → unsure_on (answer s0 c).0 u ≡ true → marks.due u ≡ true
  answer-due u h = go (marks.due u) refl
    where
      go : (b : Bool) → marks.due u ≡ b → marks.due u ≡ true
      go true e = e
      go false e = absurd (both-ways (sym (due-answer u e) ∙ h))

  pub sure-s0 : MountedSure s0
  sure-s0 = go (looks_anew w0 c)
    where
      go : (o : Option ℕ) → MountedSure (seen_on reads w0 outside.now o)
      go None = sure-w0
      go (Some u) = sure-device w0 u (λ d. record d { media = image-media u }) sure-w0 (λ d e m. media-sure (reads (image u outside.now)))

  -- nothing is left to look at
  pub none-left : looks_anew s0 c ≡ None
  none-left = go (looks_anew w0 c) refl
    where
      at : (u : ℕ) (o : Option ℕ) → o ≡ Some u → unsure_on (with_media w0 u (image-media u)) u ≡ false → option_and_then (unsure_look (with_media w0 u (image-media u))) o ≡ None
      at u o e sure = ap (option_and_then (unsure_look (with_media w0 u (image-media u)))) e ∙ look-none (with_media w0 u (image-media u)) u sure

      put : (u : ℕ) (o : Option Device) → unsure-at (option_map (λ (d : Device). record d { media = image-media u }) o) ≡ false
      put u None = refl
      put u (Some d) = media-sure (reads (image u outside.now))

      go : (o : Option ℕ) → looks_anew w0 c ≡ o → looks_anew (seen_on reads w0 outside.now o) c ≡ None
      go None e = e
      go (Some u) e = at u (looks_at c) (look-is w0 c u e).0 (ap unsure-at (device-same w0 u (λ d. record d { media = image-media u })) ∙ put u (device w0 u))

  module _ (f : ℕ → Media) (stands : StandsFor reads marks outside (meant_by f w0)) where
    abbrev w : World
    w = meant_by f w0

    -- what is held where it is known is what the image is read as
    held : (u : ℕ) (m : Media) → is_unsure m ≡ false → Holds reads outside.now u m → m ≡ image-media u
    held u blank h k = sym (ap media_of k.1)
    held u (one s) h k = sym (ap media_of k.1)
    held u (two a b) h k = absurd (both-ways (sym h))
    held u lost h k = absurd (both-ways (sym h))

    -- the tests of a look are the same
    looks-same : (u : ℕ) → look_checks w u ≡ look_checks w0 u
    looks-same u = λ i. (NoUnit, none i) ∷ (Blocks, blocks i) ∷ (Mounted, is_some (store-m f w0 sure-w0 u i)) ∷ []
      where
        blocks-at : Option Device → Bool
        blocks-at o = elim o [ None ↦ true | Some d ↦ nat_lt d.blocks 13 || nat_lt 4099 d.blocks ]

        none-over : (o : Option Device) → is_none (option_map (over_device (f u)) o) ≡ is_none o
        none-over None = refl
        none-over (Some d) = refl

        blocks-over : (o : Option Device) → blocks-at (option_map (over_device (f u)) o) ≡ blocks-at o
        blocks-over None = refl
        blocks-over (Some d) = refl

        none : is_none (device w u) ≡ is_none (device w0 u)
        none = ap is_none (device-m f w0 u) ∙ none-over (device w0 u)

        blocks : blocks-at (device w u) ≡ blocks-at (device w0 u)
        blocks = ap blocks-at (device-m f w0 u) ∙ blocks-over (device w0 u)

    unsure-same : (u : ℕ) → unsure_on w0 u ≡ false → unsure_on w u ≡ false
    unsure-same u e = ap unsure-at (device-m f w0 u) ∙ go (device w0 u) e
      where
        go : (o : Option Device) → unsure-at o ≡ false → unsure-at (option_map (over_device (f u)) o) ≡ false
        go None e = refl
        go (Some d) e = ap is_unsure (known-over (f u) d.media e) ∙ e

    -- a unit that is not looked at in the known world is not here
    look-less : (u : ℕ) → unsure_look w0 u ≡ None → unsure_look w u ≡ None
    look-less u e = ap (λ a. looked (is_none (first_of a) && unsure_on w u) u) (looks-same u) ∙ go (is_none (first_of (look_checks w0 u))) (unsure_on w0 u) refl e
      where
        go : (a b : Bool) → unsure_on w0 u ≡ b → looked (a && b) u ≡ None → looked (a && unsure_on w u) u ≡ None
        go true true k h = absurd (none-some u (sym h))
        go true false k h = ap (λ b. looked b u) (unsure-same u k)
        go false b k h = refl

    -- one that is looked at there, and not here, is sure here
    unlooked : (u : ℕ) → unsure_look w0 u ≡ Some u → unsure_look w u ≡ None → unsure_on w u ≡ false
    unlooked u e h = go (is_none (first_of (look_checks w0 u))) (unsure_on w u) e (sym (ap (λ a. looked (is_none (first_of a) && unsure_on w u) u) (looks-same u)) ∙ h)
      where
        go : (a b : Bool) → looked (a && unsure_on w0 u) u ≡ Some u → looked (a && b) u ≡ None → b ≡ false
        go true true e h = absurd (none-some u (sym h))
        go true false e h = refl
        go false b e h = absurd (none-some u e)

    -- a unit put to what it holds already
    put-idle : (us : List (Option Device)) (u : ℕ) (m : Media) → ((d : Device) → flat (slice_get us u) ≡ Some d → d.media ≡ m) → change_at u (λ (d : Device). record d { media = m }) us ≡ us
    put-idle [] u m h = refl
    put-idle (x ∷ xs) zero m h = ap (λ (o : Option Device). o ∷ xs) (here x (λ d e. h d e))
      where
        here : (o : Option Device) → ((d : Device) → o ≡ Some d → d.media ≡ m) → option_map (λ (d : Device). record d { media = m }) o ≡ o
        here None k = refl
        here (Some d) k = ap (λ (y : Media). let z : Option Device = Some (record d { media = y }) in z) (sym (k d refl))
    put-idle (x ∷ xs) (suc u) m h = ap (λ (os : List (Option Device)). x ∷ os) (put-idle xs u m h)

    with-idle : (u : ℕ) → unsure_on w u ≡ false → with_media w u (image-media u) ≡ w
    with-idle u sure = ap (λ (us : List (Option Device)). record w { units = us }) (put-idle w.units u (image-media u)
        (λ d e. held u d.media (sym (unsure-by w u d e) ∙ sure) (stands.devices u d e).holds))

    -- what is seen of the world that is meant is meant by what is seen of the known one
    pub seen-m : seen reads w outside.now c ≡ meant_by f s0
    seen-m = go (looks_anew w0 c) refl
      where
        nothing : (o : Option ℕ) → option_and_then (unsure_look w0) o ≡ None → option_and_then (unsure_look w) o ≡ None
        nothing None e = refl
        nothing (Some u) e = look-less u e

        here : (u : ℕ) → looks_anew w0 c ≡ Some u → (o : Option ℕ) → looks_anew w c ≡ o → looks_at c ≡ Some u → seen_on reads w outside.now o ≡ with_media w u (image-media u)
        here u is None e at = sym (with-idle u (unlooked u (look-is w0 c u is).1 (sym (ap (option_and_then (unsure_look w)) at) ∙ e)))
        here u is (Some n) e at = ap (λ k. with_media w k (image-media k)) (some-same n u (sym (look-is w c n e).0 ∙ at))

        go : (o : Option ℕ) → looks_anew w0 c ≡ o → seen reads w outside.now c ≡ meant_by f (seen_on reads w0 outside.now o)
        go None e = ap (seen_on reads w outside.now) (nothing (looks_at c) e)
        go (Some u) e = here u e (looks_anew w c) refl (look-is w0 c u e).0 ∙ found-m f w0 u (image-media u) (media-sure (reads (image u outside.now)))

    -- so it is answered the same
    pub answer-seen : answer (seen reads w outside.now c) c ≡ (meant_by f (answer s0 c).0, (answer s0 c).1)
    answer-seen = ap (λ x. answer x c) seen-m ∙ answer-m f s0 c sure-s0 none-left

    first-seen : first_of (checks (seen reads w outside.now c) c) ≡ first_of (checks s0 c)
    first-seen = ap (λ x. first_of (checks x c)) seen-m ∙ first-m f s0 sure-s0 c none-left

    -- where a unit is blank, it is formatted here where it is formatted in what is seen
    pub formats-seen : (u : ℕ) → IsBlankOn w u → formats w c u ≡ formats s0 c u
    formats-seen u is = go (is_format_of c u) refl
      where
        go : (b : Bool) → is_format_of c u ≡ b → formats w c u ≡ formats s0 c u
        go false e = ap (λ x. x && is_accepted w c) e ∙ sym (ap (λ x. x && is_accepted s0 c) e)
        go true e = ap (λ (o : Option Refusal). is_format_of c u && is_none o)
            (ap (λ (o : Option ℕ). first_of (checks (seen_on reads w outside.now o) c)) (sym (looks-sure w c u e (blank-sure w u is))) ∙ first-seen)

  pub formats-known : (u : ℕ) → IsBlankOn w0 u → formats w0 c u ≡ formats s0 c u
  formats-known u is = go (is_format_of c u) refl
    where
      go : (b : Bool) → is_format_of c u ≡ b → formats w0 c u ≡ formats s0 c u
      go false e = ap (λ x. x && is_accepted w0 c) e ∙ sym (ap (λ x. x && is_accepted s0 c) e)
      go true e = ap (λ (o : Option ℕ). formats (seen_on reads w0 outside.now o) c u) (sym (looks-sure w0 c u e (blank-sure w0 u is)))
