-- What holds of all worlds of a run.
use Rattle.std.proofs.Common.{◌≡◌, refl, ap, sym, ◌∙◌, ℕ, zero, suc, List, [], ◌∷◌, map, subst, option_map, false, IsTrue, cond, Option, Some, None, option_and_then}
use Rattle.std.specs.Prelude.{slice_get}
use Rattle.newt_spec_store.specs.Store.{Store}
use Rattle.newt_spec_world.specs.declared.command.Command.{Command}
use Rattle.newt_spec_world.specs.World.{World, Device, device, first_world, flat, store_if_mounted, store_of}
use Rattle.newt_spec_store.specs.OfImage.{blocks_of}
use Rattle.newt_spec_store.specs.Valid.{valid}
use Rattle.newt_spec_world.specs.First.{unit_numbers, media_of, device_of, unit_of, world_of}
use Rattle.newt_spec_world.specs.Answer.{answer, after}
use Rattle.newt_spec_graph.specs.Lists.{Each}
use Rattle.newt_laws_world.specs.Worlds.{AllValid, OnMedia, has_form}
use Rattle.newt_laws_world.specs.Settled.{IsSettled, MountedApart}
use Rattle.newt_spec_graph.proofs.Lists.{none-some, some-same}
use Rattle.newt_laws_world.proofs.Fitting.{answer-valid}
use Rattle.newt_laws_world.proofs.Settled.{answer-settled}
use Rattle.newt_laws_world.proofs.Mounted.{answer-apart, apart-from-units}

pub run-valid : (w : World) (cs : List Command) → AllValid w → Each (λ c. IsTrue (has_form c)) cs → AllValid (after w cs)
run-valid w [] h k = h
run-valid w (c ∷ cs) h k = run-valid (answer w c).0 cs (answer-valid w c h k.0) k.1

pub run-settled : (w : World) (cs : List Command) → IsSettled w → IsSettled (after w cs)
run-settled w [] h = h
run-settled w (c ∷ cs) h = run-settled (answer w c).0 cs (answer-settled w c h)

pub run-apart : (w : World) (cs : List Command) → MountedApart w → MountedApart (after w cs)
run-apart w [] h = h
run-apart w (c ∷ cs) h = run-apart (answer w c).0 cs (answer-apart w c h)

pub first-settled : (units : List (Option Device)) → IsSettled (first_world units)
first-settled units = refl

-- nothing is mounted at first
pub first-apart : (units : List (Option Device)) → ((u : ℕ) (d : Device) → flat (slice_get units u) ≡ Some d → d.mounted ≡ false) → MountedApart (first_world units)
first-apart units h = apart-from-units units (λ m n s t differ e f same. go m s (flat (slice_get units m)) refl e)
  where
    go : (m : ℕ) (s : Store) (o : Option Device) → flat (slice_get units m) ≡ o → option_and_then store_if_mounted o ≡ Some s → ⊥
    go m s None e k = none-some s k
    go m s (Some d) e k = none-some s (sym (ap (λ b. cond b (store_of d.media) None) (h m d e)) ∙ k)

-- ---- the first world of a run over images

pub mapped-at : {X : Type 0} (f : ℕ → Option X) (ns : List ℕ) (u : ℕ) (d : X) → flat (slice_get (map f ns) u) ≡ Some d → (n : ℕ) × (f n ≡ Some d)
mapped-at f [] u d h = absurd (none-some d h)
mapped-at f (n ∷ ns) zero d h = (n, h)
mapped-at f (n ∷ ns) (suc u) d h = mapped-at f ns u d h

module _ (store_of_image : List ℕ → Option Store) (held : List ℕ → Option (List ℕ)) where
  made-from : (o : Option (List ℕ)) (d : Device) → option_map (device_of store_of_image held) o ≡ Some d → (image : List ℕ) × (device_of store_of_image held image ≡ d)
  made-from None d h = absurd (none-some d h)
  made-from (Some image) d h = (image, some-same (device_of store_of_image held image) d h)

  unit-from : (names : List (List ℕ)) (u : ℕ) (d : Device) → device (world_of store_of_image held names) u ≡ Some d → (image : List ℕ) × (device_of store_of_image held image ≡ d)
  unit-from names u d h = let at = mapped-at (unit_of store_of_image held names) unit_numbers u d h in
      made-from (option_and_then held (slice_get names at.0)) d at.1

  pub first-valid : (names : List (List ℕ)) → ((image : List ℕ) (s : Store) → store_of_image image ≡ Some s → IsTrue (valid (blocks_of image) s)) → AllValid (world_of store_of_image held names)
  first-valid names good = λ u _ d h. let made = unit-from names u d h in
      subst (λ (x : Device). OnMedia (λ blocks s. IsTrue (valid blocks s)) x.blocks x.media) made.1 (go made.0 (store_of_image made.0) refl)
    where
      go : (image : List ℕ) (o : Option Store) → store_of_image image ≡ o → OnMedia (λ blocks s. IsTrue (valid blocks s)) (blocks_of image) (media_of o)
      go image None e = tt
      go image (Some s) e = good image s e

  pub first-unmounted : (names : List (List ℕ)) → MountedApart (world_of store_of_image held names)
  first-unmounted names = first-apart (map (unit_of store_of_image held names) unit_numbers)
      (λ u d h. let made = unit-from names u d h in sym (ap (λ (x : Device). x.mounted) made.1))
