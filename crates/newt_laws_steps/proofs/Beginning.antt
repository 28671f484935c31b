-- The worlds of devices that have just been attached.
use Rattle.std.proofs.Common.{◌≡◌, ℕ, ◌*◌, ◌/◌, ◌<◌, Bool, true, false, IsTrue, IsSome, List, [], ◌∷◌, length, map, Option, Some, None, refl, sym, ◌∙◌, ap, subst, arith}
use Rattle.std.specs.Prelude.{slice_get, option_map, option_and_then}
use Rattle.std.proofs.Math.Nat.{mul-div_cancel}
use Rattle.std.proofs.lemmas.Bool.{false≢true}
use Rattle.newt_host_attach.specs.Named.{AreAttached, if_known}
use Rattle.newt_host.specs.Moments.{Attached, Change, IsDurable, LeftBy, Moment, bytes_after, changes, image}
use Rattle.newt_host.specs.Outside.{Outside}
use Rattle.newt_spec_store.specs.OfImage.{blocks_of}
use Rattle.newt_spec_store.specs.Store.{Store}
use Rattle.newt_spec_world.specs.First.{media_of, unit_numbers, unit_of, world_of}
use Rattle.newt_spec_world.specs.World.{Device, first_world}
use Rattle.newt_laws_steps.specs.Devices.{device_now, world_now}

map_same : {A B : Type 0} (f g : A → B) (xs : List A) → ((x : A) → f x ≡ g x) → map f xs ≡ map g xs
map_same f g [] each = refl
map_same {A} {B} f g (x ∷ xs) each = ap {A = B} {B = List B} (λ y. y ∷ map f xs) (each x) ∙ ap {A = List B} {B = List B} (λ ys. g x ∷ ys) (map_same f g xs each)

module _ (reads : List ℕ → Option Store) (names : List (List ℕ)) (old new : Outside) (a : AreAttached true names old new) (sized : (unit : ℕ) → length (image unit new.now) ≡ new.blocks unit * 4096) where
  -- what a unit reads as, if a device was attached to it
  pub image_is : (unit : ℕ) (bytes : List ℕ) → changes unit new.now ≡ Attached bytes ∷ [] → image unit new.now ≡ bytes
  image_is unit bytes only = ap bytes_after only

  blocks_are : (unit : ℕ) (bytes : List ℕ) → image unit new.now ≡ bytes → new.blocks unit ≡ blocks_of bytes
  blocks_are unit bytes is =
      let size : length bytes ≡ new.blocks unit * 4096 = ap length (sym is) ∙ sized unit in
      let some : 0 < 4096 = omega arith in
      sym (ap (λ (n : ℕ). n / 4096) size ∙ mul-div_cancel (new.blocks unit) some)

  device_is : (unit : ℕ) (bytes : List ℕ) → image unit new.now ≡ bytes
      → ◌≡◌ {A = Device} (record { blocks = new.blocks unit; media = media_of (reads (image unit new.now)); mounted = false }) (record { blocks = blocks_of bytes; media = media_of (reads bytes); mounted = false })
  device_is unit bytes is =
      ap {A = ℕ} {B = Device} (λ n. record { blocks = n; media = media_of (reads (image unit new.now)); mounted = false }) (blocks_are unit bytes is)
      ∙ ap {A = List ℕ} {B = Device} (λ b. record { blocks = blocks_of bytes; media = media_of (reads b); mounted = false }) is

  -- the device of a name
  named : (unit : ℕ) (o : Option (List ℕ)) → slice_get names unit ≡ o → device_now reads new unit ≡ unit_of reads old.devices names unit
  named unit None e =
      let none : new.card unit ≡ None = a.cards refl unit ∙ ap (if_known old) e in
      ap (option_map (λ (name : List ℕ). record { blocks = new.blocks unit; media = media_of (reads (image unit new.now)); mounted = false })) none
      ∙ sym (ap (λ (o : Option (List ℕ)). option_map (λ (bytes : List ℕ). record { blocks = blocks_of bytes; media = media_of (reads bytes); mounted = false }) (option_and_then old.devices o)) e)
  named unit (Some name) e = there (old.devices name) refl
    where
      there : (d : Option (List ℕ)) → old.devices name ≡ d → device_now reads new unit ≡ unit_of reads old.devices names unit
      there None k =
          let none : new.card unit ≡ None = a.cards refl unit ∙ (ap (if_known old) e ∙ ap (option_map (λ (bytes : List ℕ). name)) k) in
          ap (option_map (λ (name : List ℕ). record { blocks = new.blocks unit; media = media_of (reads (image unit new.now)); mounted = false })) none
          ∙ sym (ap (λ (o : Option (List ℕ)). option_map (λ (bytes : List ℕ). record { blocks = blocks_of bytes; media = media_of (reads bytes); mounted = false }) (option_and_then old.devices o)) e
          ∙ ap (option_map (λ (bytes : List ℕ). record { blocks = blocks_of bytes; media = media_of (reads bytes); mounted = false })) k)
      there (Some bytes) k =
          let some : new.card unit ≡ Some name = a.cards refl unit ∙ (ap (if_known old) e ∙ ap (option_map (λ (bytes : List ℕ). name)) k) in
          let was = a.begins refl unit name some in
          let same : was.0 ≡ bytes = let both : Some was.0 ≡ Some bytes = sym was.1 ∙ k in cc in
          ap (option_map (λ (name : List ℕ). record { blocks = new.blocks unit; media = media_of (reads (image unit new.now)); mounted = false })) some
          ∙ (ap {A = Device} {B = Option Device} Some (device_is unit bytes (image_is unit was.0 was.2 ∙ same))
          ∙ sym (ap (λ (o : Option (List ℕ)). option_map (λ (bytes : List ℕ). record { blocks = blocks_of bytes; media = media_of (reads bytes); mounted = false }) (option_and_then old.devices o)) e
          ∙ ap (option_map (λ (bytes : List ℕ). record { blocks = blocks_of bytes; media = media_of (reads bytes); mounted = false })) k))

  pub attached-world : world_now reads new ≡ world_of reads old.devices names
  attached-world = ap first_world (map_same (device_now reads new) (unit_of reads old.devices names) unit_numbers (λ unit. named unit (slice_get names unit) refl))

-- a unit that was attached has nothing pending
pub attached-durable : (unit : ℕ) (bytes : List ℕ) (now : Moment) → changes unit now ≡ Attached bytes ∷ [] → IsDurable unit now
attached-durable unit bytes now only left may =
    let is : LeftBy (Attached bytes ∷ []) left = subst (λ (done : List Change). LeftBy done left) only may in
    is ∙ sym (ap bytes_after only)

-- nothing is pending on the units that were attached
pub attached-at-rest : (told : Bool) (names : List (List ℕ)) (old new : Outside) → AreAttached told names old new → IsTrue told → (unit : ℕ) → IsSome (new.card unit) → IsDurable unit new.now
attached-at-rest told names old new a tells unit some = go (new.card unit) refl some
  where
    go : (o : Option (List ℕ)) → new.card unit ≡ o → IsSome o → IsDurable unit new.now
    go None e s = absurd (false≢true s)
    go (Some name) e s = let was = a.begins tells unit name e in attached-durable unit was.0 new.now was.2
