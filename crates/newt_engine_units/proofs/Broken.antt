-- What stands where the device of a unit has failed in a call.
use Rattle.std.proofs.Common.{◌≡◌, refl, ap, sym, ◌∙◌, subst, ℕ, zero, suc, List, [], ◌∷◌, false, Option, Some, None, option_map, if◌then◌else◌}
use Rattle.std.specs.Prelude.{Result, Ok, Err, IfErr, IsSome}
use Rattle.newt_host.specs.Moments.{changes, image}
use Rattle.newt_host.specs.Outside.{Outside, SameCards, Touches, NoFault}
use Rattle.newt_pagebook.specs.Stops.{StopsAt}
use Rattle.newt_pagebook.specs.declared.book.Stop.{Stop as End}
use Rattle.newt_pagebook.specs.declared.book.Stop.TheVariants.{Memory, Device as OfDevice}
use Rattle.newt_spec_store.specs.Store.{Store}
use Rattle.newt_spec_world.specs.Changed.{default_without}
use Rattle.newt_spec_world.specs.First.{media_of}
use Rattle.newt_spec_world.specs.Step.{thrown_out}
use Rattle.newt_spec_world.specs.World.{World, Device, lost, change_at, change_device}
use Rattle.newt_laws_answers.proofs.Worlds.{device-here, world-changed}
use Rattle.newt_store_change.specs.declared.fault.StoreFault.{StoreFault}
use Rattle.newt_store_change.specs.declared.fault.StoreFault.TheVariants.{Refused, Stop}
use Rattle.newt_store_change.specs.Faults.{FaultsAt, NoDevice}
use Rattle.newt_engine_units.specs.declared.units.Units.{Units}
use Rattle.newt_engine_units.specs.Breaks.{AtDevice, AtStop, FailsAlone}
use Rattle.newt_engine_units.specs.Stands.{due_in, mounted_in, world_of}
use Rattle.newt_engine_units.proofs.Slots.{Replaced, dues, marks}

-- ---- where a device failed

pub at-device-map : (P Q : ℕ → Type 0) (fault : StoreFault) → ((u : ℕ) → P u → Q u) → AtDevice P fault → AtDevice Q fault
at-device-map P Q (Refused refusal) f h = tt
at-device-map P Q (Stop Memory) f h = tt
at-device-map P Q (Stop (OfDevice u)) f h = f u h

pub err-device-map : {T : Type 0} (P Q : ℕ → Type 0) (result : Result T StoreFault) → ((u : ℕ) → P u → Q u) → IfErr result (AtDevice P) → IfErr result (AtDevice Q)
err-device-map P Q (Ok x) f h = tt
err-device-map P Q (Err fault) f h = at-device-map P Q fault f h

pub err-stop-map : {T : Type 0} (P Q : ℕ → Type 0) (result : Result T End) → ((u : ℕ) → P u → Q u) → IfErr result (AtStop P) → IfErr result (AtStop Q)
err-stop-map P Q (Ok x) f h = tt
err-stop-map P Q (Err Memory) f h = tt
err-stop-map P Q (Err (OfDevice u)) f h = f u h

-- no device has
pub none-device : (P : ℕ → Type 0) (fault : StoreFault) → NoDevice fault → AtDevice P fault
none-device P (Refused refusal) h = tt
none-device P (Stop Memory) h = tt
none-device P (Stop (OfDevice u)) h = absurd h

pub none-devices : {T : Type 0} (P : ℕ → Type 0) (result : Result T StoreFault) → IfErr result (λ fault. NoDevice fault) → IfErr result (AtDevice P)
none-devices P (Ok x) h = tt
none-devices P (Err fault) h = none-device P fault h

-- both hold of it
pub at-device-both : (P Q R : ℕ → Type 0) (fault : StoreFault) → ((u : ℕ) → P u → Q u → R u) → AtDevice P fault → AtDevice Q fault → AtDevice R fault
at-device-both P Q R (Refused refusal) f h k = tt
at-device-both P Q R (Stop Memory) f h k = tt
at-device-both P Q R (Stop (OfDevice u)) f h k = f u h k

-- the device of this unit has
pub its-device : (P : ℕ → Type 0) (u : ℕ) (o p : Outside) (fault : StoreFault) → P u → FaultsAt u o p fault → AtDevice P fault
its-device P u o p (Refused refusal) h at = tt
its-device P u o p (Stop Memory) h at = tt
its-device P u o p (Stop (OfDevice k)) h at = subst P (sym at.0) h

pub its-devices : {T : Type 0} (P : ℕ → Type 0) (u : ℕ) (o p : Outside) (result : Result T StoreFault) → P u → IfErr result (FaultsAt u o p) → IfErr result (AtDevice P)
its-devices P u o p (Ok x) h at = tt
its-devices P u o p (Err fault) h at = its-device P u o p fault h at

pub its-stops : {T : Type 0} (P : ℕ → Type 0) (u : ℕ) (o p : Outside) (result : Result T End) → P u → IfErr result (StopsAt u o p) → IfErr result (AtStop P)
its-stops P u o p (Ok x) h at = tt
its-stops P u o p (Err Memory) h at = tt
its-stops P u o p (Err (OfDevice k)) h at = subst P (sym at.0) h

-- ---- it alone

pub fails-alone : {u : ℕ} {o p : Outside} → IsSome (o.card u) → Touches u o p → FailsAlone o p u
fails-alone there t = record { attached = there; others = t.dev_faults }

-- after a call in which none failed
pub fails-after : {u : ℕ} {o m p : Outside} → SameCards o m → NoFault o m → FailsAlone m p u → FailsAlone o p u
fails-after {u} cards none f = record {
  attached = subst IsSome (cards.card u) f.attached;
  others = λ n other. f.others n other ∙ none.dev_faults n;
}

-- ---- the world without a unit

change-twice : {X : Type 0} (u : ℕ) (f g h : X → X) (xs : List (Option X)) → ((x : X) → g (f x) ≡ h x) → change_at u g (change_at u f xs) ≡ change_at u h xs
change-twice u f g h [] same = refl
change-twice zero f g h (x ∷ xs) same = ap {A = Option _} {B = List (Option _)} (λ o. o ∷ xs) (go x)
  where
    go : (o : Option _) → option_map g (option_map f o) ≡ option_map h o
    go None = refl
    go (Some y) = ap Some (same y)
change-twice (suc u) f g h (x ∷ xs) same = ap {A = List (Option _)} (λ ys. x ∷ ys) (change-twice u f g h xs same)

-- a device that is thrown out, and of which nothing is known
abbrev gone : Device → Device
gone d = record d { media = lost; mounted = false }

-- whatever the unit held before, and whether it was mounted
pub thrown-changed : (w v : World) (u : ℕ) (f : Device → Device) → ((d : Device) → gone (f d) ≡ gone d) → v ≡ change_device w u f → thrown_out v u (λ _. lost) ≡ thrown_out w u (λ _. lost)
thrown-changed w v u f same is = ap (λ (x : World). thrown_out x u (λ _. lost)) is
    ∙ ap {A = List (Option Device)} {B = World} (λ us. let x = record w { units = us } in record x { default = default_without x u }) (change-twice u f gone gone w.units same)

-- after a call on its card
pub world-without : {C : Type 0} (reads : List ℕ → Option Store) (units later : Units C) (u : ℕ) (card next : C) (o p : Outside) → Replaced units later u card next → SameCards o p
    → ((j : ℕ) → (j ≡ u → ⊥) → changes j p.now ≡ changes j o.now) → thrown_out (world_of reads later p) u (λ _. lost) ≡ thrown_out (world_of reads units o) u (λ _. lost)
world-without reads units later u card next o p r cards others =
    thrown-changed (world_of reads units o) (world_of reads later p) u f (λ d. refl)
    (world-changed reads (due_in units.slots.items) (due_in later.slots.items) (mounted_in units.slots.items) (mounted_in later.slots.items) units.default later.default units.minute later.minute o p u f
    cards (λ j h. dues units later u card next r j) (λ j h. marks units later u card next r j) others
    (device-here reads (due_in units.slots.items) (due_in later.slots.items) (mounted_in units.slots.items) (mounted_in later.slots.items) o p u f cards (λ name h. refl))
    ∙ ap {A = Option ℕ} {B = World} (λ d. record (change_device (world_of reads units o) u f) { default = d; minute = later.minute }) r.default
    ∙ ap {A = ℕ} {B = World} (λ m. record (change_device (world_of reads units o) u f) { default = units.default; minute = m }) r.minute)
  where
    f : Device → Device
    f d = record { blocks = d.blocks; media = if due_in later.slots.items u then lost else media_of (reads (image u p.now)); mounted = mounted_in later.slots.items u }

-- after a call on a unit without a card
pub world-beside : {C : Type 0} (reads : List ℕ → Option Store) (units : Units C) (u : ℕ) (o p : Outside) → SameCards o p
    → ((j : ℕ) → (j ≡ u → ⊥) → changes j p.now ≡ changes j o.now) → thrown_out (world_of reads units p) u (λ _. lost) ≡ thrown_out (world_of reads units o) u (λ _. lost)
world-beside reads units u o p cards others =
    thrown-changed (world_of reads units o) (world_of reads units p) u f (λ d. refl)
    (world-changed reads (due_in units.slots.items) (due_in units.slots.items) (mounted_in units.slots.items) (mounted_in units.slots.items) units.default units.default units.minute units.minute o p u f
    cards (λ j h. refl) (λ j h. refl) others
    (device-here reads (due_in units.slots.items) (due_in units.slots.items) (mounted_in units.slots.items) (mounted_in units.slots.items) o p u f cards (λ name h. refl)))
  where
    f : Device → Device
    f d = record { blocks = d.blocks; media = if due_in units.slots.items u then lost else media_of (reads (image u p.now)); mounted = mounted_in units.slots.items u }
