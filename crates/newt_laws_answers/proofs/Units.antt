-- What a unit has, and what a change of its store leaves there.
use Rattle.std.proofs.Common.{◌≡◌, refl, ap, sym, ◌∙◌, ℕ, zero, suc, List, [], ◌∷◌, true, Option, Some, None, option_map, option_and_then}
use Rattle.std.specs.Prelude.{slice_get}
use Rattle.newt_spec_store.specs.Store.{Store, soup_named}
use Rattle.newt_spec_world.specs.World.{World, Device, one, device, flat, change_at, store_of, store_if_mounted, mounted_store, store_on_unit, soup_in, change_device, change_store, change_media}
use Rattle.newt_spec_graph.proofs.Lists.{some-same}
use Rattle.newt_laws_answers.specs.There.{OnUnit}
use Rattle.newt_laws_world.proofs.Units.{device-same, device-other}

pub is-mounted : (w : World) (u blocks : ℕ) (s : Store) → OnUnit w u blocks s → mounted_store w u ≡ Some s
is-mounted w u blocks s h = ap (option_and_then store_if_mounted) h.device_is

pub is-there : (w : World) (u blocks : ℕ) (s : Store) → OnUnit w u blocks s → store_on_unit w u ≡ Some s
is-there w u blocks s h = ap (option_and_then (λ (d : Device). store_of d.media)) h.device_is

-- a store that is changed
pub on-changed : (w : World) (u blocks : ℕ) (s : Store) (f : Store → Store) → OnUnit w u blocks s → OnUnit (change_store w u f) u blocks (f s)
on-changed w u blocks s f h = record { device_is = device-same w u (λ d. record d { media = change_media f d.media }) ∙ ap (option_map (λ (d : Device). record d { media = change_media f d.media })) h.device_is }

pub soup-named : (w : World) (u blocks : ℕ) (s : Store) (name : List ℕ) → OnUnit w u blocks s → soup_in w u name ≡ soup_named name s
soup-named w u blocks s name h = ap (option_and_then (soup_named name)) (is-mounted w u blocks s h)

-- ---- one unit changed twice, and another unit

at-twice : {X : Type 0} (u : ℕ) (f g : X → X) (xs : List (Option X)) → change_at u f (change_at u g xs) ≡ change_at u (λ x. f (g x)) xs
at-twice u f g [] = refl
at-twice zero f g (None ∷ xs) = refl
at-twice zero f g (Some x ∷ xs) = refl
at-twice (suc u) f g (x ∷ xs) = ap {A = List (Option _)} (λ ys. x ∷ ys) (at-twice u f g xs)

at-alike : {X : Type 0} (u : ℕ) (f g : X → X) (xs : List (Option X)) (x : X) → flat (slice_get xs u) ≡ Some x → f x ≡ g x → change_at u f xs ≡ change_at u g xs
at-alike u f g [] x h k = refl
at-alike zero f g (None ∷ xs) x h k = refl
at-alike zero f g (Some y ∷ xs) x h k = ap {B = List (Option _)} (λ z. Some z ∷ xs) (ap f (some-same y x h) ∙ k ∙ ap g (sym (some-same y x h)))
at-alike (suc u) f g (y ∷ xs) x h k = ap {A = List (Option _)} (λ ys. y ∷ ys) (at-alike u f g xs x h k)

pub device-alike : (w : World) (u : ℕ) (f g : Device → Device) (d : Device) → device w u ≡ Some d → f d ≡ g d → change_device w u f ≡ change_device w u g
device-alike w u f g d h k = ap {A = List (Option Device)} {B = World} (λ us. record w { units = us }) (at-alike u f g w.units d h k)

-- changes of a store that agree on it
pub store-alike : (w : World) (u blocks : ℕ) (s : Store) (f g : Store → Store) → OnUnit w u blocks s → f s ≡ g s → change_store w u f ≡ change_store w u g
store-alike w u blocks s f g h k = device-alike w u _ _ _ h.device_is (ap {A = Store} {B = Device} (λ t. record { blocks = blocks; media = one t; mounted = true }) k)

pub store-twice : (w : World) (u blocks : ℕ) (s : Store) (f g : Store → Store) → OnUnit w u blocks s → change_store (change_store w u g) u f ≡ change_store w u (λ s. f (g s))
store-twice w u blocks s f g h =
    ap {A = List (Option Device)} {B = World} (λ us. record w { units = us }) (at-twice u (λ d. record d { media = change_media f d.media }) (λ d. record d { media = change_media g d.media }) w.units)
    ∙ device-alike w u _ _ _ h.device_is refl

-- another unit stays
pub on-other : (w : World) (u v blocks : ℕ) (s : Store) (f : Store → Store) → (u ≡ v → ⊥) → OnUnit w u blocks s → OnUnit (change_store w v f) u blocks s
on-other w u v blocks s f differ h = record { device_is = device-other w v (λ d. record d { media = change_media f d.media }) u differ ∙ h.device_is }
