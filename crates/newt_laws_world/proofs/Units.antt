-- What a change of one unit leaves of the others.
use Rattle.std.proofs.Common.{◌≡◌, refl, ap, sym, ◌∙◌, subst, ℕ, zero, suc, List, [], ◌∷◌, true, false, Bool, ◌⊎◌, inl, inr, cond, Option, Some, None, option_map, option_and_then, eqb}
use Rattle.std.specs.Prelude.{slice_get}
use Rattle.std.specs.Option.{is_none}
use Rattle.std.proofs.lemmas.Bool.{eqb-true, eqb-false}
use Rattle.newt_spec_store.specs.Store.{Store, Soup, soup_named, entry_of}
use Rattle.newt_spec_world.specs.World.{World, Device, Media, blank, one, two, lost, device, store_of, store_if_mounted, mounted_store, soup_in, entry_in, flat, change_at, change_device, change_store, change_media}
use Rattle.newt_laws_world.specs.Worlds.{OnMedia, OnUnits}
use Rattle.newt_spec_graph.proofs.Lists.{some-same, none-some}

pub at-same : {X : Type 0} (u : ℕ) (f : X → X) (xs : List (Option X)) → flat (slice_get (change_at u f xs) u) ≡ option_map f (flat (slice_get xs u))
at-same u f [] = refl
at-same zero f (x ∷ xs) = refl
at-same (suc u) f (x ∷ xs) = at-same u f xs

pub at-other : {X : Type 0} (u n : ℕ) (f : X → X) (xs : List (Option X)) → (n ≡ u → ⊥) → flat (slice_get (change_at u f xs) n) ≡ flat (slice_get xs n)
at-other u n f [] h = refl
at-other zero zero f (x ∷ xs) h = absurd (h refl)
at-other zero (suc n) f (x ∷ xs) h = refl
at-other (suc u) zero f (x ∷ xs) h = refl
at-other (suc u) (suc n) f (x ∷ xs) h = at-other u n f xs (λ e. h (ap suc e))

pub same-or-not : (m n : ℕ) → (m ≡ n) ⊎ (m ≡ n → ⊥)
same-or-not m n = go (eqb m n) refl
  where
    go : (b : Bool) → eqb m n ≡ b → (m ≡ n) ⊎ (m ≡ n → ⊥)
    go true e = inl (eqb-true m n e)
    go false e = inr (eqb-false m n e)

pub mapped : {X Y : Type 0} (f : X → Y) (o : Option X) (y : Y) → option_map f o ≡ Some y → (x : X) × (o ≡ Some x) × (f x ≡ y)
mapped f None y h = absurd (none-some y h)
mapped f (Some x) y h = (x, refl, some-same (f x) y h)

-- ---- devices

-- every unit but those that change keeps what holds of its stores
pub units-but : (D : ℕ → Type 0) (P : ℕ → Store → Type 0) (v w : World) (u : ℕ) → ((n : ℕ) → (n ≡ u → ⊥) → device v n ≡ device w n)
    → OnUnits D P w → ((d : Device) → device v u ≡ Some d → OnMedia P d.blocks d.media) → OnUnits D P v
units-but D P v w u same all here n k d h = go (same-or-not n u)
  where
    go : (n ≡ u) ⊎ (n ≡ u → ⊥) → OnMedia P d.blocks d.media
    go (inl e) = here d (sym (ap (device v) e) ∙ h)
    go (inr e) = all n k d (sym (same n e) ∙ h)

pub device-other : (w : World) (u : ℕ) (f : Device → Device) (n : ℕ) → (n ≡ u → ⊥) → device (change_device w u f) n ≡ device w n
device-other w u f n h = at-other u n f w.units h

pub device-same : (w : World) (u : ℕ) (f : Device → Device) → device (change_device w u f) u ≡ option_map f (device w u)
device-same w u f = at-same u f w.units

-- a unit with a changed device
pub change-device : (D : ℕ → Type 0) (P : ℕ → Store → Type 0) (w : World) (u : ℕ) (f : Device → Device) → OnUnits D P w
    → ((d : Device) → device w u ≡ Some d → OnMedia P (f d).blocks (f d).media) → OnUnits D P (change_device w u f)
change-device D P w u f all here = units-but D P (change_device w u f) w u (device-other w u f) all
    (λ d h. let r = mapped f (device w u) d (sym (device-same w u f) ∙ h) in subst (λ v. OnMedia P v.blocks v.media) r.2 (here r.0 r.1))

pub change-media : (P : ℕ → Store → Type 0) (blocks : ℕ) (f : Store → Store) (m : Media) → OnMedia P blocks m
    → ((s : Store) → m ≡ one s → P blocks s → P blocks (f s)) → OnMedia P blocks (change_media f m)
change-media P blocks f blank h k = tt
change-media P blocks f (one s) h k = k s refl h
change-media P blocks f (two a b) h k = h
change-media P blocks f lost h k = tt

-- the unit has a device with this one store
pub record Has (w : World) (u blocks : ℕ) (s : Store) : Type 0 where
  pub on : Device
  pub is : device w u ≡ Some on
  pub has : on.media ≡ one s
  pub of : on.blocks ≡ blocks

pub change-store : (D : ℕ → Type 0) (P : ℕ → Store → Type 0) (w : World) (u : ℕ) (f : Store → Store) → OnUnits D P w
    → (D u ⊎ ((d : Device) → device w u ≡ Some d → OnMedia P d.blocks d.media))
    → ((blocks : ℕ) (s : Store) → Has w u blocks s → P blocks s → P blocks (f s)) → OnUnits D P (change_store w u f)
change-store D P w u f all here keeps = change-device D P w u (λ d. record d { media = change_media f d.media }) all
    (λ d h. change-media P d.blocks f d.media (go here d h) (λ s e. keeps d.blocks s (record { on = d; is = h; has = e; of = refl })))
  where
    go : D u ⊎ ((d : Device) → device w u ≡ Some d → OnMedia P d.blocks d.media) → (d : Device) → device w u ≡ Some d → OnMedia P d.blocks d.media
    go (inl k) d h = all u k d h
    go (inr f) d h = f d h

-- ---- the mounted store of a unit

pub mounted-has : (w : World) (u blocks : ℕ) (s : Store) → Has w u blocks s → is_none (mounted_store w u) ≡ false → mounted_store w u ≡ Some s
mounted-has w u blocks s h k = ap (option_and_then store_if_mounted) h.is ∙ go h.on.mounted (sym (ap (λ o. is_none (option_and_then store_if_mounted o)) h.is) ∙ k)
  where
    go : (b : Bool) → is_none (cond b (store_of h.on.media) None) ≡ false → cond b (store_of h.on.media) None ≡ Some s
    go true e = ap store_of h.has
    go false e = cc

pub soup-has : (w : World) (u : ℕ) (s : Store) (name : List ℕ) → mounted_store w u ≡ Some s → soup_in w u name ≡ soup_named name s
soup-has w u s name h = ap (option_and_then (soup_named name)) h

pub entry-has : (w : World) (u : ℕ) (p : Soup) (name : List ℕ) (uid : ℕ) → soup_in w u name ≡ Some p → entry_in w u name uid ≡ entry_of uid p
entry-has w u p name uid h = ap (option_and_then (entry_of uid)) h

-- the device of a mounted store
pub has-mounted : (w : World) (u : ℕ) (s : Store) → mounted_store w u ≡ Some s → (blocks : ℕ) × Has w u blocks s
has-mounted w u s h = go (device w u) refl h
  where
    media : (m : Media) → store_of m ≡ Some s → m ≡ one s
    media blank e = absurd (none-some s e)
    media (one t) e = ap one (some-same t s e)
    media (two a b) e = absurd (none-some s e)
    media lost e = absurd (none-some s e)

    go : (o : Option Device) → device w u ≡ o → option_and_then store_if_mounted o ≡ Some s → (blocks : ℕ) × Has w u blocks s
    go None e k = absurd (none-some s k)
    go (Some d) e k = (d.blocks, record { on = d; is = e; has = on_it d.mounted k; of = refl })
      where
        on_it : (b : Bool) → cond b (store_of d.media) None ≡ Some s → d.media ≡ one s
        on_it true l = media d.media l
        on_it false l = absurd (none-some s l)
