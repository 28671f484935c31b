-- What the units know is what the world has.
use Rattle.std.proofs.Common.{arith, ◌≡◌, refl, ap, sym, ◌∙◌, subst, ℕ, zero, suc, ◌≤◌, List, [], ◌∷◌, Bool, true, false, not, ◌&&◌, ◌||◌, IsTrue, Option, Some, None, option_map, option_and_then, length, map, find, cond, nat_lt, if◌then◌else◌}
use Rattle.std.proofs.lemmas.Bool.{le-ltb}
use Rattle.newt_spec_world.specs.Refused.{bad_blocks}
use Rattle.std.specs.Prelude.{slice_get, is_some, is_none}
use Rattle.newt_base.specs.Names.{equal_text}
use Rattle.newt_base.specs.Refusals.{Checks}
use Rattle.newt_base.specs.declared.Refusal.TheVariants.{Unit as NoUnit, Blocks, Mounted, Notmounted, Soup as NoSoup}
use Rattle.newt_host.specs.Moments.{image, IsDurable}
use Rattle.newt_host.specs.Outside.{Outside}
use Rattle.newt_spec_graph.proofs.Lists.{some-same, none-some, both-ways}
use Rattle.newt_spec_store.specs.Laid.{bare, bare_soup}
use Rattle.newt_spec_store.specs.Store.{Store, Soup, soup_named, soup_of}
use Rattle.newt_spec_store.specs.Valid.{well_formed}
use Rattle.newt_base.specs.declared.Refusal.{Refusal}
use Rattle.newt_spec_world.specs.First.{media_of}
use Rattle.newt_spec_world.specs.Step.{unsure_look}
use Rattle.newt_spec_world.specs.World.{World, Device, one, lost, is_unsure, unsure_on, device, store_of, store_if_mounted, mounted_store, soup_in}
use Rattle.newt_laws_answers.specs.There.{OnUnit, IsReady}
use Rattle.newt_laws_answers.specs.Tests.{soup_checks, unit_checks, both_checks, ready_checks}
use Rattle.newt_laws_answers.specs.WorldAt.{device_at}
use Rattle.newt_laws_answers.proofs.Worlds.{device-of, card_device}
use Rattle.newt_laws_answers.proofs.Units.{is-mounted, soup-named}
use Rattle.newt_laws_answers.proofs.Stores.{ready-passes}
use Rattle.newt_laws_answers.proofs.Sigs.{soup-of-sig, named-name}
use Rattle.newt_pagebook.specs.Book.{IsSameFor}
use Rattle.newt_engine_units.specs.declared.units.Slot.{Slot}
use Rattle.newt_engine_units.specs.declared.units.Units.{Units}
use Rattle.newt_engine_units.specs.Stands.{card_at, due_in, mounted_in, world_of, Stands, Eight}
use Rattle.newt_engine_units.proofs.Marked.{not-due}
use Rattle.newt_engine_units.specs.Looks.{attached_in, has_device, known_unit, known_soup, known_checks, known_both, known_ready, IsFree, known_uid}

-- the laws of cards
pub record Laws {C : Type 0} (reads : List ℕ → Option Store) (place : C → ℕ) (soups : C → Store) (stands : Bool → C → Outside → Type 0) : Type 0 where
  pub formed : (bytes : List ℕ) (s : Store) → reads bytes ≡ Some s → IsTrue (well_formed s)
  pub plain : (card : C) (outside : Outside) → stands true card outside → (s : Store) × (reads (image (place card) outside.now) ≡ Some s) × (bare s ≡ soups card)
  pub durable : (card : C) (outside : Outside) → stands true card outside → IsDurable (place card) outside.now
  pub banks : (told : Bool) (card : C) (outside : Outside) → stands told card outside → 13 ≤ outside.blocks (place card)
  pub kept : (told : Bool) (card : C) (old new : Outside) → stands told card old → IsSameFor told (place card) old new → stands told card new

-- ---- lists

pub get-none : {X : Type 0} (xs : List X) (u : ℕ) → slice_get xs u ≡ None → length xs ≤ u
get-none [] u h = omega arith
get-none (x ∷ xs) zero h = absurd (none-some x (sym h))
get-none (x ∷ xs) (suc u) h = let r = get-none xs u h in omega (arith, r)

-- the soup of a name without its entries
pub bare-named : (name : List ℕ) (ps : List Soup) → find (λ p. equal_text p.name name) (map bare_soup ps) ≡ option_map bare_soup (find (λ p. equal_text p.name name) ps)
bare-named name [] = refl
bare-named name (p ∷ ps) = go (equal_text p.name name) (bare-named name ps)
  where
    go : (b : Bool) → find (λ p. equal_text p.name name) (map bare_soup ps) ≡ option_map bare_soup (find (λ p. equal_text p.name name) ps)
        → cond b (Some (bare_soup p)) (find (λ p. equal_text p.name name) (map bare_soup ps)) ≡ option_map bare_soup (cond b (Some p) (find (λ p. equal_text p.name name) ps))
    go true h = refl
    go false h = h

pub bare-sig : (name : List ℕ) (s : Store) → option_map (λ p. p.sig) (soup_named name (bare s)) ≡ option_map (λ p. p.sig) (soup_named name s)
bare-sig name s = ap (option_map (λ (p : Soup). p.sig)) (bare-named name s.soups) ∙ go (soup_named name s)
  where
    go : (o : Option Soup) → option_map (λ p. p.sig) (option_map bare_soup o) ≡ option_map (λ p. p.sig) o
    go None = refl
    go (Some p) = refl

bare-uid : (name : List ℕ) (s : Store) → option_map (λ p. p.next_uid) (soup_named name (bare s)) ≡ option_map (λ p. p.next_uid) (soup_named name s)
bare-uid name s = ap (option_map (λ (p : Soup). p.next_uid)) (bare-named name s.soups) ∙ go (soup_named name s)
  where
    go : (o : Option Soup) → option_map (λ p. p.next_uid) (option_map bare_soup o) ≡ option_map (λ p. p.next_uid) o
    go None = refl
    go (Some p) = refl

-- ---- a unit

module _ {C : Type 0} {reads : List ℕ → Option Store} {place : C → ℕ} {soups : C → Store} {stands : Bool → C → Outside → Type 0} (l : Laws reads place soups stands)
    (units : Units C) (o : Outside) (e : Eight o) (s : Stands place stands true units o) where
  abbrev w : World
  w = world_of reads units o

  abbrev slots : List (Slot C)
  slots = units.slots.items

  pub at-device : (u : ℕ) → device w u ≡ device_at reads (due_in slots) (mounted_in slots) o u
  at-device u = device-of reads (due_in slots) (mounted_in slots) units.default units.minute o e.eight u

  -- the device of a unit that has a card
  pub at-card : (u : ℕ) (name : List ℕ) → o.card u ≡ Some name → device w u ≡ Some (card_device reads (due_in slots u) (o.blocks u) (image u o.now) (mounted_in slots u))
  at-card u name h = at-device u ∙ ap (option_map (λ name. card_device reads (due_in slots u) (o.blocks u) (image u o.now) (mounted_in slots u))) h

  pub at-none : (u : ℕ) → o.card u ≡ None → device w u ≡ None
  at-none u h = at-device u ∙ ap (option_map (λ name. card_device reads (due_in slots u) (o.blocks u) (image u o.now) (mounted_in slots u))) h

  pub attached-is : (u : ℕ) → is_none (device w u) ≡ not (attached_in slots u)
  attached-is u = slot (slice_get slots u) refl
    where
      cards : (c : Option (List ℕ)) → o.card u ≡ c → is_none (device w u) ≡ not (is_some c)
      cards None h = ap is_none (at-none u h)
      cards (Some name) h = ap is_none (at-card u name h)

      slot : (x : Option (Slot C)) → slice_get slots u ≡ x → is_none (device w u) ≡ not (has_device x)
      slot None h = ap is_none (at-none u (e.eight u (subst (λ n. n ≤ u) s.eight (get-none slots u h))))
      slot (Some x) h = cards (o.card u) refl ∙ ap not (sym (s.attached u x h))

  -- a mounted card is on a device
  pub card-there : (u : ℕ) (card : C) → card_at slots u ≡ Some card → (name : List ℕ) × (o.card u ≡ Some name)
  card-there u card h = go (o.card u) refl
    where
      on : 13 ≤ o.blocks u
      on = let k = s.cards u card h in subst (λ n. 13 ≤ o.blocks n) k.1 (l.banks true card o k.0)

      go : (c : Option (List ℕ)) → o.card u ≡ c → (name : List ℕ) × (o.card u ≡ Some name)
      go None k = absurd (let z = e.none u k in omega (arith, on, z))
      go (Some name) k = (name, k)

  -- what a mounted card stands for
  pub record Plain (u : ℕ) (card : C) : Type 0 where
    pub store : Store
    pub on : OnUnit w u (o.blocks u) store
    pub reads_it : reads (image u o.now) ≡ Some store
    pub known : bare store ≡ soups card
    pub formed : well_formed store ≡ true

  pub card-known : (u : ℕ) (card : C) → card_at slots u ≡ Some card → Plain u card
  card-known u card h = record {
    store = p.0;
    on = record {
      device_is = at-card u there.0 there.1 ∙ ap (λ b. Some (card_device reads b (o.blocks u) (image u o.now) (mounted_in slots u))) (not-due slots s.sure u (ap is_some h))
          ∙ ap (λ m. Some (record { blocks = o.blocks u; media = media_of m; mounted = mounted_in slots u })) its
          ∙ ap (λ c. Some (record { blocks = o.blocks u; media = one p.0; mounted = is_some c })) h;
    };
    reads_it = its;
    known = p.2;
    formed = l.formed _ p.0 its;
  }
    where
      k : stands true card o × (place card ≡ u)
      k = s.cards u card h

      p : (s : Store) × (reads (image (place card) o.now) ≡ Some s) × (bare s ≡ soups card)
      p = l.plain card o k.0

      its : reads (image u o.now) ≡ Some p.0
      its = ap (λ n. reads (image n o.now)) (sym k.1) ∙ p.1

      there : (name : List ℕ) × (o.card u ≡ Some name)
      there = card-there u card h

  pub none-mounted : (u : ℕ) → card_at slots u ≡ None → mounted_store w u ≡ None
  none-mounted u h = go (o.card u) refl
    where
      go : (c : Option (List ℕ)) → o.card u ≡ c → mounted_store w u ≡ None
      go None k = ap (option_and_then store_if_mounted) (at-none u k)
      go (Some name) k = ap (option_and_then store_if_mounted) (at-card u name k) ∙ ap (λ c. cond (is_some c) (store_of (if due_in slots u then lost else media_of (reads (image u o.now)))) None) h

  pub mounted-is : (u : ℕ) → is_none (mounted_store w u) ≡ not (mounted_in slots u)
  mounted-is u = go (card_at slots u) refl
    where
      go : (c : Option C) → card_at slots u ≡ c → is_none (mounted_store w u) ≡ not (is_some c)
      go None h = ap is_none (none-mounted u h)
      go (Some card) h = let k = card-known u card h in ap is_none (is-mounted w u (o.blocks u) k.store k.on)

  -- the card of a store that is mounted
  pub on-known : (u blocks : ℕ) (t : Store) → OnUnit w u blocks t → (card : C) × (card_at slots u ≡ Some card) × (blocks ≡ o.blocks u) × (reads (image u o.now) ≡ Some t)
  on-known u blocks t h = go (card_at slots u) refl
    where
      same-store : (a b : Store) → one a ≡ one b → a ≡ b
      same-store a b k = some-same a b (ap store_of k)

      go : (c : Option C) → card_at slots u ≡ c → (card : C) × (card_at slots u ≡ Some card) × (blocks ≡ o.blocks u) × (reads (image u o.now) ≡ Some t)
      go None k = absurd (none-some t (sym (none-mounted u k) ∙ is-mounted w u blocks t h))
      go (Some card) k =
          let p = card-known u card k in
          let d = some-same _ _ (sym h.device_is ∙ p.on.device_is) in
          (card, k, ap (λ (d : Device). d.blocks) d, p.reads_it ∙ ap Some (same-store p.store t (sym (ap (λ (d : Device). d.media) d))))

  -- whether unit and card are there
  pub unit-checks-are : (u : ℕ) → known_unit slots u ≡ unit_checks w u
  unit-checks-are u =
      ap {A = Bool} {B = Checks} (λ b. (NoUnit, b) ∷ (Notmounted, not (mounted_in slots u)) ∷ []) (sym (attached-is u))
      ∙ ap {A = Bool} {B = Checks} (λ b. (NoUnit, is_none (device w u)) ∷ (Notmounted, b) ∷ []) (sym (mounted-is u))

  -- a unit that may be opened or formatted
  mounted-some : (u : ℕ) → is_some (mounted_store w u) ≡ mounted_in slots u
  mounted-some u = go (card_at slots u) refl
    where
      go : (c : Option C) → card_at slots u ≡ c → is_some (mounted_store w u) ≡ is_some c
      go None h = ap is_some (none-mounted u h)
      go (Some card) h = let k = card-known u card h in ap is_some (is-mounted w u (o.blocks u) k.store k.on)

  attached-card : (u : ℕ) → attached_in slots u ≡ true → (name : List ℕ) × (o.card u ≡ Some name)
  attached-card u h = slot (slice_get slots u) refl
    where
      cards : (c : Option (List ℕ)) → o.card u ≡ c → is_some c ≡ true → (name : List ℕ) × (o.card u ≡ Some name)
      cards None k x = absurd (both-ways x)
      cards (Some name) k x = (name, k)

      slot : (x : Option (Slot C)) → slice_get slots u ≡ x → (name : List ℕ) × (o.card u ≡ Some name)
      slot None k = absurd (both-ways (sym (ap has_device k) ∙ h))
      slot (Some x) k = cards (o.card u) refl (sym (s.attached u x k) ∙ sym (ap has_device k) ∙ h)

  blocks-known : (u : ℕ) → (nat_lt (o.blocks u) 13 || nat_lt 4099 (o.blocks u)) ≡ (bad_blocks w u).1
  blocks-known u = go (o.card u) refl
    where
      go : (c : Option (List ℕ)) → o.card u ≡ c → (nat_lt (o.blocks u) 13 || nat_lt 4099 (o.blocks u)) ≡ (bad_blocks w u).1
      go None k = ap (λ n. nat_lt n 13 || nat_lt 4099 n) (e.none u k) ∙ sym (ap (λ (d : Option Device). elim d [ None ↦ true | Some d ↦ nat_lt d.blocks 13 || nat_lt 4099 d.blocks ]) (at-none u k))
      go (Some name) k = sym (ap (λ (d : Option Device). elim d [ None ↦ true | Some d ↦ nat_lt d.blocks 13 || nat_lt 4099 d.blocks ]) (at-card u name k))

  pub ready-checks-are : (u : ℕ) → known_ready slots (o.blocks u) u ≡ ready_checks w u
  ready-checks-are u =
      ap {A = Bool} {B = Checks} (λ b. (NoUnit, b) ∷ (Blocks, nat_lt (o.blocks u) 13 || nat_lt 4099 (o.blocks u)) ∷ (Mounted, mounted_in slots u) ∷ []) (sym (attached-is u))
      ∙ ap {A = Bool} {B = Checks} (λ b. (NoUnit, is_none (device w u)) ∷ (Blocks, b) ∷ (Mounted, mounted_in slots u) ∷ []) (blocks-known u)
      ∙ ap {A = Bool} {B = Checks} (λ b. (NoUnit, is_none (device w u)) ∷ bad_blocks w u ∷ (Mounted, b) ∷ []) (sym (mounted-some u))

  -- what it holds: what its image is read as, and where a sync is due, it is not known what
  pub free-known : (u : ℕ) → IsFree units (o.blocks u) u → IsReady w u (o.blocks u) (if due_in slots u then lost else media_of (reads (image u o.now)))
  free-known u f = record {
    device_is = let c = attached-card u f.attached in at-card u c.0 c.1 ∙ ap (λ b. Some (card_device reads (due_in slots u) (o.blocks u) (image u o.now) b)) f.free;
    enough = or-false (le-ltb (o.blocks u) 13 f.enough) (le-ltb 4099 (o.blocks u) f.not_too_many);
  }
    where
      or-false : {a b : Bool} → a ≡ false → b ≡ false → (a || b) ≡ false
      or-false {a} {b} x y = ap (λ c. c || b) x ∙ y

  pub ready-known : (u : ℕ) → IsFree units (o.blocks u) u → due_in slots u ≡ false → IsReady w u (o.blocks u) (media_of (reads (image u o.now)))
  ready-known u f sure = subst (λ b. IsReady w u (o.blocks u) (if b then lost else media_of (reads (image u o.now)))) sure (free-known u f)

  -- a command looks at it anew where a sync is due
  pub look-known : (u : ℕ) → IsFree units (o.blocks u) u → unsure_look w u ≡ (if due_in slots u then Some u else None)
  look-known u f =
      ap (λ (c : Option Refusal). if is_none c && unsure_on w u then Some u else None) (ready-passes w u (o.blocks u) _ (free-known u f) [])
      ∙ ap (λ (d : Option Device). if unsure d then Some u else None) (free-known u f).device_is
      ∙ ap (λ b. if b then Some u else None) (unsure-is (due_in slots u) (reads (image u o.now)))
    where
      unsure : Option Device → Bool
      unsure d = elim d [ None ↦ false | Some d ↦ is_unsure d.media ]

      unsure-is : (b : Bool) (m : Option Store) → is_unsure (if b then lost else media_of m) ≡ b
      unsure-is true m = refl
      unsure-is false None = refl
      unsure-is false (Some t) = refl

  -- a unit with a card
  pub mounted-known : (u : ℕ) → mounted_in slots u ≡ true → (card : C) × (card_at slots u ≡ Some card)
  mounted-known u h = go (card_at slots u) refl
    where
      go : (c : Option C) → card_at slots u ≡ c → (card : C) × (card_at slots u ≡ Some card)
      go None k = absurd (both-ways (sym (ap is_some k) ∙ h))
      go (Some card) k = (card, k)

  -- ---- soups

  pub soup-is : (u : ℕ) (name : List ℕ) → option_map (λ p. p.sig) (soup_in w u name) ≡ known_soup soups slots u name
  soup-is u name = go (card_at slots u) refl
    where
      go : (c : Option C) → card_at slots u ≡ c → option_map (λ p. p.sig) (soup_in w u name) ≡ option_and_then (λ card. option_map (λ p. p.sig) (soup_named name (soups card))) c
      go None h = ap (λ m. option_map (λ (p : Soup). p.sig) (option_and_then (soup_named name) m)) (none-mounted u h)
      go (Some card) h =
          let k = card-known u card h in
          ap (option_map (λ (p : Soup). p.sig)) (soup-named w u (o.blocks u) k.store name k.on) ∙ sym (bare-sig name k.store)
          ∙ ap (λ t. option_map (λ (p : Soup). p.sig) (soup_named name t)) k.known

  pub uid-is : (u : ℕ) (name : List ℕ) → option_map (λ p. p.next_uid) (soup_in w u name) ≡ known_uid soups slots u name
  uid-is u name = go (card_at slots u) refl
    where
      go : (c : Option C) → card_at slots u ≡ c → option_map (λ p. p.next_uid) (soup_in w u name) ≡ option_and_then (λ card. option_map (λ p. p.next_uid) (soup_named name (soups card))) c
      go None h = ap (λ m. option_map (λ (p : Soup). p.next_uid) (option_and_then (soup_named name) m)) (none-mounted u h)
      go (Some card) h =
          let k = card-known u card h in
          ap (option_map (λ (p : Soup). p.next_uid)) (soup-named w u (o.blocks u) k.store name k.on) ∙ sym (bare-uid name k.store)
          ∙ ap (λ t. option_map (λ (p : Soup). p.next_uid) (soup_named name t)) k.known

  pub checks-are : (u : ℕ) (name : List ℕ) → known_checks soups slots u name ≡ soup_checks w u name
  checks-are u name =
      ap {A = Bool} {B = Checks} (λ b. (NoUnit, b) ∷ (Notmounted, not (mounted_in slots u)) ∷ (NoSoup, is_none (known_soup soups slots u name)) ∷ []) (sym (attached-is u))
      ∙ ap {A = Bool} {B = Checks} (λ b. (NoUnit, is_none (device w u)) ∷ (Notmounted, b) ∷ (NoSoup, is_none (known_soup soups slots u name)) ∷ []) (sym (mounted-is u))
      ∙ ap {A = Bool} {B = Checks} (λ b. (NoUnit, is_none (device w u)) ∷ (Notmounted, is_none (mounted_store w u)) ∷ (NoSoup, b) ∷ []) (sym (ap is_none (soup-is u name)) ∙ none-map (soup_in w u name))
    where
      none-map : (p : Option Soup) → is_none (option_map (λ p. p.sig) p) ≡ is_none p
      none-map None = refl
      none-map (Some p) = refl

  soup-none : (u : ℕ) (name : List ℕ) → is_none (known_soup soups slots u name) ≡ is_none (soup_in w u name)
  soup-none u name = sym (ap is_none (soup-is u name)) ∙ none-map (soup_in w u name)
    where
      none-map : (p : Option Soup) → is_none (option_map (λ p. p.sig) p) ≡ is_none p
      none-map None = refl
      none-map (Some p) = refl

  pub both-checks-are : (u : ℕ) (name : List ℕ) (v : ℕ) (target : List ℕ) → known_both soups slots u name v target ≡ both_checks w u name v target
  both-checks-are u name v target =
      ap {A = Bool} {B = Checks} (λ b. (NoUnit, b || not (attached_in slots v)) ∷ (Notmounted, not (mounted_in slots u) || not (mounted_in slots v)) ∷ (NoSoup, is_none (known_soup soups slots u name) || is_none (known_soup soups slots v target)) ∷ []) (sym (attached-is u))
      ∙ ap {A = Bool} {B = Checks} (λ b. (NoUnit, is_none (device w u) || b) ∷ (Notmounted, not (mounted_in slots u) || not (mounted_in slots v)) ∷ (NoSoup, is_none (known_soup soups slots u name) || is_none (known_soup soups slots v target)) ∷ []) (sym (attached-is v))
      ∙ ap {A = Bool} {B = Checks} (λ b. (NoUnit, is_none (device w u) || is_none (device w v)) ∷ (Notmounted, b || not (mounted_in slots v)) ∷ (NoSoup, is_none (known_soup soups slots u name) || is_none (known_soup soups slots v target)) ∷ []) (sym (mounted-is u))
      ∙ ap {A = Bool} {B = Checks} (λ b. (NoUnit, is_none (device w u) || is_none (device w v)) ∷ (Notmounted, is_none (mounted_store w u) || b) ∷ (NoSoup, is_none (known_soup soups slots u name) || is_none (known_soup soups slots v target)) ∷ []) (sym (mounted-is v))
      ∙ ap {A = Bool} {B = Checks} (λ b. (NoUnit, is_none (device w u) || is_none (device w v)) ∷ (Notmounted, is_none (mounted_store w u) || is_none (mounted_store w v)) ∷ (NoSoup, b || is_none (known_soup soups slots v target)) ∷ []) (soup-none u name)
      ∙ ap {A = Bool} {B = Checks} (λ b. (NoUnit, is_none (device w u) || is_none (device w v)) ∷ (Notmounted, is_none (mounted_store w u) || is_none (mounted_store w v)) ∷ (NoSoup, is_none (soup_in w u name) || b) ∷ []) (soup-none v target)

  -- a soup that was found
  pub record Found (u : ℕ) (name : List ℕ) (sig : ℕ) : Type 0 where
    pub store : Store
    pub on : OnUnit w u (o.blocks u) store
    pub soup : Soup
    pub named : soup_named name store ≡ Some soup
    pub self_named : soup_named soup.name store ≡ Some soup
    pub sig_is : soup.sig ≡ sig
    pub by_sig : soup_of sig store ≡ Some soup
    pub name_is : soup.name ≡ name
    pub formed : well_formed store ≡ true

  pub soup-found : (u : ℕ) (name : List ℕ) (sig : ℕ) → known_soup soups slots u name ≡ Some sig → Found u name sig
  soup-found u name sig h = go (card_at slots u) refl h
    where
      mapped : (p : Option Soup) → option_map (λ p. p.sig) p ≡ Some sig → (q : Soup) × (p ≡ Some q) × (q.sig ≡ sig)
      mapped None k = absurd (none-some sig k)
      mapped (Some q) k = (q, refl, some-same q.sig sig k)

      go : (c : Option C) → card_at slots u ≡ c → option_and_then (λ card. option_map (λ p. p.sig) (soup_named name (soups card))) c ≡ Some sig → Found u name sig
      go None k x = absurd (none-some sig x)
      go (Some card) k x =
          let p = card-known u card k in
          let q = mapped (soup_named name p.store) (sym (bare-sig name p.store) ∙ ap (λ t. option_map (λ (p : Soup). p.sig) (soup_named name t)) p.known ∙ x) in
          record {
            store = p.store;
            on = p.on;
            soup = q.0;
            named = q.1;
            sig_is = q.2;
            self_named = ap (λ n. soup_named n p.store) (named-name p.store name q.0 q.1) ∙ q.1;
            by_sig = ap (λ n. soup_of n p.store) (sym q.2) ∙ soup-of-sig p.store name q.0 p.formed q.1;
            name_is = named-name p.store name q.0 q.1;
            formed = p.formed;
          }
