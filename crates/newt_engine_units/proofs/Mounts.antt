-- Stores that are mounted and unmounted, and units that are thrown out.
use Rattle.std.proofs.Common.{arith, ◌≤◌, ◌<◌, ◌≡◌, refl, ap, sym, ◌∙◌, subst, ℕ, List, [], ◌∷◌, ◌⊎◌, inl, inr, Bool, true, false, not, ◌&&◌, ◌||◌, IsTrue, Option, Some, None, cond, unwrap_or, length, replicate, nat_le, option_map, ◌==◌}
use Rattle.std.specs.Prelude.{slice_get, is_some, IsSome, Ok, Err}
use Rattle.std.specs.List.{list_any}
use Rattle.std.proofs.lemmas.Bool.{eq-eqb, ne_eqb}
use Rattle.newt_base.specs.Refusals.{first_of}
use Rattle.newt_base.specs.declared.Refusal.{Refusal}
use Rattle.newt_base.specs.declared.Refusal.TheVariants.{Stores as ManyStores, Signature}
use Rattle.newt_host.specs.Moments.{changes, image, IsDurable}
use Rattle.newt_host.specs.Outside.{Outside, SameCards}
use Rattle.newt_host.proofs.Outside.{SameCards-refl}
use Rattle.newt_spec_graph.proofs.Lists.{some-same, none-some, both-ways}
use Rattle.newt_laws_world.proofs.Units.{same-or-not}
use Rattle.newt_spec_store.specs.Laid.{bare}
use Rattle.newt_spec_store.specs.Store.{Store}
use Rattle.newt_spec_world.specs.declared.command.Command.TheVariants as command
use Rattle.newt_spec_world.specs.Changed.{mark, default_without, first_of_list}
use Rattle.newt_spec_world.specs.First.{media_of}
use Rattle.newt_spec_world.specs.Reply.{Reply}
use Rattle.newt_spec_world.specs.Step.{thrown_out}
use Rattle.newt_spec_world.specs.World.{World, one, lost, mounted, mounted_stores, change_device}
use Rattle.newt_laws_answers.specs.Faces.{Face, faces, shown_count, shows, first_shown, first_showing}
use Rattle.newt_spec_world.specs.Answer.{answer}
use Rattle.newt_laws_answers.specs.There.{OnUnit, IsReady}
use Rattle.newt_laws_answers.proofs.Faces.{count-is, any-is, first-is}
use Rattle.newt_laws_answers.proofs.Stores.{mount-no-store, mount-four, mount-same, mount-done, unmount-done}
use Rattle.newt_store_change.specs.declared.fault.StoreFault.{StoreFault}
use Rattle.newt_store_change.specs.declared.fault.StoreFault.TheVariants.{Refused, Stop}
use Rattle.newt_engine_units.specs.declared.units.Slot.{Slot}
use Rattle.newt_engine_units.specs.declared.units.Units.{Units}
use Rattle.newt_engine_units.specs.Answers.{Answers}
use Rattle.newt_pagebook.specs.declared.book.Stop.{Stop as End}
use Rattle.newt_store_change.specs.Faults.{NoDevice}
use Rattle.newt_engine_units.specs.Faces.{Admits, Opens, beside_checks, card_face, card_faces, default_after, with_card, with_slot, without}
use Rattle.newt_engine_units.specs.Looks.{attached_in, IsFree}
use Rattle.newt_engine_units.specs.Stands.{card_at, card_of, due_of, due_in, mounted_in, world_of, Stands, StandsBut, Eight}
use Rattle.newt_engine_units.proofs.Few.{count-put, count-less, few-admitted}
use Rattle.newt_engine_units.proofs.Known.{Laws, ready-known}
use Rattle.newt_engine_units.proofs.Marked.{attached-slot, mounted-slot, due-here, due-other, mark-here, mark-other, same-length, stands-marked, world-slot}
use Rattle.newt_engine_units.proofs.Shown.{any-first, face-some, faces-known, low-or-high, past-end, position-fails, position-passes}
use Rattle.newt_engine_units.proofs.Slots.{but-of}
use Rattle.newt_engine_units.proofs.Turns.{world-still}

-- ---- a card that is put on a unit, or taken from it

module _ {C : Type 0} (units later : Units C) (u : ℕ) (card : Option C) (is : later.slots.items ≡ with_card u card units.slots.items) where
  -- the world with this mark on the unit
  pub world-marked : (reads : List ℕ → Option Store) (o : Outside) (slot : Slot C) → slice_get units.slots.items u ≡ Some slot → later.minute ≡ units.minute → (default : Option ℕ) → later.default ≡ default
      → world_of reads later o ≡ record (mark (world_of reads units o) u (is_some card)) { default = default }
  world-marked reads o slot at minute default d =
      world-slot units later u (λ slot. record slot { card = card }) is slot at reads o o (SameCards-refl o) (λ j h. refl) (λ d. record d { mounted = is_some card }) refl
      ∙ ap {A = Option ℕ} {B = World} (λ d. record (mark (world_of reads units o) u (is_some card)) { default = d; minute = later.minute }) d
      ∙ ap {A = ℕ} {B = World} (λ m. record (mark (world_of reads units o) u (is_some card)) { default = default; minute = m }) minute

-- ---- mount

module _ (w : World) (u blocks : ℕ) (s : Store) (ready : IsReady w u blocks (one s)) (none : w.cursors ≡ replicate 32 None) (fs : List Face) (known : faces w ≡ fs) where
  four : nat_le 4 (length (mounted w)) ≡ nat_le 4 (shown_count fs)
  four = ap (nat_le 4) (count-is w ∙ ap shown_count known)

  any : list_any (λ t. t.sig == s.sig) (mounted_stores w) ≡ is_some (first_showing s.sig fs)
  any = any-is w s.sig ∙ ap (list_any (shows s.sig)) known ∙ any-first s.sig 0 fs

  mount-refused : (r : Refusal) → first_of (beside_checks fs s.sig) ≡ Some r → answer w (command.Mount u) ≡ (w, Reply.refused r)
  mount-refused r = go (nat_le 4 (shown_count fs)) (is_some (first_showing s.sig fs)) four any
    where
      go : (a b : Bool) → nat_le 4 (length (mounted w)) ≡ a → list_any (λ t. t.sig == s.sig) (mounted_stores w) ≡ b → first_of ((ManyStores, a) ∷ (Signature, b) ∷ []) ≡ Some r
          → answer w (command.Mount u) ≡ (w, Reply.refused r)
      go true b x y h = mount-four w u blocks s ready x ∙ ap {B = World × Reply} (λ q. (w, Reply.refused q)) (some-same ManyStores r h)
      go false true x y h = mount-same w u blocks s ready x y ∙ ap {B = World × Reply} (λ q. (w, Reply.refused q)) (some-same Signature r h)
      go false false x y h = absurd (none-some r h)

  mount-does : first_of (beside_checks fs s.sig) ≡ None → answer w (command.Mount u) ≡ (record (mark w u true) { default = Some (unwrap_or w.default u) }, Reply.store s.sig s.name)
  mount-does = go (nat_le 4 (shown_count fs)) (is_some (first_showing s.sig fs)) four any
    where
      go : (a b : Bool) → nat_le 4 (length (mounted w)) ≡ a → list_any (λ t. t.sig == s.sig) (mounted_stores w) ≡ b → first_of ((ManyStores, a) ∷ (Signature, b) ∷ []) ≡ None
          → answer w (command.Mount u) ≡ (record (mark w u true) { default = Some (unwrap_or w.default u) }, Reply.store s.sig s.name)
      go true b x y h = absurd (none-some ManyStores (sym h))
      go false true x y h = absurd (none-some Signature (sym h))
      go false false x y h = mount-done w u blocks s ready x y none

module _ {C : Type 0} {reads : List ℕ → Option Store} {place : C → ℕ} {soups : C → Store} {stands : Bool → C → Outside → Type 0} (l : Laws reads place soups stands) (units : Units C) (u : ℕ) (card : C) where
  -- the units with the card that was opened
  pub mounted-stands : (told : Bool) (p : Outside) (later : Units C) → later.slots.items ≡ with_card u (Some card) units.slots.items → later.default ≡ Some (unwrap_or units.default u) → attached_in units.slots.items u ≡ true
      → due_in units.slots.items u ≡ false → (sig : ℕ) → first_of (beside_checks (card_faces soups units.slots.items) sig) ≡ None → stands told card p → place card ≡ u → Stands place stands told units p → Stands place stands told later p
  mounted-stands told p later is default attached sure sig admitted there at s = stands-marked units later u with is slot.0 slot.1 place stands told p refl
      (λ c h. subst (λ x. stands told x p × (place x ≡ u)) (some-same card c h) (there, at))
      (λ due. absurd (both-ways (sym sure ∙ ap due_of slot.1 ∙ due)))
      (λ due t has. s.durable t u has sure)
      (λ v h. marked v (same-or-not v u) (go units.default refl v (sym default ∙ h)))
      (λ h. absurd (none-some _ (sym h ∙ default)))
      (let a = few-admitted soups units.slots.items s.eight sig admitted in let b = count-put units.slots.items u card in omega (arith, a, b)) (but-of place stands told units u p s)
    where
      with : Slot C → Slot C
      with slot = record slot { card = Some card }

      slot : (slot : Slot C) × (slice_get units.slots.items u ≡ Some slot)
      slot = attached-slot units.slots.items u attached

      here : mounted_in later.slots.items u ≡ true
      here = mark-here units later u with is slot.0 slot.1

      go : (d : Option ℕ) → units.default ≡ d → (v : ℕ) → Some (unwrap_or d u) ≡ Some v → (v ≡ u) ⊎ (mounted_in units.slots.items v ≡ true)
      go None e v h = inl (sym (some-same u v h))
      go (Some x) e v h = inr (s.default v (e ∙ h))

      marked : (v : ℕ) → (v ≡ u) ⊎ (v ≡ u → ⊥) → (v ≡ u) ⊎ (mounted_in units.slots.items v ≡ true) → mounted_in later.slots.items v ≡ true
      marked v (inl e) k = ap (mounted_in later.slots.items) e ∙ here
      marked v (inr e) (inl k) = absurd (e k)
      marked v (inr e) (inr k) = mark-other units later u with is v e ∙ k

  module _ (o p : Outside) (e : Eight o) (s : Stands place stands true units o) (free : IsFree units (o.blocks u) u) (sure : due_in units.slots.items u ≡ false) (moment : p.now ≡ o.now) (cards : SameCards o p) (there : stands true card p) (at : place card ≡ u) where
    abbrev w : World
    w = world_of reads units o

    abbrev fs : List Face
    fs = card_faces soups units.slots.items

    -- the store that was opened
    held : (t : Store) × (reads (image u o.now) ≡ Some t) × (bare t ≡ soups card)
    held = let k = l.plain card p there in (k.0, ap (λ m. reads (image u m)) (sym moment) ∙ ap (λ n. reads (image n p.now)) (sym at) ∙ k.1, k.2)

    sig-is : (soups card).sig ≡ held.0.sig
    sig-is = ap (λ (t : Store). t.sig) (sym held.2)

    name-is : (soups card).name ≡ held.0.name
    name-is = ap (λ (t : Store). t.name) (sym held.2)

    ready : IsReady w u (o.blocks u) (one held.0)
    ready = subst (λ m. IsReady w u (o.blocks u) (media_of m)) held.1 (ready-known l units o e s u free sure)

    still : world_of reads units p ≡ w
    still = world-still reads units o p cards (λ j. ap (changes j) moment)

    -- the store may not be mounted
    pub mount-refuses : (fault : StoreFault) → Admits fs (soups card) (Err fault) → Answers {T = ℕ × List ℕ} w (world_of reads units p) (command.Mount u) (λ x. Reply.store x.0 x.1) (Err fault)
    mount-refuses (Refused r) h = mount-refused w u (o.blocks u) held.0 ready refl fs (faces-known l units o e s) r (ap (λ n. first_of (beside_checks fs n)) (sym sig-is) ∙ h) ∙ ap {B = World × Reply} (λ x. (x, Reply.refused r)) (sym still)
    mount-refuses (Stop stop) h = tt

    -- the store is mounted
    pub mount-answers : (later : Units C) (x : ℕ × List ℕ) → later.slots.items ≡ with_card u (Some card) units.slots.items → later.default ≡ Some (unwrap_or units.default u) → later.minute ≡ units.minute
        → Admits fs (soups card) (Ok x) → answer w (command.Mount u) ≡ (world_of reads later p, Reply.store x.0 x.1)
    mount-answers later x is default minute h =
        let k = attached-slot units.slots.items u free.attached in
        mount-does w u (o.blocks u) held.0 ready refl fs (faces-known l units o e s) (ap (λ n. first_of (beside_checks fs n)) (sym sig-is) ∙ h.0)
        ∙ ap {A = World} {B = World × Reply} (λ v. (record (mark v u true) { default = Some (unwrap_or units.default u) }, Reply.store held.0.sig held.0.name)) (sym still)
        ∙ ap {A = World} {B = World × Reply} (λ v. (v, Reply.store held.0.sig held.0.name)) (sym (world-marked units later u (Some card) is reads p k.0 k.1 minute (Some (unwrap_or units.default u)) default))
        ∙ ap {A = ℕ} {B = World × Reply} (λ n. (world_of reads later p, Reply.store n held.0.name)) (sym (h.1 ∙ sig-is))
        ∙ ap {A = List ℕ} {B = World × Reply} (λ n. (world_of reads later p, Reply.store x.0 n)) (sym (h.2 ∙ name-is))

-- there is no store
pub mount-unopened : {C : Type 0} {reads : List ℕ → Option Store} {place : C → ℕ} {soups : C → Store} {stands : Bool → C → Outside → Type 0} → Laws reads place soups stands → (units : Units C) (u : ℕ) (o p : Outside)
    → Eight o → Stands place stands true units o → IsFree units (o.blocks u) u → due_in units.slots.items u ≡ false → p.now ≡ o.now → SameCards o p → (told : Bool) → IsTrue told → (good : C → Type 0) (fault : StoreFault) → Opens good (IsTrue told → reads (image u o.now) ≡ None) (Err fault)
    → Answers {T = ℕ × List ℕ} (world_of reads units o) (world_of reads units p) (command.Mount u) (λ x. Reply.store x.0 x.1) (Err fault)
mount-unopened {reads = reads} l units u o p e s free sure moment cards told t good (Refused r) h =
    mount-no-store (world_of reads units o) u (o.blocks u) (subst (λ m. IsReady (world_of reads units o) u (o.blocks u) (media_of m)) (h.0 t) (ready-known l units o e s u free sure))
    ∙ ap {B = World × Reply} (λ q. (world_of reads units o, Reply.refused q)) (sym h.1)
    ∙ ap {A = World} {B = World × Reply} (λ x. (x, Reply.refused r)) (sym (world-still reads units o p cards (λ j. ap (changes j) moment)))
mount-unopened l units u o p e s free sure moment cards told t good (Stop stop) h = tt

-- ---- unmount

-- the default of a world without the unit
default-is : (w : World) (u : ℕ) (fs : List Face) (d : Option ℕ) → w.default ≡ d → faces w ≡ fs → default_without w u ≡ default_after fs d u
default-is w u fs d default known = go d default
  where
    go : (d : Option ℕ) → w.default ≡ d → default_without w u ≡ default_after fs d u
    go None e = ap (λ (x : Option ℕ). elim x [ None ↦ None | Some v ↦ cond (u == v) (option_map (λ m. m.0) (first_of_list (mounted w))) (Some v) ]) e
    go (Some v) e = ap (λ (x : Option ℕ). elim x [ None ↦ None | Some v ↦ cond (u == v) (option_map (λ m. m.0) (first_of_list (mounted w))) (Some v) ]) e
        ∙ ap (λ x. cond (u == v) x (Some v)) (first-is w ∙ ap first_shown known)

-- the slot of a unit, without a card
module _ {C : Type 0} (soups : C → Store) (units later : Units C) (u : ℕ) (f : Slot C → Slot C) (none : (slot : Slot C) → (f slot).card ≡ None) (is : later.slots.items ≡ with_slot u f units.slots.items)
    (default : later.default ≡ default_after (card_faces soups later.slots.items) units.default u) where
  -- the default is mounted
  default-mounted : ((v : ℕ) → units.default ≡ Some v → mounted_in units.slots.items v ≡ true) → (v : ℕ) → later.default ≡ Some v → mounted_in later.slots.items v ≡ true
  default-mounted was v h = go units.default refl (sym default ∙ h)
    where
      fs : List Face
      fs = card_faces soups later.slots.items

      test : (x : ℕ) → units.default ≡ Some x → (b : Bool) → (u == x) ≡ b → cond b (first_shown fs) (Some x) ≡ Some v → mounted_in later.slots.items v ≡ true
      test x e true t k = sym (face-some soups (card_at later.slots.items v)) ∙ position-passes is_some (λ j. card_face soups (card_at later.slots.items j)) 0 8 v k
      test x e false t k =
          let same = some-same x v k in
          mark-other units later u f is v (λ i. both-ways (sym t ∙ eq-eqb u x (sym i ∙ sym same))) ∙ was v (e ∙ k)

      go : (d : Option ℕ) → units.default ≡ d → default_after fs d u ≡ Some v → mounted_in later.slots.items v ≡ true
      go None e k = absurd (none-some v k)
      go (Some x) e k = test x e (u == x) refl k

  -- where there is none, nothing is mounted
  none-mounted : (slot : Slot C) → slice_get units.slots.items u ≡ Some slot → (units.default ≡ None → (v : ℕ) → mounted_in units.slots.items v ≡ false) → length units.slots.items ≡ 8
      → later.default ≡ None → (v : ℕ) → mounted_in later.slots.items v ≡ false
  none-mounted slot at was eight h v = go units.default refl (sym default ∙ h)
    where
      fs : List Face
      fs = card_faces soups later.slots.items

      size : length later.slots.items ≡ 8
      size = ap length is ∙ same-length f units.slots.items u ∙ eight

      beside : units.default ≡ None → (v ≡ u) ⊎ (v ≡ u → ⊥) → mounted_in later.slots.items v ≡ false
      beside e (inl i) = ap (mounted_in later.slots.items) i ∙ mark-here units later u f is slot at ∙ ap is_some (none slot)
      beside e (inr other) = mark-other units later u f is v other ∙ was e v

      shown : first_shown fs ≡ None → (v < 8) ⊎ (8 ≤ v) → mounted_in later.slots.items v ≡ false
      shown e (inl low) = sym (face-some soups (card_at later.slots.items v)) ∙ position-fails is_some (λ j. card_face soups (card_at later.slots.items j)) 0 8 e v (omega arith) (omega (arith, low))
      shown e (inr high) = ap (λ x. is_some (card_of x)) (past-end later.slots.items v (subst (λ n. n ≤ v) (sym size) high))

      go : (d : Option ℕ) → units.default ≡ d → default_after fs d u ≡ None → mounted_in later.slots.items v ≡ false
      go None e k = beside e (same-or-not v u)
      go (Some x) e k = test (u == x) k
        where
          test : (b : Bool) → cond b (first_shown fs) (Some x) ≡ None → mounted_in later.slots.items v ≡ false
          test true k = shown k (low-or-high v 8)
          test false k = absurd (none-some x (sym k))

  pub gone-stands : (slot : Slot C) → slice_get units.slots.items u ≡ Some slot → (f slot).attached ≡ slot.attached → (place : C → ℕ) (stands : Bool → C → Outside → Type 0) (told : Bool) (o : Outside)
      → ((f slot).due ≡ false → IsTrue told → IsSome (o.card u) → IsDurable u o.now) → StandsBut place stands u told units o → Stands place stands told later o
  gone-stands slot at keeps place stands told o still s = stands-marked units later u f is slot at place stands told o keeps
      (λ c h. absurd (none-some c (sym (none slot) ∙ h))) (λ due. ap is_some (none slot)) still (default-mounted s.default) (none-mounted slot at s.none s.eight)
      (let a = count-less f none units.slots.items u in let b = s.few in omega (arith, a, b)) s

  -- the default of the world after it
  after-default : {reads : List ℕ → Option Store} {place : C → ℕ} {stands : Bool → C → Outside → Type 0} → Laws reads place soups stands → (o : Outside) → Eight o → Stands place stands true later o
      → (v : World) → v.default ≡ units.default → faces v ≡ faces (world_of reads later o) → default_without v u ≡ later.default
  after-default l o e s v was shown = default-is v u (card_faces soups later.slots.items) units.default was (shown ∙ faces-known l later o e s) ∙ sym default

module _ {C : Type 0} (soups : C → Store) (units later : Units C) (u : ℕ) (is : later.slots.items ≡ with_card u None units.slots.items) (default : later.default ≡ default_after (card_faces soups later.slots.items) units.default u)
    (mounted : mounted_in units.slots.items u ≡ true) where
  abbrev emptied : Slot C → Slot C
  emptied slot = record slot { card = None }

  pub unmounted-stands : (place : C → ℕ) (stands : Bool → C → Outside → Type 0) (told : Bool) (o : Outside) → Stands place stands told units o → Stands place stands told later o
  unmounted-stands place stands told o s =
      let k = mounted-slot units.slots.items u mounted in
      gone-stands soups units later u emptied (λ slot. refl) is default k.0 k.1 refl place stands told o
      (λ due t has. s.durable t u has (ap due_of k.1 ∙ due)) (but-of place stands told units u o s)

  pub unmount-answers : {reads : List ℕ → Option Store} {place : C → ℕ} {stands : Bool → C → Outside → Type 0} → Laws reads place soups stands → (o : Outside) → Eight o → Stands place stands true units o
      → (blocks : ℕ) (s : Store) → OnUnit (world_of reads units o) u blocks s → later.minute ≡ units.minute
      → answer (world_of reads units o) (command.Unmount u) ≡ (world_of reads later o, Reply.done)
  unmount-answers {reads} {place} {stands} l o e st blocks s on minute =
      unmount-done w u blocks s on refl ∙ ap {A = World} {B = World × Reply} (λ v. (v, Reply.done)) (sym (marked (default_without (mark w u false) u) (sym after)))
    where
      w : World
      w = world_of reads units o

      marked : (d : Option ℕ) → later.default ≡ d → world_of reads later o ≡ record (mark w u false) { default = d }
      marked d h = let k = mounted-slot units.slots.items u mounted in world-marked units later u None is reads o k.0 k.1 minute d h

      after : default_without (mark w u false) u ≡ later.default
      after = after-default soups units later u emptied (λ slot. refl) is default l o e (unmounted-stands place stands true o st) (mark w u false) refl (ap faces (sym (marked later.default refl)))

-- ---- a unit that is thrown out

module _ {C : Type 0} (soups : C → Store) (units later : Units C) (u : ℕ) (is : later.slots.items ≡ without u units.slots.items) (default : later.default ≡ default_after (card_faces soups later.slots.items) units.default u)
    (attached : attached_in units.slots.items u ≡ true) where
  abbrev outcast : Slot C → Slot C
  outcast slot = record slot { due = true; card = None }

  pub thrown-stands : (place : C → ℕ) (stands : Bool → C → Outside → Type 0) (told : Bool) (o : Outside) → StandsBut place stands u told units o → Stands place stands told later o
  thrown-stands place stands told o s =
      let k = attached-slot units.slots.items u attached in
      gone-stands soups units later u outcast (λ slot. refl) is default k.0 k.1 refl place stands told o (λ due. absurd (both-ways (sym due))) s

  pub thrown-world : {reads : List ℕ → Option Store} {place : C → ℕ} {stands : Bool → C → Outside → Type 0} → Laws reads place soups stands → (o : Outside) → Eight o → StandsBut place stands u true units o
      → later.minute ≡ units.minute → world_of reads later o ≡ thrown_out (world_of reads units o) u (λ _. lost)
  thrown-world {reads} {place} {stands} l o e st minute = marked (default_without v u) (sym after)
    where
      v : World
      v = change_device (world_of reads units o) u (λ d. record d { media = lost; mounted = false })

      marked : (d : Option ℕ) → later.default ≡ d → world_of reads later o ≡ record v { default = d }
      marked d h =
          let k = attached-slot units.slots.items u attached in
          world-slot units later u outcast is k.0 k.1 reads o o (SameCards-refl o) (λ j h. refl) (λ d. record d { media = lost; mounted = false }) refl
          ∙ ap {A = Option ℕ} {B = World} (λ d. record v { default = d; minute = later.minute }) h
          ∙ ap {A = ℕ} {B = World} (λ m. record v { default = d; minute = m }) minute

      after : default_without v u ≡ later.default
      after = after-default soups units later u outcast (λ slot. refl) is default l o e (thrown-stands place stands true o st) v refl (ap faces (sym (marked later.default refl)))

  -- which units are mounted then, and of which a sync is due
  pub thrown-marks : (j : ℕ) → mounted_in later.slots.items j ≡ (mounted_in units.slots.items j && not (j == u))
  thrown-marks j = go (same-or-not j u)
    where
      and-not : (a : Bool) → (a && not false) ≡ a
      and-not true = refl
      and-not false = refl

      and-no : (a : Bool) → (a && not true) ≡ false
      and-no true = refl
      and-no false = refl

      go : (j ≡ u) ⊎ (j ≡ u → ⊥) → mounted_in later.slots.items j ≡ (mounted_in units.slots.items j && not (j == u))
      go (inl e) = let k = attached-slot units.slots.items u attached in
          ap (mounted_in later.slots.items) e ∙ mark-here units later u outcast is k.0 k.1
          ∙ sym (and-no (mounted_in units.slots.items j)) ∙ ap (λ b. mounted_in units.slots.items j && not b) (sym (eq-eqb j u e))
      go (inr e) = mark-other units later u outcast is j e ∙ sym (and-not (mounted_in units.slots.items j)) ∙ ap (λ b. mounted_in units.slots.items j && not b) (sym (ne_eqb j u e))

  pub thrown-dues : (j : ℕ) → due_in later.slots.items j ≡ (due_in units.slots.items j || (j == u))
  thrown-dues j = go (same-or-not j u)
    where
      or-yes : (a : Bool) → (a || true) ≡ true
      or-yes true = refl
      or-yes false = refl

      or-no : (a : Bool) → (a || false) ≡ a
      or-no true = refl
      or-no false = refl

      go : (j ≡ u) ⊎ (j ≡ u → ⊥) → due_in later.slots.items j ≡ (due_in units.slots.items j || (j == u))
      go (inl e) = let k = attached-slot units.slots.items u attached in
          ap (due_in later.slots.items) e ∙ due-here units later u outcast is k.0 k.1
          ∙ sym (or-yes (due_in units.slots.items j)) ∙ ap (λ b. due_in units.slots.items j || b) (sym (eq-eqb j u e))
      go (inr e) = due-other units later u outcast is j e ∙ sym (or-no (due_in units.slots.items j)) ∙ ap (λ b. due_in units.slots.items j || b) (sym (ne_eqb j u e))

-- no device is at fault where a store may not be mounted
pub admits-none : (faces : List Face) (s : Store) (fault : StoreFault) → Admits faces s (Err fault) → NoDevice fault
admits-none faces s (Refused refusal) h = tt
admits-none faces s (Stop stop) h = subst (λ (x : End). NoDevice (Stop x)) (sym h) tt
