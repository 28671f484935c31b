-- A call on the card of one unit.
use Rattle.std.proofs.Common.{arith, ◌≡◌, ◌≢◌, refl, ap, sym, ◌∙◌, subst, ℕ, ◌+◌, ◌<◌, ◌≤◌, List, ◌⊎◌, inl, inr, Bool, true, false, cond, IsTrue, Option, Some, None, length, get_or}
use Rattle.std.specs.Prelude.{Result, Ok, Err, OnOk, IfErr, IsSome, slice_get, is_some}
use Rattle.std.specs.Vec.{with_item}
use Rattle.std.proofs.lemmas.Bool.{eq-eqb}
use Rattle.std.proofs.lemmas.Option.{slice_get_read, slice_get_within}
use Rattle.newt_base.specs.Refusals.{Checks, first_of}
use Rattle.newt_host.specs.Moments.{changes, image, Always, IsDurable, Leaves}
use Rattle.newt_host.specs.Outside.{Outside, NoFault, OnlyReads, Touches, OnDevices, Spends}
use Rattle.newt_host.proofs.Outside.{Broke-on}
use Rattle.newt_pagebook.specs.Book.{IsOpenFor, IsSameFor}
use Rattle.newt_pagebook.specs.Stops.{BlamesNone, StopsAt, HasStopCause}
use Rattle.newt_pagebook.specs.declared.book.BookFault.{BookFault}
use Rattle.newt_pagebook.specs.declared.book.Stop.{Stop as Ends}
use Rattle.newt_pagebook.specs.declared.book.Stop.TheVariants as stops
use Rattle.newt_spec_graph.proofs.Lists.{both-ways}
use Rattle.newt_laws_world.proofs.Units.{same-or-not}
use Rattle.newt_spec_store.specs.Store.{Store}
use Rattle.newt_spec_world.specs.Step.{writes}
use Rattle.newt_spec_world.specs.World.{World, store_on_unit, change_store}
use Rattle.newt_spec_world.specs.declared.command.Command.{Command}
use Rattle.newt_laws_answers.specs.There.{OnUnit}
use Rattle.newt_laws_answers.proofs.Worlds.{world-alike, device-stays}
use Rattle.newt_laws_answers.proofs.Units.{is-there}
use Rattle.newt_store_change.specs.declared.fault.StoreFault.{StoreFault}
use Rattle.newt_store_change.specs.declared.fault.StoreFault.TheVariants.{Refused, Stop}
use Rattle.newt_engine_card.specs.Bounds.{CostsOn, FetchesAtMost, FetchesOn, IsOpenOrSame, LeftAlone, ProgramsAtMost, of_unit}
use Rattle.newt_engine_card.specs.Cards.{LeavesEither, OthersSame}
use Rattle.newt_store_change.specs.Faults.{Does, FaultsAt, GoesOn, HasFaultCause, IsRefused}
use Rattle.newt_engine_units.specs.declared.units.Slot.{Slot}
use Rattle.newt_engine_units.specs.declared.units.Units.{Units}
use Rattle.newt_engine_units.specs.Breaks.{FailsAlone, Meanwhile}
use Rattle.newt_engine_units.specs.Calls.{AreRead, Breaks, Ended}
use Rattle.newt_engine_units.specs.Stands.{card_of, due_in, mounted_in, world_of, Stands}
use Rattle.newt_engine_units.proofs.Broken.{fails-alone, its-devices, world-without}
use Rattle.newt_engine_units.proofs.Marked.{not-due}
use Rattle.newt_engine_units.proofs.Slots.{Replaced, but-replaced, stands-replaced, stands-still, card-was, dues, marks}
use Rattle.newt_engine_units.specs.Stands.{Eight}
use Rattle.newt_engine_units.proofs.Known.{Laws, on-known}
use Rattle.newt_engine_units.proofs.Turns.{does-world, either-moments, world-still}

-- the units with another card in the place n, where a slot was
abbrev pub later : {C : Type 0} → Units C → ℕ → Slot C → C → Units C
later units n slot next = record units { slots = with_item units.slots n (record { attached = slot.attached; due = slot.due; card = Some next }) }

-- A call on the card of unit u, which stands in the place n, from o to p. It left another card.
pub record Called {C : Type 0} (place : C → ℕ) (told : Bool) (units : Units C) (u n : ℕ) (slot : Slot C) (card next : C) (o p : Outside) : Type 0 where
  pub unit_is : u ≡ n
  pub bound : n < length units.slots.items
  pub value : slot ≡ get_or units.slots.items n slot
  pub was : slot.card ≡ Some card
  pub place_is : place next ≡ place card
  pub touches : Touches (place card) o p

pub replaced : {C : Type 0} {place : C → ℕ} {told : Bool} {units : Units C} {u n : ℕ} {slot : Slot C} {card next : C} {o p : Outside}
    → Called place told units u n slot card next o p → Replaced units (later units n slot next) u card next
replaced {C} {place} {told} {units} {u} {n} {slot} {card} {next} c = subst (λ k. Replaced units (later units n slot next) k card next) (sym c.unit_is) (record {
  slot = slot;
  at = slice_get_read units.slots.items (length units.slots.items) n slot refl c.bound c.value;
  was = c.was;
  is = refl;
  default = refl;
  minute = refl;
})

-- a unit with a card is one of the units
pub mounted-bound : {C : Type 0} (slots : List (Slot C)) (u n : ℕ) → u ≡ n → mounted_in slots u ≡ true → n < length slots
mounted-bound slots u n is h = subst (λ k. k < length slots) is (go (slice_get slots u) refl)
  where
    go : (x : Option (Slot _)) → slice_get slots u ≡ x → u < length slots
    go None e = absurd (both-ways (sym (ap (λ x. is_some (card_of x)) e) ∙ h))
    go (Some slot) e = slice_get_within slots u slot e

-- where a card is mounted, it is there
pub not-there : {C : Type 0} (slots : List (Slot C)) (u n : ℕ) (slot : Slot C) → u ≡ n → slot ≡ get_or slots n slot → mounted_in slots u ≡ true → slot.card ≡ None → ⊥
not-there slots u n slot is value h none =
    let at = slice_get_read slots (length slots) n slot refl (mounted-bound slots u n is h) value in
    both-ways (sym (ap (mounted_in slots) is ∙ ap (λ x. is_some (card_of x)) at ∙ ap is_some none) ∙ h)

-- why a call did not answer
pub cause-of : {T : Type 0} (u : ℕ) (o p : Outside) (result : Result T StoreFault) → IfErr result (FaultsAt u o p) → IfErr result (λ fault. HasFaultCause fault o p)
cause-of u o p (Ok x) h = h
cause-of u o p (Err (Refused refusal)) h = tt
cause-of u o p (Err (Stop stops.Memory)) h = h
cause-of u o p (Err (Stop (stops.Device at))) h = Broke-on (sym h.0) h.1

pub stop-cause : {T : Type 0} (u : ℕ) (o p : Outside) (result : Result T Ends) → IfErr result (StopsAt u o p) → IfErr result (λ stop. HasStopCause stop o p)
stop-cause u o p (Ok x) h = h
stop-cause u o p (Err stops.Memory) h = h
stop-cause u o p (Err (stops.Device at)) h = Broke-on (sym h.0) h.1

-- no device has fewer faults
pub on-devices : {u : ℕ} {o p : Outside} → Touches u o p → OnDevices o p
on-devices {u} {o} {p} t = record {
  input = t.input;
  cards = t.cards;
  in_faults = t.in_faults;
  out_faults = t.out_faults;
  dev_faults = λ j. go j (same-or-not j u);
}
  where
    go : (j : ℕ) → (j ≡ u) ⊎ (j ≡ u → ⊥) → o.dev_faults j ≤ p.dev_faults j
    go j (inl e) = subst (λ k. o.dev_faults k ≤ p.dev_faults k) (sym e) t.faults_later
    go j (inr e) = let k = t.dev_faults j e in omega (arith, k)

-- no other unit is touched
pub beside : {u : ℕ} {o p : Outside} → Touches u o p → OthersSame u o.now p.now → (j : ℕ) → (j ≡ u → ⊥) → LeftAlone j o p
beside {u} {o} {p} t others j e = let same = t.others j e in record {
  programmed = let k = same.programmed in omega (arith, k);
  wears = record { erased = let k = same.erased in omega (arith, k); synced = let k = same.synced in omega (arith, k) };
  changes = others j e;
}

-- nothing is fetched of another unit
pub others-unread : {u : ℕ} {o p : Outside} → Touches u o p → (j : ℕ) → j ≢ u → p.fetched j ≤ o.fetched j
others-unread t j other = let k = (t.others j other).fetched in omega (arith, k)

-- of its unit so much, and nothing of any other
pub fetches-of : {u : ℕ} (n : ℕ) {o p : Outside} → Touches u o p → p.fetched u ≤ o.fetched u + n → FetchesAtMost (of_unit u n) o p
fetches-of {u} n {o} {p} t less j = go (same-or-not j u)
  where
    more : (a b c : ℕ) → a ≤ b → a ≤ b + c
    more a b c h = omega (arith, h)

    go : (j ≡ u) ⊎ (j ≡ u → ⊥) → p.fetched j ≤ o.fetched j + of_unit u n j
    go (inl is) = subst (λ k. p.fetched k ≤ o.fetched k + of_unit u n k) (sym is)
        (subst (λ m. p.fetched u ≤ o.fetched u + m) (sym (ap (λ b. cond b n 0) (eq-eqb u u refl))) less)
    go (inr other) = more (p.fetched j) (o.fetched j) (of_unit u n j) (others-unread t j other)

-- a call that only reads its unit leaves each unit alone
pub all-alone : {u : ℕ} {o p : Outside} → OnlyReads u o p → (j : ℕ) → LeftAlone j o p
all-alone {u} {o} {p} r j = go (same-or-not j u)
  where
    go : (j ≡ u) ⊎ (j ≡ u → ⊥) → LeftAlone j o p
    go (inl e) = subst (λ k. LeftAlone k o p) (sym e) (record { programmed = r.programmed; wears = r.wears; changes = ap (changes u) r.moment })
    go (inr e) = beside r.alone (λ k h. ap (changes k) r.moment) j e

-- a fault that is one of which no device is to blame
pub blames-none : (T : Type 0) {other : BookFault} (fault : BookFault) → fault ≡ other → BlamesNone {T = T} (Err other) → BlamesNone {T = T} (Err fault)
blames-none T fault is none = subst (λ (e : BookFault). BlamesNone {T = T} (Err e)) (sym is) none

-- how a call on one unit ends
pub ends-of : {T : Type 0} {u : ℕ} {o p : Outside} (result : Result T StoreFault) → IsSome (o.card u) → Touches u o p → IfErr result (FaultsAt u o p) → (GoesOn result → NoFault o p) → Ended result o p
ends-of {u = u} {o} {p} result there t cause none = record {
  alone = on-devices t;
  cause = cause-of u o p result cause;
  failed = its-devices (FailsAlone o p) u o p result (fails-alone there t) cause;
  no_fault = none;
}

-- a change leaves a bank that is not closed, and a refusal leaves the unit
pub open-or-same : {T : Type 0} (u : ℕ) (o p : Outside) (result : Result T StoreFault) → OnOk result (IsOpenFor 0 (image u p.now)) → (IsRefused result → p.now ≡ o.now)
    → GoesOn result → IsOpenOrSame u o.now p.now
open-or-same u o p (Ok x) changed refused goes = inl changed
open-or-same u o p (Err (Refused refusal)) changed refused goes = inr (ap (image u) (refused tt))
open-or-same u o p (Err (Stop stop)) changed refused goes = absurd goes

-- a call after which nothing has happened leaves the world
pub call-still : {C : Type 0} {place : C → ℕ} (reads : List ℕ → Option Store) {told : Bool} {units : Units C} {u n : ℕ} {slot : Slot C} {card next : C} {o p : Outside}
    → Called place told units u n slot card next o p → p.now ≡ o.now → world_of reads (later units n slot next) p ≡ world_of reads units o
call-still reads {told} {units} {u} {n} {slot} {card} {next} {o} {p} c same =
    world-alike reads (due_in units.slots.items) (due_in (later units n slot next).slots.items) (mounted_in units.slots.items) (mounted_in (later units n slot next).slots.items) units.default units.default units.minute units.minute o p
    (λ j. device-stays reads (due_in units.slots.items) (due_in (later units n slot next).slots.items) (mounted_in units.slots.items) (mounted_in (later units n slot next).slots.items) o p j c.touches.cards
    (dues units (later units n slot next) u card next (replaced c) j) (marks units (later units n slot next) u card next (replaced c) j) (ap (changes j) same)) refl refl

module _ {C : Type 0} {reads : List ℕ → Option Store} {place : C → ℕ} {soups : C → Store} {stands : Bool → C → Outside → Type 0} (l : Laws reads place soups stands)
    {units : Units C} {u n : ℕ} {slot : Slot C} {card next : C} {o p : Outside} where
  -- the card stands on the unit
  pub place-is : {told : Bool} → Called place told units u n slot card next o p → Stands place stands told units o → place card ≡ u
  place-is {told} c s = (s.cards u card (card-was units (later units n slot next) u card next (replaced c))).1

  -- the unit has a device
  pub call-there : {told : Bool} → Eight o → Called place told units u n slot card next o p → Stands place stands told units o → IsSome (o.card u)
  call-there {told} e c s = go (o.card u) refl
    where
      on : 13 ≤ o.blocks u
      on = subst (λ k. 13 ≤ o.blocks k) (place-is c s) (l.banks told card o (s.cards u card (card-was units (later units n slot next) u card next (replaced c))).0)

      go : (k : Option (List ℕ)) → o.card u ≡ k → IsSome (o.card u)
      go None h = absurd (let z = e.none u h in omega (arith, on, z))
      go (Some name) h = subst IsSome (sym h) refl

  -- and no sync of it is due
  call-sure : {told : Bool} → Called place told units u n slot card next o p → Stands place stands told units o → due_in units.slots.items u ≡ false
  call-sure c s = not-due units.slots.items s.sure u (ap is_some (card-was units (later units n slot next) u card next (replaced c)))

  -- its device alone has failed
  pub call-fails : {told : Bool} → Eight o → Called place told units u n slot card next o p → Stands place stands told units o → FailsAlone o p u
  call-fails {told} e c s = fails-alone (call-there e c s) (subst (λ k. Touches k o p) (place-is c s) c.touches)

  -- what stands where it has
  pub call-breaks : {told : Bool} → Eight o → Called place told units u n slot card next o p → Stands place stands told units o → (IsTrue told → OthersSame (place card) o.now p.now)
      → Breaks reads place stands told units (later units n slot next) o p u
  call-breaks {told} e c s others = record {
    stands = but-replaced place stands l.kept l.durable told units (later units n slot next) u card next o p (replaced c) c.touches.cards same s;
    world = λ t. world-without reads units (later units n slot next) u card next o p (replaced c) c.touches.cards (same t);
    others = same;
    failed = call-fails e c s;
  }
    where
      same : IsTrue told → (j : ℕ) → (j ≡ u → ⊥) → changes j p.now ≡ changes j o.now
      same t j h = others t j (λ i. h (i ∙ place-is c s))

  pub call-stands : {told : Bool} → Called place told units u n slot card next o p → Stands place stands told units o
      → (IsTrue told → OthersSame (place card) o.now p.now) → stands told next p → Stands place stands told (later units n slot next) p
  call-stands {told} c s others there =
      stands-replaced place stands l.kept l.durable told units (later units n slot next) u card next o p (replaced c) c.touches.cards
      (λ t j h. others t j (λ e. h (e ∙ place-is c s))) there (c.place_is ∙ place-is c s) s

  -- what a store was read, and what the card does, on its unit
  pub call-does : {told : Bool} → IsTrue told → Eight o → Called place told units u n slot card next o p → (s : Stands place stands told units o)
      → OthersSame (place card) o.now p.now
      → {T : Type 0} (blocks : ℕ) (a b : Store) (f : Store → Store) (tests : ℕ → Checks) (good : T → Type 0) (result : Result T StoreFault) → f a ≡ b
      → (reads (image (place card) o.now) ≡ Some a → Does (tests (o.blocks (place card))) good (Some a) (Some b) (reads (image (place card) p.now)) result)
      → OnUnit (world_of reads units o) u blocks a
      → Does (tests blocks) good (world_of reads units o) (change_store (world_of reads units o) u f) (world_of reads (later units n slot next) p) result
  call-does {told} t e c s others blocks a b f tests good result is does on =
      let at = place-is c s in
      let k = on-known l units o e (subst (λ x. Stands place stands x units o) t s) u blocks a on in
      subst (λ m. Does (tests m) good (world_of reads units o) (change_store (world_of reads units o) u f) (world_of reads (later units n slot next) p) result) (sym k.2)
      (does-world reads units (later units n slot next) u card next o p a (replaced c) c.touches.cards (λ j h. others j (λ i. h (i ∙ at))) (call-sure c s) k.3 (tests (o.blocks u)) good b f result is
      (subst (λ m. Does (tests (o.blocks m)) good (Some a) (Some b) (reads (image m p.now)) result) at (does (ap (λ m. reads (image m o.now)) at ∙ k.3))))

  pub call-moments : {told : Bool} → IsTrue told → Eight o → Called place told units u n slot card next o p → Stands place stands told units o
      → (blocks : ℕ) (a b : Store) (tests : ℕ → Checks)
      → (reads (image (place card) o.now) ≡ Some a → Leaves (place card) (LeavesEither reads (tests (o.blocks (place card))) a b) o.now p.now)
      → OnUnit (world_of reads units o) u blocks a → (command : Command) (v : World) → writes (world_of reads units o) command u ≡ true → (first_of (tests blocks) ≡ None → store_on_unit v u ≡ Some b)
      → Always (Meanwhile reads (due_in units.slots.items) (world_of reads units o) command v o.now) o.now p.now
  call-moments {told} t e c s blocks a b tests leaves on command v written makes =
      let st : Stands place stands true units o = subst (λ x. Stands place stands x units o) t s in
      let at = place-is c s in
      let k = on-known l units o e st u blocks a on in
      either-moments l units o e st u a b (tests (o.blocks u)) command v p.now (is-there (world_of reads units o) u blocks a on) written (λ h. makes (ap (λ m. first_of (tests m)) k.2 ∙ h))
      (subst (λ m. Leaves m (LeavesEither reads (tests (o.blocks m)) a b) o.now p.now) at (leaves (ap (λ m. reads (image m o.now)) at ∙ k.3)))

  -- where it is refused nothing happens
  pub call-idle : {told : Bool} → IsTrue told → Eight o → Called place told units u n slot card next o p → Stands place stands told units o
      → (blocks : ℕ) (a : Store) (tests : ℕ → Checks) → (reads (image (place card) o.now) ≡ Some a → IsSome (first_of (tests (o.blocks (place card)))) → p.now ≡ o.now)
      → OnUnit (world_of reads units o) u blocks a → IsSome (first_of (tests blocks)) → p.now ≡ o.now
  call-idle {told} t e c s blocks a tests idle on refused =
      let at = place-is c s in
      let k = on-known l units o e (subst (λ x. Stands place stands x units o) t s) u blocks a on in
      idle (ap (λ m. reads (image m o.now)) at ∙ k.3) (subst (λ m. IsSome (first_of (tests (o.blocks m)))) (sym at) (subst (λ m. IsSome (first_of (tests m))) k.2 refused))

  -- what the card programs, and what it leaves open
  pub call-costs : {told : Bool} → IsTrue told → Eight o → Called place told units u n slot card next o p → Stands place stands told units o
      → OthersSame (place card) o.now p.now
      → {T : Type 0} (blocks : ℕ) (a : Store) (most : ℕ → ℕ) (result : Result T StoreFault)
      → (reads (image (place card) o.now) ≡ Some a → ProgramsAtMost (most (o.blocks (place card))) (place card) o p)
      → OnOk result (IsOpenFor 0 (image (place card) p.now)) → (IsRefused result → p.now ≡ o.now)
      → OnUnit (world_of reads units o) u blocks a → CostsOn u (most blocks) result o p
  call-costs {told} t e c s others blocks a most result bound changed refused on =
      let at = place-is c s in
      let k = on-known l units o e (subst (λ x. Stands place stands x units o) t s) u blocks a on in
      subst (λ m. CostsOn u (most m) result o p) (sym k.2) (subst (λ m. CostsOn m (most (o.blocks m)) result o p) at (record {
        bound = bound (ap (λ m. reads (image m o.now)) at ∙ k.3);
        open_after = open-or-same (place card) o p result changed refused;
        others = λ j h. beside c.touches others j h;
      }))

  -- what the card fetches
  pub call-fetches-on : {told : Bool} → IsTrue told → Eight o → Called place told units u n slot card next o p → Stands place stands told units o
      → (blocks : ℕ) (a : Store) (most : ℕ → ℕ) {fetches : ℕ}
      → (reads (image (place card) o.now) ≡ Some a → IsOpenFor (most (o.blocks (place card))) (image (place card) o.now) → p.fetched (place card) ≤ o.fetched (place card) + fetches)
      → OnUnit (world_of reads units o) u blocks a → FetchesOn u (most blocks) fetches o p
  call-fetches-on {told} t e c s blocks a most {fetches} less on =
      let at = place-is c s in
      let k = on-known l units o e (subst (λ x. Stands place stands x units o) t s) u blocks a on in
      subst (λ m. FetchesOn u (most m) fetches o p) (sym k.2) (subst (λ m. FetchesOn m (most (o.blocks m)) fetches o p) at (record {
        fetched = less (ap (λ m. reads (image m o.now)) at ∙ k.3);
        unread = λ j other. others-unread c.touches j other;
      }))

  -- what a call leaves that only reads
  pub call-looks : {told : Bool} → Called place told units u n slot card next o p → Stands place stands told units o → stands told next p → OnlyReads (place card) o p
      → AreRead reads place stands told units (later units n slot next) o p
  call-looks {told} c s there looks = record {
    stand = call-stands c s (λ t j h. ap (changes j) looks.moment) there;
    world = λ t. call-still reads c looks.moment;
    marks = λ j. marks units (later units n slot next) u card next (replaced c) j;
    dues = λ j. dues units (later units n slot next) u card next (replaced c) j;
    default = refl;
    minute = refl;
    moment = looks.moment;
    untouched = all-alone looks;
    alone = on-devices looks.alone;
  }

  -- what a call costs its unit
  pub call-spends : {told : Bool} → Called place told units u n slot card next o p → Stands place stands told units o → {programs fetches : ℕ}
      → Spends (place card) programs fetches o p → Spends u programs fetches o p
  call-spends c s {programs} {fetches} h = subst (λ k. Spends k programs fetches o p) (place-is c s) h

  -- what a call that only reads fetches of each unit
  pub call-fetches : {told : Bool} → Called place told units u n slot card next o p → Stands place stands told units o → {programs fetches : ℕ}
      → Spends (place card) programs fetches o p → FetchesAtMost (of_unit u fetches) o p
  call-fetches c s {programs} {fetches} h = fetches-of fetches (subst (λ k. Touches k o p) (place-is c s) c.touches) (call-spends c s h).fetched

  -- what was read of the store of the unit
  pub call-reads : {told : Bool} → IsTrue told → Eight o → Called place told units u n slot card next o p → Stands place stands told units o
      → (blocks : ℕ) (a : Store) → OnUnit (world_of reads units o) u blocks a → reads (image (place card) o.now) ≡ Some a
  call-reads t e c s blocks a on =
      let k = on-known l units o e (subst (λ x. Stands place stands x units o) t s) u blocks a on in
      ap (λ m. reads (image m o.now)) (place-is c s) ∙ k.3

-- a call after which nothing has happened leaves what stands
pub read-still : {C : Type 0} (reads : List ℕ → Option Store) {place : C → ℕ} {stands : Bool → C → Outside → Type 0}
    → ((told : Bool) (card : C) (old new : Outside) → stands told card old → IsSameFor told (place card) old new → stands told card new)
    → ((card : C) (outside : Outside) → stands true card outside → IsDurable (place card) outside.now)
    → {told : Bool} {units : Units C} {u : ℕ} {o p : Outside} → OnlyReads u o p → Stands place stands told units o → AreRead reads place stands told units units o p
read-still reads {place} {stands} kept durable {told} {units} {u} {o} {p} looks s = record {
  stand = stands-still place stands kept durable told units o p looks.alone.cards (λ t j. ap (changes j) looks.moment) s;
  world = λ t. world-still reads units o p looks.alone.cards (λ j. ap (changes j) looks.moment);
  marks = λ j. refl;
  dues = λ j. refl;
  default = refl;
  minute = refl;
  moment = looks.moment;
  untouched = all-alone looks;
  alone = on-devices looks.alone;
}
