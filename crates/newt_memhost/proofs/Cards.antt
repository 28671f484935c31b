-- One card of several changes.
use Rattle.std.proofs.Common.{◌≡◌, ◌≢◌, inl, inr, ℕ, zero, suc, ◌+◌, ◌*◌, ◌/◌, ◌<◌, ◌≤◌, ◌&&◌, Bool, true, false, cond, List, [], ◌∷◌, length, get_or, Option, Some, None, IsSome, is_some, IsFalse, Result, Ok, Err, is_err, OnOk, OnErr, slice_get, slice_set, refl, sym, ◌∙◌, ap, subst, arith}
use Rattle.std.proofs.lemmas.Bool.{cases_eq, false≢true}
use Rattle.std.proofs.lemmas.Option.{same_Some, get_or_from_slice_get, slice_get-get_or}
use Rattle.std.proofs.Math.ListN.{length-set}
use Rattle.std.specs.Str.{bytes_eq}
use Rattle.newt_host.specs.Moments.{Change, Attached, Wrote, Synced, On, Moment, bytes_after, changes, output, IsHistory}
use Rattle.newt_host.specs.Outside.{Outside, Rose, StopsAtFault, Touches, UnitCall, Work, Writes, Syncs}
use Rattle.newt_host.proofs.Moments.{changes-same, changes-other}
use Rattle.newt_memhost.specs.Calls.{OnCard, faults_after, moved_after, raised, worn}
use Rattle.newt_memhost.specs.Room.{IsCounted}
use Rattle.newt_memhost.specs.Cards.{IsTold, Stands, StandsAs, name_of, blocks_of, faults_of, programmed_of, fetched_of, erased_of, synced_of, broken_of, attached_device, free_device, or_else, device_of}
use Rattle.newt_memhost.specs.declared.card.Card.{Card}
use Rattle.newt_memhost.specs.declared.card.Device.{Device}

-- what the host tells, from its parts
abbrev pub told-by : List Card → Moment → List ℕ → List Device → ℕ → ℕ → Outside
told-by cs now input shelf in_faults out_faults = record {
  now = now;
  input = input;
  devices = λ name. device_of cs shelf name;
  card = λ u. name_of (slice_get cs u);
  blocks = λ u. blocks_of (slice_get cs u);
  in_faults = in_faults;
  out_faults = out_faults;
  dev_faults = λ u. faults_of (slice_get cs u);
  programmed = λ u. programmed_of (slice_get cs u);
  fetched = λ u. fetched_of (slice_get cs u);
  erased = λ u. erased_of (slice_get cs u);
  synced = λ u. synced_of (slice_get cs u);
  broken = λ u. broken_of (slice_get cs u);
}

pub get-set-same : (cards : List Card) (i : ℕ) (b c : Card) → slice_get cards i ≡ Some b → slice_get (slice_set cards i c) i ≡ Some c
get-set-same [] i b c is = absurd (let no = is in cc)
get-set-same (x ∷ cards) zero b c is = refl
get-set-same (x ∷ cards) (suc i) b c is = get-set-same cards i b c is

pub get-set-other : (cards : List Card) (i u : ℕ) (c : Card) → (u ≡ i → ⊥) → slice_get (slice_set cards i c) u ≡ slice_get cards u
get-set-other [] i u c other = refl
get-set-other (x ∷ cards) zero zero c other = absurd (other refl)
get-set-other (x ∷ cards) zero (suc u) c other = refl
get-set-other (x ∷ cards) (suc i) zero c other = refl
get-set-other (x ∷ cards) (suc i) (suc u) c other = get-set-other cards i u c (λ e. other (ap suc e))

pub eight-set : (cards : List Card) (i : ℕ) (c : Card) → length cards ≡ 8 → length (slice_set cards i c) ≡ 8
eight-set cards i c eight = length-set cards i c ∙ eight

-- what the card before and the card afterwards agree on, all units agree on
pub same-field : {A : Type 0} (f : Option Card → A) (b c : Card) → f (Some c) ≡ f (Some b) → (cards : List Card) (i : ℕ) → slice_get cards i ≡ Some b → (u : ℕ) → f (slice_get (slice_set cards i c) u) ≡ f (slice_get cards u)
same-field f b c same [] i is u = refl
same-field f b c same (x ∷ cards) zero is zero = same ∙ ap f (sym is)
same-field f b c same (x ∷ cards) zero is (suc u) = refl
same-field f b c same (x ∷ cards) (suc i) is zero = refl
same-field f b c same (x ∷ cards) (suc i) is (suc u) = same-field f b c same cards i is u

pub same-device : (b c : Card) → c.attached ≡ b.attached → c.name.items ≡ b.name.items → c.first.items ≡ b.first.items → (name : List ℕ) (cards : List Card) (i : ℕ) → slice_get cards i ≡ Some b
    → attached_device name (slice_set cards i c) ≡ attached_device name cards
same-device b c attached named first name [] i is = refl
same-device b c attached named first name (x ∷ cards) zero is =
    let x_is : x ≡ b = same_Some x b is in
    ap (λ (t : Bool). cond (t && bytes_eq c.name.items name) (Some c.first.items) (attached_device name cards)) (attached ∙ ap (λ (y : Card). y.attached) (sym x_is))
    ∙ ap (λ (l : List ℕ). cond (x.attached && bytes_eq l name) (Some c.first.items) (attached_device name cards)) (named ∙ ap (λ (y : Card). y.name.items) (sym x_is))
    ∙ ap (λ (l : List ℕ). cond (x.attached && bytes_eq x.name.items name) (Some l) (attached_device name cards)) (first ∙ ap (λ (y : Card). y.first.items) (sym x_is))
same-device b c attached named first name (x ∷ cards) (suc i) is =
    ap (λ (o : Option (List ℕ)). cond (x.attached && bytes_eq x.name.items name) (Some x.first.items) o) (same-device b c attached named first name cards i is)

-- an event on a unit is nothing for another
pub elsewhere-writes : {T E : Type 0} {unit at : ℕ} {bytes : List ℕ} {result : Result T E} {old new : Moment} → Writes unit at bytes result old new → (other : ℕ) → other ≢ unit → changes other new ≡ changes other old
elsewhere-writes {unit = unit} {at = at} {old = old} wrote other differ = elim wrote.moment [
  | inl is ↦ ap (λ (m : Moment). changes other m) is ∙ changes-other unit other (Wrote at wrote.reads) old differ
  | inr same ↦ ap (λ (m : Moment). changes other m) same.0
]

pub elsewhere-syncs : {T E : Type 0} {unit : ℕ} {result : Result T E} {old new : Moment} → Syncs unit result old new → (other : ℕ) → other ≢ unit → changes other new ≡ changes other old
elsewhere-syncs {unit = unit} {result = Ok x} {old = old} synced other differ = ap (λ (m : Moment). changes other m) synced.done ∙ changes-other unit other Synced old differ
elsewhere-syncs {unit = unit} {result = Err e} synced other differ = ap (λ (m : Moment). changes other m) synced.failed

-- and nothing for the output
pub output-writes : {T E : Type 0} {unit at : ℕ} {bytes : List ℕ} {result : Result T E} {old new : Moment} → Writes unit at bytes result old new → output new ≡ output old
output-writes wrote = elim wrote.moment [
  | inl is ↦ ap output is
  | inr same ↦ ap output same.0
]

pub output-syncs : {T E : Type 0} {unit : ℕ} {result : Result T E} {old new : Moment} → Syncs unit result old new → output new ≡ output old
output-syncs {result = Ok x} synced = ap output synced.done
output-syncs {result = Err e} synced = ap output synced.failed

-- a unit that has a device has a card
pub card-there : (cards : List Card) (u : ℕ) → IsSome (name_of (slice_get cards u)) → (b : Card) × (slice_get cards u ≡ Some b) × (b.attached ≡ true)
card-there [] u some = absurd (false≢true some)
card-there (x ∷ cards) zero some = (x, refl, held x.attached x.name.items some)
  where
    held : {A : Type 0} (t : Bool) (y : A) → IsSome (cond t (Some y) None) → t ≡ true
    held true y some = refl
    held false y some = some
card-there (x ∷ cards) (suc u) some = card-there cards u some

-- and one that has none
pub read-free : (cards : List Card) (i u : ℕ) (d : Card) → i ≡ u → u < 8 → length cards ≡ 8 → name_of (slice_get cards u) ≡ None → (slice_get cards i ≡ Some (get_or cards i d)) × ((get_or cards i d).attached ≡ false)
read-free cards i u d same low eight free =
    let is : slice_get cards i ≡ Some (get_or cards i d) = slice_get-get_or cards i d (omega (arith, same, low, eight)) in
    (is, no_name (get_or cards i d).attached _ (sym (ap name_of is) ∙ ap (λ (k : ℕ). name_of (slice_get cards k)) same ∙ free))
  where
    no_name : {A : Type 0} (t : Bool) (y : A) → cond t (Some y) None ≡ None → t ≡ false
    no_name true y none = absurd (false≢true (sym (ap is_some none)))
    no_name false y none = refl

-- the card that was read there
pub read-there : (cards : List Card) (i u : ℕ) (d : Card) → i ≡ u → IsSome (name_of (slice_get cards u)) → (slice_get cards i ≡ Some (get_or cards i d)) × ((get_or cards i d).attached ≡ true)
read-there cards i u d same some =
    let there = card-there cards u some in
    let at_i : slice_get cards i ≡ Some there.0 = ap (λ (k : ℕ). slice_get cards k) same ∙ there.1 in
    let is : get_or cards i d ≡ there.0 = get_or_from_slice_get cards i there.0 d at_i in
    (at_i ∙ ap Some (sym is), ap (λ (y : Card). y.attached) is ∙ there.2)

-- it is one of the cards
pub card-inside : (cards : List Card) (i u : ℕ) → i ≡ u → IsSome (name_of (slice_get cards u)) → i < length cards
card-inside cards i u same some = subst (λ (k : ℕ). k < length cards) (sym same) (inside cards u some)
  where
    inside : (cards : List Card) (u : ℕ) → IsSome (name_of (slice_get cards u)) → u < length cards
    inside [] u some = absurd (false≢true some)
    inside (x ∷ cards) zero some = omega arith
    inside (x ∷ cards) (suc u) some = let less = inside cards u some in omega (arith, less)

-- what ends within its blocks ends within what it holds
pub holds-end : (cards : List Card) (i u : ℕ) (d : Card) (end : ℕ) → i ≡ u → IsSome (name_of (slice_get cards u)) → end ≤ blocks_of (slice_get cards u) * 4096 → end ≤ length (get_or cards i d).held.items
holds-end cards i u d end same some fits =
    let b = get_or cards i d in
    let is : blocks_of (slice_get cards u) ≡ length b.first.items / 4096 = ap (λ (k : ℕ). blocks_of (slice_get cards k)) (sym same) ∙ ap blocks_of (read-there cards i u d same some).0 in
    omega (arith, fits, is, b.size, b.whole)

-- a call moves no more bytes than it was to
moved-most : {T E : Type 0} (r : Result T E) (more count : ℕ) → moved_after more r count ≤ count + more
moved-most (Ok x) more count = omega arith
moved-most (Err e) more count = omega arith

-- nor are more calls counted than there were
worn-most : (more count : ℕ) → worn more count ≤ count + more
worn-most zero count = omega arith
worn-most (suc n) count = omega arith

-- a fault more is a count that rose
pub rises : (before now : ℕ) → now ≡ raised 1 before → Rose before now
rises before now is = omega (arith, is)

-- with an error a fault is counted, and with an answer none
pub stops-there : {T E : Type 0} (r : Result T E) (unit : ℕ) (old new : Outside) → old.dev_faults unit ≤ new.dev_faults unit → new.dev_faults unit ≡ faults_after r (old.dev_faults unit) → new.broken unit ≡ is_err r
    → StopsAtFault unit r old new × OnOk r (IsFalse (new.broken unit))
stops-there (Ok x) unit old new later is broken = (record { later = later; cause = tt; no_fault = is }, broken)
stops-there (Err e) unit old new later is broken = (record { later = later; cause = record { count = is; last = broken }; no_fault = tt }, tt)

module _ (cards : List Card) (i unit : ℕ) (b c : Card) (same : i ≡ unit) (is : slice_get cards i ≡ Some b) where
  at-old : slice_get cards unit ≡ Some b
  at-old = ap (λ (k : ℕ). slice_get cards k) (sym same) ∙ is

  at-new : slice_get (slice_set cards i c) unit ≡ Some c
  at-new = ap (λ (k : ℕ). slice_get (slice_set cards i c) k) (sym same) ∙ get-set-same cards i b c is

  -- each unit holds what has happened to it, where this one does, and nothing has happened to another
  pub told-put : (old now : Moment) → IsTold cards old → ((other : ℕ) → other ≢ unit → changes other now ≡ changes other old) → Stands (Some c) (changes unit now) → IsTold (slice_set cards i c) now
  told-put old now told others stands = record {
    each = λ u. elim (cases_eq u unit) [
      | inl here ↦ subst (λ (k : ℕ). Stands (slice_get (slice_set cards i c) k) (changes k now)) (sym here) (subst (λ (o : Option Card). Stands o (changes unit now)) (sym at-new) stands)
      | inr other ↦
          let stood = told.each u in
          subst (λ (o : Option Card). Stands o (changes u now)) (sym (get-set-other cards i u c (λ e. other (e ∙ same))))
          (subst (λ (done : List Change). Stands (slice_get cards u) done) (sym (others u other)) stood)
    ];
  }

  pub told-set : (old now : Moment) → IsTold cards old → b.attached ≡ true → c.attached ≡ b.attached → ((other : ℕ) → other ≢ unit → changes other now ≡ changes other old)
      → (StandsAs true b (changes unit old) → StandsAs true c (changes unit now)) → IsTold (slice_set cards i c) now
  told-set old now told held kept others stands =
      let stood : Stands (Some b) (changes unit old) = subst (λ (o : Option Card). Stands o (changes unit old)) at-old (told.each unit) in
      let stood_so : StandsAs true b (changes unit old) = subst (λ (t : Bool). StandsAs t b (changes unit old)) held stood in
      told-put old now told others (subst (λ (t : Bool). StandsAs t c (changes unit now)) (sym (kept ∙ held)) (stands stood_so))

  -- what a card holds is the image of its unit
  pub image-held : (m : Moment) → IsTold cards m → b.attached ≡ true → bytes_after (changes unit m) ≡ b.held.items
  image-held m told held =
      let stood : Stands (Some b) (changes unit m) = subst (λ (o : Option Card). Stands o (changes unit m)) at-old (told.each unit) in
      (subst (λ (t : Bool). StandsAs t b (changes unit m)) held stood).0

  pub image-set : (m : Moment) → IsTold (slice_set cards i c) m → c.attached ≡ true → bytes_after (changes unit m) ≡ c.held.items
  image-set m told held =
      let stood : Stands (Some c) (changes unit m) = subst (λ (o : Option Card). Stands o (changes unit m)) at-new (told.each unit) in
      (subst (λ (t : Bool). StandsAs t c (changes unit m)) held stood).0

  -- an error leaves the image as it was
  pub unchanged-at : {T E : Type 0} (r : Result T E) (old now : Moment) → IsTold cards old → IsTold (slice_set cards i c) now → b.attached ≡ true → c.attached ≡ b.attached → OnErr r (c.held.items ≡ b.held.items)
      → OnErr r (bytes_after (changes unit now) ≡ bytes_after (changes unit old))
  unchanged-at (Ok x) old now told more held kept same = tt
  unchanged-at (Err e) old now told more held kept same = image-set now more (kept ∙ held) ∙ same ∙ sym (image-held old told held)

  pub told-attach : (first : List ℕ) (old now : Moment) → IsTold cards old → b.attached ≡ false → now ≡ On unit (Attached first) ∷ old → c.attached ≡ true → c.first.items ≡ first → c.held.items ≡ first
      → IsTold (slice_set cards i c) now
  told-attach first old now told free is held first_is held_is =
      let stood : Stands (Some b) (changes unit old) = subst (λ (o : Option Card). Stands o (changes unit old)) at-old (told.each unit) in
      let nothing = (subst (λ (t : Bool). StandsAs t b (changes unit old)) free stood).0 in
      let same_now : changes unit now ≡ Attached first ∷ changes unit old = ap (λ (m : Moment). changes unit m) is ∙ changes-same unit (Attached first) old in
      let stands : StandsAs true c (changes unit now) = subst (λ (done : List Change). StandsAs true c done) (sym same_now) (sym held_is, (ap length (sym first_is), nothing)) in
      told-put old now told (λ other differ. ap (λ (m : Moment). changes other m) is ∙ changes-other unit other (Attached first) old differ) (subst (λ (t : Bool). StandsAs t c (changes unit now)) (sym held) stands)

  -- the same after a call that writes, or that makes sure
  pub told-writes : {T E : Type 0} {at : ℕ} {bytes : List ℕ} {result : Result T E} {old now : Moment} → IsTold cards old → b.attached ≡ true → c.attached ≡ b.attached → Writes unit at bytes result old now
      → (StandsAs true b (changes unit old) → StandsAs true c (changes unit now)) → IsTold (slice_set cards i c) now
  told-writes {old = old} {now = now} told held kept wrote stands = told-set old now told held kept (elsewhere-writes wrote) stands

  pub told-syncs : {T E : Type 0} {result : Result T E} {old now : Moment} → IsTold cards old → b.attached ≡ true → c.attached ≡ b.attached → Syncs unit result old now
      → (StandsAs true b (changes unit old) → StandsAs true c (changes unit now)) → IsTold (slice_set cards i c) now
  told-syncs {old = old} {now = now} told held kept synced stands = told-set old now told held kept (elsewhere-syncs synced) stands

  pub told-reads : {old now : Moment} → IsTold cards old → b.attached ≡ true → c.attached ≡ b.attached → c.first.items ≡ b.first.items → c.held.items ≡ b.held.items → now ≡ old → IsTold (slice_set cards i c) now
  told-reads {old = old} {now = now} told held kept first same is =
      let stands : StandsAs true b (changes unit old) → StandsAs true c (changes unit now) = λ stood. (
        ap (λ (m : Moment). bytes_after (changes unit m)) is ∙ stood.0 ∙ sym same,
        subst (λ (m : Moment). IsHistory (length c.first.items) (changes unit m)) (sym is) (subst (λ (l : List ℕ). IsHistory (length l) (changes unit old)) (sym first) stood.1),
      ) in
      told-set old now told held kept (λ other differ. ap (λ (m : Moment). changes other m) is) stands

  module _ {T E : Type 0} {result : Result T E} {work : Work} (on : OnCard work result b c) where
    names-same : (u : ℕ) → name_of (slice_get (slice_set cards i c) u) ≡ name_of (slice_get cards u)
    names-same u = same-field name_of b c
        (ap (λ (t : Bool). cond t (Some c.name.items) None) on.attached ∙ ap (λ (l : List ℕ). cond b.attached (Some l) None) on.name) cards i is u

    blocks-same : (u : ℕ) → blocks_of (slice_get (slice_set cards i c) u) ≡ blocks_of (slice_get cards u)
    blocks-same u = same-field blocks_of b c (ap (λ (l : List ℕ). length l / 4096) on.first) cards i is u

    devices-same : (shelf : List Device) (name : List ℕ) → device_of (slice_set cards i c) shelf name ≡ device_of cards shelf name
    devices-same shelf name = ap (λ (o : Option (List ℕ)). or_else o (free_device name shelf)) (same-device b c on.attached on.name on.first name cards i is)

    elsewhere : {A : Type 0} (g : Option Card → A) (u : ℕ) → u ≢ unit → g (slice_get (slice_set cards i c) u) ≡ g (slice_get cards u)
    elsewhere g u other = ap g (get-set-other cards i u c (λ e. other (e ∙ same)))

    -- a count of the unit that is one of the card
    count-later : (g : Option Card → ℕ) → g (Some b) ≤ g (Some c) → g (slice_get cards unit) ≤ g (slice_get (slice_set cards i c) unit)
    count-later g later = omega (arith, later, ap g at-old, ap g at-new)

    count-most : (g : Option Card → ℕ) (more : ℕ) → g (Some c) ≤ g (Some b) + more → g (slice_get (slice_set cards i c) unit) ≤ g (slice_get cards unit) + more
    count-most g more most = omega (arith, most, ap g at-old, ap g at-new)

    count-is : (g : Option Card → ℕ) (after : ℕ → ℕ) → g (Some c) ≡ after (g (Some b)) → g (slice_get (slice_set cards i c) unit) ≡ after (g (slice_get cards unit))
    count-is g after is = ap g at-new ∙ is ∙ ap (λ (o : Option Card). after (g o)) (sym at-old)

    module _ (old_now now : Moment) (input : List ℕ) (shelf : List Device) (in_faults out_faults : ℕ) where
      touches : Touches unit (told-by cards old_now input shelf in_faults out_faults) (told-by (slice_set cards i c) now input shelf in_faults out_faults)
      touches = record {
        input = refl;
        cards = record { devices = λ name. devices-same shelf name; card = names-same; blocks = blocks-same };
        in_faults = refl;
        out_faults = refl;
        dev_faults = λ u other. elsewhere faults_of u other;
        others = λ u other. record {
          programmed = elsewhere programmed_of u other;
          fetched = elsewhere fetched_of u other;
          erased = elsewhere erased_of u other;
          synced = elsewhere synced_of u other;
          broken = elsewhere broken_of u other;
        };
        faults_later = count-later faults_of on.faults;
        later = record {
          programmed = count-later programmed_of on.programmed;
          fetched = count-later fetched_of on.fetched;
          erased = count-later erased_of on.erased;
          synced = count-later synced_of on.synced;
        };
      }

      stops : StopsAtFault unit result (told-by cards old_now input shelf in_faults out_faults) (told-by (slice_set cards i c) now input shelf in_faults out_faults) × OnOk result (IsFalse (broken_of (slice_get (slice_set cards i c) unit)))
      stops = stops-there result unit _ _ (count-later faults_of on.faults) (count-is faults_of (faults_after result) on.faults_are) (ap broken_of at-new ∙ on.broken_is)

      -- what every call on a unit promises
      pub unit-call : UnitCall unit work result (told-by cards old_now input shelf in_faults out_faults) (told-by (slice_set cards i c) now input shelf in_faults out_faults)
      unit-call = record {
        alone = touches;
        costs = record {
          programmed = count-most programmed_of work.programs (omega (arith, on.programmed_is, moved-most result work.programs b.programmed));
          fetched = count-most fetched_of work.fetches (omega (arith, on.fetched_is, moved-most result work.fetches b.fetched));
        };
        wears = record {
          erased = count-most erased_of work.erases (omega (arith, on.erased_is, worn-most work.erases b.erased));
          synced = count-most synced_of work.syncs (omega (arith, on.synced_is, worn-most work.syncs b.synced));
        };
        faults = stops.0;
        answered = stops.1;
      }

      pub counted : IsCounted unit work result (told-by cards old_now input shelf in_faults out_faults) (told-by (slice_set cards i c) now input shelf in_faults out_faults)
      counted = record {
        faults = count-is faults_of (faults_after result) on.faults_are;
        programmed = count-is programmed_of (moved_after work.programs result) on.programmed_is;
        fetched = count-is fetched_of (moved_after work.fetches result) on.fetched_is;
        erased = count-is erased_of (worn work.erases) on.erased_is;
        synced = count-is synced_of (worn work.syncs) on.synced_is;
      }
