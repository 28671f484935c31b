-- A device is attached and read, and what is said of it put out.
use Rattle.std.proofs.Common.{◌≡◌, inl, inr, ℕ, zero, suc, ◌*◌, ◌≤◌, Bool, true, false, List, [], ◌∷◌, ◌++◌, length, Option, Some, None, IsSome, Result, Ok as Good, Err as Bad, is_err, refl, sym, ◌∙◌, ap, subst, arith}
use Rattle.std.specs.Prelude.{slice_get, option_map, option_and_then}
use Rattle.std.proofs.lemmas.Bool.{cases_lt}
use Rattle.newt_host.specs.Meanings.{device_on, out_of, since}
use Rattle.newt_host.specs.Moments.{Attached, Change, IsDurable, IsHistory, LeftBy, Moment, Always, here, bytes_after, changes, image, moment_at, output}
use Rattle.newt_host.specs.Outside.{Outside, NoFault, OnlyReads, PrintsSome, Rose, SameWork, Wears}
use Rattle.newt_host.proofs.Extending.{extends-always}
use Rattle.newt_host.proofs.Histories.{untouched-attached}
use Rattle.newt_host.proofs.Moments.{Always-map}
use Rattle.newt_host.proofs.Outside.{NoFault-append}
use Rattle.newt_host.proofs.Since.{Always-at}
use Rattle.newt_host.proofs.Printing.{changes-printed}
use Rattle.newt_host_attach.specs.Named.{AreAttached, if_known}
use Rattle.newt_host_attach.proofs.Since.{since_attached}
use Rattle.newt_laws_steps.proofs.Beginning.{attached-durable}
use Rattle.newt_script_session.specs.Calls.{OutputFailed, WriteCall}
use Rattle.newt_script_session.specs.Causes.{HasCause, NoStreamFault}
use Rattle.newt_script_session.specs.Named.{AtEachMoment, AttachedFirst, held_by}
use Rattle.newt_script_session.specs.Stream.{PutsText, WroteSome}
use Rattle.newt_script_session.specs.declared.halt.Halt.TheVariants.{Sink as NoSink}
use Rattle.newt_script_session.proofs.Counting.{faults_err, never_of, none-append}
use Rattle.newt_top.specs.Calls.{RunEnds}
use Rattle.newt_top.specs.Reading.{ActsBeforeReply, IsSaid, RanReading, WroteSaid}
use Rattle.newt_top.specs.declared.status.Mode.TheVariants.{Read}
use Rattle.newt_top.specs.declared.status.Reading.{Reading}
use Rattle.newt_top.specs.declared.status.Status.{Status}
use Rattle.newt_top.specs.declared.status.Status.TheVariants.{Ok, Memory, Device, Sink}
use Rattle.newt_top.proofs.Acting.{attached-printing}
use Rattle.newt_top.proofs.Halting.{ends_halted, ends_ok, ends_quiet}

-- what was printed since then has changed no device
pub still : (text : List ℕ) (mid new : Outside) → Always (PrintsSome text mid.now) mid.now new.now → Always (λ m. (unit : ℕ) → changes unit m ≡ changes unit mid.now) mid.now new.now
still text mid new always = Always-map (λ m some unit. last m some unit) always
  where
    last : (m : Moment) → PrintsSome text mid.now m → (unit : ℕ) → changes unit m ≡ changes unit mid.now
    last m some unit = ap (λ (n : Moment). changes unit n) some.moment ∙ changes-printed unit some.done mid.now

module _ (names : List (List ℕ)) (old mid : Outside) (a : AreAttached true names old mid) where
  -- unit u has the device as it was held
  pub device-held : (unit : ℕ) → device_on unit mid ≡ held_by names old unit
  device-held unit = go (slice_get names unit) (a.cards refl unit)
    where
      known : (name : List ℕ) (d : Option (List ℕ)) → old.devices name ≡ d → mid.card unit ≡ option_map (λ (bytes : List ℕ). name) d → device_on unit mid ≡ d
      known name None e card = ap (λ (o : Option (List ℕ)). option_map (λ (n : List ℕ). image unit mid.now) o) card
      known name (Some bytes) e card =
          let was = a.begins refl unit name card in
          let same : was.0 ≡ bytes = (let both : Some was.0 ≡ Some bytes = sym was.1 ∙ e in cc) in
          ap (λ (o : Option (List ℕ)). option_map (λ (n : List ℕ). image unit mid.now) o) card ∙ ap Some (ap bytes_after was.2 ∙ same)

      go : (o : Option (List ℕ)) → mid.card unit ≡ if_known old o → device_on unit mid ≡ option_and_then old.devices o
      go None card = ap (λ (o : Option (List ℕ)). option_map (λ (n : List ℕ). image unit mid.now) o) card
      go (Some name) card = known name (old.devices name) refl card

  -- nothing is pending there
  pub durable-held : (unit : ℕ) → (mid.card unit ≡ None → changes unit mid.now ≡ []) → IsDurable unit mid.now
  durable-held unit none = go (mid.card unit) refl
    where
      go : (o : Option (List ℕ)) → mid.card unit ≡ o → IsDurable unit mid.now
      go None e = λ left may. absurd (subst (λ (d : List Change). LeftBy d left) (none e) may)
      go (Some name) e = let was = a.begins refl unit name e in attached-durable unit was.0 mid.now was.2

  -- where nothing has changed a device since then, a crash leaves it as it was held
  pub crash-held : (new : Outside) → Always (λ m. (unit : ℕ) → changes unit m ≡ changes unit mid.now) mid.now new.now
      → ((unit : ℕ) → new.card unit ≡ mid.card unit) → ((unit : ℕ) → changes unit old.now ≡ []) → ((unit : ℕ) → new.card unit ≡ None → changes unit new.now ≡ [])
      → ((unit : ℕ) → IsSome (new.card unit) → IsHistory (new.blocks unit * 4096) (changes unit new.now)) → AtEachMoment new (λ unit left shown. held_by names old unit ≡ Some left)
  crash-held new always cards fresh unknown history unit t left shown at (k, from, to, may, out_is) = go (new.card unit) refl
    where
      go : (o : Option (List ℕ)) → new.card unit ≡ o → held_by names old unit ≡ Some left
      go None e = let never : since new unit ≡ None = untouched-attached unit new.now (unknown unit e) in absurd (cc)
      go (Some name) e =
          let had : mid.card unit ≡ Some name = sym (cards unit) ∙ e in
          let was = a.begins refl unit name had in
          let past = history unit (subst (λ (o : Option (List ℕ)). IsSome o) (sym e) refl) in
          let then : changes unit (moment_at k new.now) ≡ Attached was.0 ∷ [] = elim (cases_lt k (length mid.now)) [
            | inl early ↦
                (since_attached unit t k (new.blocks unit * 4096) was.0 old.now mid.now new.now (fresh unit) (extends-always (a.unread refl)) (a.quiet refl) was.2 (extends-always always) past at from (omega (arith, early))).0
            | inr late ↦ Always-at always k late to unit ∙ was.2
          ] in
          let is : left ≡ was.0 = subst (λ (d : List Change). LeftBy d left) then may in
          sym (device-held unit) ∙ ap (λ (o : Option (List ℕ)). option_map (λ (n : List ℕ). image unit mid.now) o) had ∙ ap Some (ap bytes_after was.2 ∙ sym is)

-- ---- what is left

module _ (names : List (List ℕ)) (old mid looked : Outside) (a : AreAttached true names old mid) (looks : OnlyReads 0 mid looked) where
  -- nothing was put out before the device was read
  pub quiet-held : out_of looked ≡ out_of old
  quiet-held = ap (λ (m : Moment). output m) looks.moment ∙ a.quiet refl

  -- and while a text is put out, a crash leaves each device as it was held
  pub crash-since : (fresh : (unit : ℕ) → changes unit old.now ≡ []) (new : Outside) (unknown : (unit : ℕ) → new.card unit ≡ None → changes unit new.now ≡ [])
      (history : (unit : ℕ) → IsSome (new.card unit) → IsHistory (new.blocks unit * 4096) (changes unit new.now)) (text : List ℕ) → Always (PrintsSome text looked.now) looked.now new.now
      → ((unit : ℕ) → new.card unit ≡ looked.card unit) → AtEachMoment new (λ unit left shown. held_by names old unit ≡ Some left)
  crash-since fresh new unknown history text always cards =
      let since_mid : Always (PrintsSome text mid.now) mid.now new.now = subst (λ (m : Moment). Always (PrintsSome text m) m new.now) looks.moment always in
      crash-held names old mid a new (still text mid new since_mid) (λ unit. cards unit ∙ looks.alone.cards.card unit) fresh unknown history

module _ (reading : Reading) (names : List (List ℕ)) (old mid looked : Outside) (a : AreAttached true names old mid) (looks : OnlyReads 0 mid looked)
    (fresh : (unit : ℕ) → changes unit old.now ≡ []) (blank : (unit : ℕ) → mid.card unit ≡ None → changes unit mid.now ≡ []) where
  quiet : out_of looked ≡ out_of old
  quiet = quiet-held names old mid looked a looks

  -- it was attached first, and nothing was done to it while a text was put out
  first-attached : (new : Outside) (text : List ℕ) → Always (PrintsSome text looked.now) looked.now new.now → ((unit : ℕ) → new.card unit ≡ looked.card unit)
      → AttachedFirst names old new × ActsBeforeReply old.now new.now
  first-attached new text prints cards = attached-printing names old mid new blank a (λ unit. cards unit ∙ looks.alone.cards.card unit) text
      (subst (λ (m : Moment). Always (PrintsSome text m) m new.now) looks.moment prints)

  module _ (new : Outside) (unknown : (unit : ℕ) → new.card unit ≡ None → changes unit new.now ≡ []) (history : (unit : ℕ) → IsSome (new.card unit) → IsHistory (new.blocks unit * 4096) (changes unit new.now)) where
    -- the text was put out, or the output failed
    pub ran-put : {T E : Type 0} (result : Result T E) (text : List ℕ) → IsSaid reading (held_by names old 0) text → PutsText result text looked.now new.now → WriteCall true OutputFailed result looked new
        → (is_err result ≡ true → RanReading reading names Sink old new) × (is_err result ≡ false → RanReading reading names Ok old new)
    ran-put (Good x) text is puts call = (
      λ fails. absurd (cc),
      λ works. record {
        attached = (first-attached new text puts.moments call.devices.cards.card).0;
        acts = (first-attached new text puts.moments call.devices.cards.card).1;
        wrote = (text, is, puts.whole ∙ ap (λ (o : List ℕ). o ++ text) quiet);
        left = call.unread.input ∙ looks.alone.input ∙ a.input;
        crash = crash-since names old mid looked a looks fresh new unknown history text puts.moments call.devices.cards.card;
      },
    )
    ran-put (Bad e) text is puts call = (
      λ fails. record {
        attached = (first-attached new text puts.moments call.devices.cards.card).0;
        acts = (first-attached new text puts.moments call.devices.cards.card).1;
        wrote = (text, is, subst (λ (o : List ℕ). WroteSome text o (out_of new)) quiet puts.failed);
        left = call.unread.input ∙ looks.alone.input ∙ a.input;
        crash = crash-since names old mid looked a looks fresh new unknown history text puts.moments call.devices.cards.card;
      },
      λ works. absurd (cc),
    )

  none-put : Always (PrintsSome [] looked.now) looked.now looked.now
  none-put = here (record { done = []; rest = []; split = refl; moment = refl })

  -- nothing was put out
  pub ran-unput : ((unit : ℕ) → looked.card unit ≡ None → changes unit looked.now ≡ []) → ((unit : ℕ) → IsSome (looked.card unit) → IsHistory (looked.blocks unit * 4096) (changes unit looked.now))
      → (status : Status) → (out_of looked ≡ out_of old → WroteSaid status (IsSaid reading (held_by names old 0)) (out_of old) (out_of looked)) → RanReading reading names status old looked
  ran-unput unknown history status wrote = record {
    attached = (first-attached looked [] none-put (λ unit. refl)).0;
    acts = (first-attached looked [] none-put (λ unit. refl)).1;
    wrote = wrote quiet;
    left = looks.alone.input ∙ a.input;
    crash = crash-since names old mid looked a looks fresh looked unknown history [] none-put (λ unit. refl);
  }

-- ---- devices

-- nothing was done to one but a reading
pub only-read : (old mid looked new : Outside) (unit : ℕ) → SameWork unit old mid → OnlyReads 0 mid looked → SameWork unit looked new → (new.programmed unit ≤ old.programmed unit) × Wears unit 0 0 old new
only-read old mid looked new unit first looks last = go unit first last
  where
    go : (u : ℕ) → SameWork u old mid → SameWork u looked new → (new.programmed u ≤ old.programmed u) × Wears u 0 0 old new
    go zero f l = (
      omega (arith, f.programmed, looks.programmed, l.programmed),
      record { erased = omega (arith, f.erased, looks.wears.erased, l.erased); synced = omega (arith, f.synced, looks.wears.synced, l.synced) },
    )
    go (suc u) f l =
        let same = looks.alone.others (suc u) (λ is. absurd (omega (arith, is))) in (
          omega (arith, f.programmed, same.programmed, l.programmed),
          record { erased = omega (arith, f.erased, same.erased, l.erased); synced = omega (arith, f.synced, same.synced, l.synced) },
        )

-- ---- faults

-- no fault of a stream was counted before the text was put out
pub free-read : (old mid looked : Outside) → NoStreamFault old mid → OnlyReads 0 mid looked → NoStreamFault old looked
free-read old mid looked free looks = record { in_faults = looks.alone.in_faults ∙ free.in_faults; out_faults = looks.alone.out_faults ∙ free.out_faults; dev_faults = faults }
  where
    faults : (unit : ℕ) → old.dev_faults unit ≤ looked.dev_faults unit
    faults zero = omega (arith, free.dev_faults 0, looks.alone.faults_later)
    faults (suc u) = omega (arith, free.dev_faults (suc u), looks.alone.dev_faults (suc u) (λ is. absurd (omega (arith, is))))

-- no fault was counted while the names were attached
pub none-attached : (told : Bool) (names : List (List ℕ)) (old mid : Outside) → AreAttached told names old mid → NoFault old mid
none-attached told names old mid a = record { in_faults = a.in_faults; out_faults = a.out_faults; dev_faults = a.counts.dev_faults }

-- out of memory, where no fault was counted
pub ends-memory : (reading : Reading) (old looked : Outside) → NoStreamFault old looked → NoFault old looked → RunEnds (Read reading) Memory old looked
ends-memory reading old looked free none = ends_quiet (Read reading) old looked Memory none tt (λ same. absurd (cc)) (never_of free)

-- the device failed
pub ends-device : (reading : Reading) (old mid looked : Outside) → NoStreamFault old looked → mid.dev_faults 0 ≡ old.dev_faults 0 → Rose (mid.dev_faults 0) (looked.dev_faults 0) → RunEnds (Read reading) (Device 0) old looked
ends-device reading old mid looked free same rose =
    ends_quiet (Read reading) old looked (Device 0) (tt, refl, subst (λ (n : ℕ). Rose n (looked.dev_faults 0)) same rose) tt (λ other. absurd (cc)) (never_of free)

-- the text was put out, or the output failed
pub ends-put : {T E : Type 0} (reading : Reading) (told : Bool) (result : Result T E) (old looked new : Outside) → NoStreamFault old looked → NoFault old looked → WriteCall told OutputFailed result looked new
    → (is_err result ≡ true → RunEnds (Read reading) Sink old new) × (is_err result ≡ false → RunEnds (Read reading) Ok old new)
ends-put {T} {E} reading told (Good x) old looked new free none call =
    let last : NoFault looked new = record { in_faults = call.faults.no_fault.in_faults; out_faults = call.faults.no_fault.out_faults; dev_faults = call.devices.counts.dev_faults } in (
      λ fails. absurd (cc),
      λ works. ends_ok (Read reading) old new (NoFault-append none last) (never_of (none-append free call.faults.no_fault)),
    )
ends-put {T} {E} reading told (Bad e) old looked new free none call = (
  λ fails. ends_halted (Read reading) old new {T = T} NoSink
      (λ same. record { in_faults = same.in_faults; out_faults = same.out_faults; dev_faults = λ unit. call.devices.counts.dev_faults unit ∙ none.dev_faults unit })
      (faults_err (OutputFailed {E = E}) HasCause old looked new free {T = T} {U = T} (Bad NoSink) e NoSink refl (λ rose. omega (arith, rose, free.out_faults)) call.faults),
  λ works. absurd (cc),
)
