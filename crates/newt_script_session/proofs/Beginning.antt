-- A run over the devices of names.
use Rattle.std.proofs.Common.{◌≡◌, inl, inr, ℕ, zero, suc, ◌⊎◌, ◌+◌, ◌*◌, Bool, true, false, IsSome, List, [], ◌∷◌, ◌++◌, length, Option, Some, None, Result, OnOk, IfErr, refl, sym, ◌∙◌, ap, subst, arith}
use Rattle.std.specs.Prelude.{slice_get, option_map, option_and_then, drop}
use Rattle.std.proofs.lemmas.Bool.{cases_lt}
use Rattle.std.proofs.lemmas.Option.{slice_get-map}
use Rattle.newt_host_attach.specs.Named.{AreAttached, if_known}
use Rattle.newt_host_attach.proofs.Since.{since_attached}
use Rattle.std.proofs.lemmas.Result.{on_ok_weaker}
use Rattle.newt_host.specs.Meanings.{left_since, out_of, since}
use Rattle.newt_host.specs.Moments.{Attached, Change, Extends, IsDurable, IsHistory, LeftBy, MayLeave, Moment, Always, here, later, changes, image, moment_at, taken, output as printed}
use Rattle.newt_host.specs.Outside.{Outside}
use Rattle.newt_host.proofs.Extending.{extends-always}
use Rattle.newt_host.proofs.Histories.{untouched-attached}
use Rattle.newt_host.proofs.Moments.{Always-last, Always-map}
use Rattle.newt_host.proofs.Since.{Always-at}
use Rattle.newt_laws_steps.specs.Answering.{ReadsOneOf}
use Rattle.newt_spec_graph.specs.Lists.{Among}
use Rattle.newt_spec_script.specs.Script.{Item}
use Rattle.newt_spec_store.specs.Store.{Store}
use Rattle.newt_spec_world.specs.First.{media_of, unit_numbers}
use Rattle.newt_spec_whole.specs.First.{whole_of}
use Rattle.newt_spec_whole.specs.Whole.{Whole, bare_whole, stores_on}
use Rattle.newt_spec_world.specs.World.{Device, flat, stores_of}
use Rattle.newt_script_session.specs.Answered.{Given}
use Rattle.newt_script_session.specs.Causes.{NoStreamFault}
use Rattle.newt_script_session.specs.Counted.{CountedRun, CountedAt, HasLeftCounted}
use Rattle.newt_script_session.specs.Counts.{summary_of}
use Rattle.newt_script_session.specs.First.{unmounted}
use Rattle.newt_script_session.specs.Moments.{Between, BlankThrough, CrashAt, HasLeft, replies_begun}
use Rattle.newt_script_session.specs.Named.{AttachedFirst, CountedNamed, RanNamed, attaching, first_world, held_by}
use Rattle.newt_script_session.specs.Reading.{ActsInTime, ReadsInTime}
use Rattle.newt_spec_script.specs.Rows.{output_of, Row, Stepping, world_at}
use Rattle.newt_script_session.specs.Run.{Halted, IsReadThrough, SummaryHalted}
use Rattle.newt_script_session.specs.Script.{script_items}
use Rattle.newt_script_session.specs.Session.{Session}
use Rattle.newt_laws_steps.specs.Devices.{device_now}
use Rattle.newt_laws_steps.proofs.Beginning.{attached-world}
use Rattle.newt_laws_steps.specs.Thrown.{RowsFailed, RowsThrew}
use Rattle.newt_script_session.specs.declared.halt.Halt.{Halt}
use Rattle.newt_script_session.proofs.Acting.{acts_from, still_quiet}
use Rattle.newt_script_session.proofs.Crashing.{AtRest, at_rest, left_same}
use Rattle.newt_script_session.proofs.Reading.{only_append, only_map, only_none}
use Rattle.newt_script_session.proofs.Throwing.{failed_from, threw_from}

-- ---- the first world

-- what was attached is the whole before the first command
pub first_is : (reads : List ℕ → Option Store) (names : List (List ℕ)) (old new : Outside) → AreAttached true names old new
    → ((unit : ℕ) → length (image unit new.now) ≡ new.blocks unit * 4096) → unmounted reads new ≡ whole_of reads old.devices names
first_is reads names old new a sized = ap (λ w. bare_whole w) (attached-world reads names old new a sized)

-- no fault was counted while the names were attached
pub attached_faultless : (told : Bool) (names : List (List ℕ)) (old new : Outside) → AreAttached told names old new → NoStreamFault old new
attached_faultless told names old new a = record { in_faults = a.in_faults; out_faults = a.out_faults; dev_faults = λ unit. omega (arith, a.counts.dev_faults unit) }

-- ---- what a crash leaves

pub always_first : {Q : Moment → Type 0} {old now : Moment} → Always Q old now → Q old
always_first (here q) = q
always_first (later event now before q) = always_first before

module _ (names : List (List ℕ)) (old mid new : Outside) (a : AreAttached true names old mid) where
  -- at some moment a crash might have left this on the unit, which was attached with these bytes, while that was the output
  pub record Seen (Q : Moment → Type 0) (unit : ℕ) (left shown : List ℕ) : Type 0 where
    pub bytes : List ℕ
    pub held_is : option_and_then old.devices (slice_get names unit) ≡ Some bytes
    pub only : changes unit mid.now ≡ Attached bytes ∷ []
    pub moment : Moment
    pub holds : Q moment
    pub may : MayLeave unit moment left
    pub out_is : printed moment ≡ shown

  known_name : (name bytes : List ℕ) (o : Option (List ℕ)) → if_known old o ≡ Some name → old.devices name ≡ Some bytes → option_and_then old.devices o ≡ Some bytes
  known_name name bytes None is there = absurd (cc)
  known_name name bytes (Some other) is there = go (old.devices other) is
    where
      go : (d : Option (List ℕ)) → option_map (λ (b : List ℕ). other) d ≡ Some name → old.devices other ≡ Some bytes
      go None e = absurd (cc)
      go (Some b) e = let same : other ≡ name = cc in ap old.devices same ∙ there

  unknown_name : (o : Option (List ℕ)) → if_known old o ≡ None → option_and_then old.devices o ≡ None
  unknown_name None none = refl
  unknown_name (Some name) none = go (old.devices name) none
    where
      go : (d : Option (List ℕ)) → option_map (λ (b : List ℕ). name) d ≡ None → d ≡ None
      go None e = refl
      go (Some b) e = absurd (cc)

  -- until all of the names were attached nothing was put out
  quiet_first : Always (λ m. (taken m ≡ taken old.now) × (printed m ≡ printed old.now)) old.now mid.now
  quiet_first = still_quiet (a.unread refl) (a.quiet refl)

  -- they were attached first
  pub attached_first : ((unit : ℕ) → mid.card unit ≡ None → changes unit mid.now ≡ []) → ((unit : ℕ) → new.card unit ≡ mid.card unit) → Extends mid.now new.now → AttachedFirst names old new
  attached_first blank cards extends = record {
    cards = λ unit. cards unit ∙ a.cards refl unit;
    then = mid.now;
    still = quiet_first;
    only = λ unit. go unit (mid.card unit) refl;
    after = extends;
  }
    where
      go : (unit : ℕ) (o : Option (List ℕ)) → mid.card unit ≡ o → changes unit mid.now ≡ attaching (held_by names old unit)
      go unit None e = blank unit e ∙ ap attaching (sym (unknown_name (slice_get names unit) (sym (a.cards refl unit) ∙ e)))
      go unit (Some name) e =
          let was = a.begins refl unit name e in
          was.2 ∙ ap attaching (sym (known_name name was.0 (slice_get names unit) (sym (a.cards refl unit) ∙ e) was.1))

  seen_since : (Q : Moment → Type 0) → Always Q mid.now new.now → (unit t : ℕ) (bytes left shown : List ℕ) (size : ℕ) → changes unit old.now ≡ []
      → option_and_then old.devices (slice_get names unit) ≡ Some bytes → changes unit mid.now ≡ Attached bytes ∷ []
      → IsHistory size (changes unit new.now) → since new unit ≡ Some t → left_since new t unit left shown → Seen Q unit left shown
  seen_since Q always unit t bytes left shown size fresh is only history at (k, from, to, may, out_is) = elim (cases_lt k (length mid.now)) [
    | inl early ↦
        let there = since_attached unit t k size bytes old.now mid.now new.now fresh (extends-always (a.unread refl)) (a.quiet refl) only (extends-always always) history at from (omega (arith, early)) in
        record {
          bytes = bytes;
          held_is = is;
          only = only;
          moment = mid.now;
          holds = always_first always;
          may = left_same unit left mid.now (moment_at k new.now) (there.0 ∙ sym only) may;
          out_is = sym there.1 ∙ out_is;
        }
    | inr late ↦ record { bytes = bytes; held_is = is; only = only; moment = moment_at k new.now; holds = Always-at always k late to; may = may; out_is = out_is }
  ]

  -- at each moment since a unit was attached, by what holds of every host
  seen_named : (Q : Moment → Type 0) → Always Q mid.now new.now
      → ((unit : ℕ) → new.card unit ≡ mid.card unit) → ((unit : ℕ) → changes unit old.now ≡ []) → ((unit : ℕ) → new.card unit ≡ None → changes unit new.now ≡ [])
      → ((unit : ℕ) → IsSome (new.card unit) → IsHistory (new.blocks unit * 4096) (changes unit new.now))
      → (unit t : ℕ) (left shown : List ℕ) → since new unit ≡ Some t → left_since new t unit left shown → Seen Q unit left shown
  seen_named Q always cards fresh unknown history unit t left shown at might = go (new.card unit) refl
    where
      go : (o : Option (List ℕ)) → new.card unit ≡ o → Seen Q unit left shown
      go None e = let never : since new unit ≡ None = untouched-attached unit new.now (unknown unit e) in absurd (cc)
      go (Some name) e =
          let had : mid.card unit ≡ Some name = sym (cards unit) ∙ e in
          let was = a.begins refl unit name had in
          seen_since Q always unit t was.0 left shown (new.blocks unit * 4096) (fresh unit)
          (known_name name was.0 (slice_get names unit) (sym (a.cards refl unit) ∙ had) was.1) was.2
          (history unit (subst (λ (o : Option (List ℕ)). IsSome o) (sym e) refl)) at might

  -- what may be left between two worlds, where the unit was attached with these bytes
  between : (reads : List ℕ → Option Store) (F : Type 0) (world : Whole) (items : List Item) (next : Whole) (unit : ℕ) (bytes left : List ℕ) (held : Option (List ℕ)) → held ≡ Some bytes → changes unit mid.now ≡ Attached bytes ∷ []
      → Between reads (MayLeave unit mid.now) F world items next unit left → Between reads (λ bytes. held ≡ Some bytes) F world items next unit left
  between reads F world items next unit bytes left held is only b = record {
    stores = b.stores;
    blank = λ f none stays.
        let same : LeftBy (Attached bytes ∷ []) left = subst (λ (done : List Change). LeftBy done left) only (b.blank f none stays) in
        is ∙ ap Some (sym same);
  }

  has_left_counted : (reads : List ℕ → Option Store) (world : Whole) (items : List Item) (rows : List (Row Whole)) (unit : ℕ) (left shown : List ℕ)
      → Seen (CountedAt reads mid.now world items rows (printed mid.now)) unit left shown
      → HasLeftCounted reads world items rows (held_by names old unit) (printed old.now) shown unit left
  has_left_counted reads world items rows unit left shown s = record {
    shown = s.holds.shown;
    grown = sym s.out_is ∙ (s.holds.out ∙ ap (λ o. o ++ s.holds.shown) (a.quiet refl));
    leaves = λ later more.
        let l = s.holds.leaves later more in
        let all = rows ++ more in
        (l.0, l.1, between reads (BlankThrough world all l.0 unit) (world_at world all l.0) (drop l.0 (items ++ later)) (world_at world all (l.0 + 1)) unit s.bytes left (held_by names old unit) s.held_is s.only (l.2 unit left s.may));
  }

  has_left : (reads : List ℕ → Option Store) (world : Whole) (items : List Item) (rows : List (Row Whole)) (unit : ℕ) (left shown : List ℕ)
      → Seen (CrashAt reads mid.now world items rows (printed mid.now)) unit left shown
      → HasLeft reads world items rows (held_by names old unit) (printed old.now) shown unit left
  has_left reads world items rows unit left shown s = record {
    shown = s.holds.shown;
    grown = sym s.out_is ∙ (s.holds.out ∙ ap (λ o. o ++ s.holds.shown) (a.quiet refl));
    leaves = λ later more.
        let all = rows ++ more in
        let m = replies_begun all (length s.holds.shown) in
        between reads (BlankThrough world all m unit) (world_at world all m) (drop m (items ++ later)) (world_at world all (m + 1)) unit s.bytes left (held_by names old unit) s.held_is s.only
        (s.holds.leaves later more unit left s.may);
  }

  module _ (step : Stepping Whole) (reads : List ℕ → Option Store) (blank : (unit : ℕ) → mid.card unit ≡ None → changes unit mid.now ≡ []) (cards : (unit : ℕ) → new.card unit ≡ mid.card unit) (fresh : (unit : ℕ) → changes unit old.now ≡ [])
      (unknown : (unit : ℕ) → new.card unit ≡ None → changes unit new.now ≡ [])
      (history : (unit : ℕ) → IsSome (new.card unit) → IsHistory (new.blocks unit * 4096) (changes unit new.now)) where
    -- so it is said of a script from before the names were attached
    pub named_ran : {T : Type 0} (limit : ℕ) (result : Result T Halt) → Session step reads limit result (first_world reads names old) mid new → RanNamed step reads limit result names old new
    named_ran {T} limit result s =
        let w = first_world reads names old in
        let G : List ℕ → Type 0 = λ i. (given : Given step w (script_items i)) × OnOk result ((given.rest ≡ []) × (out_of new ≡ out_of mid ++ output_of given.rows))
        × OnOk result (IsReadThrough limit i new.input) × IfErr result (λ halt. Halted limit halt given.first given.rows i new.input (out_of mid) (out_of new))
        × ReadsInTime step w given.rows mid.now new.now × ActsInTime true given.rows mid.now new.now × Always (CrashAt reads mid.now w given.first given.rows (out_of mid)) mid.now new.now
        × RowsThrew given.rows mid.dev_faults new.dev_faults × RowsFailed given.rows mid.dev_faults new.dev_faults in
        let t = subst G a.input (s.played.given, s.played.out, s.played.read, s.played.halted, s.played.in_time, s.played.acts, s.crash, s.played.threw, s.played.failed) in
        let R : List ℕ → Type 0 = λ o. IfErr result (λ halt. Halted limit halt t.0.first t.0.rows old.input new.input o (out_of new)) in
        record {
          attached = attached_first blank cards (extends-always s.crash);
          played = record {
            given = t.0;
            out = on_ok_weaker result (λ put. (put.0, put.1 ∙ ap (λ o. o ++ output_of t.0.rows) (a.quiet refl))) t.1;
            read = t.2;
            halted = subst R (a.quiet refl) t.3;
            in_time = only_append (only_none (a.unread refl)) (only_map (λ m answered. record {
              bytes = answered.bytes;
              since = answered.since ∙ ap (λ b. b ++ answered.bytes) (Always-last (a.unread refl));
              first = answered.first;
              more = answered.more;
              split = answered.split;
              run = answered.run;
              out = answered.out ∙ ap (λ o. o ++ output_of answered.first) (a.quiet refl);
              no_quit = answered.no_quit;
            }) t.4);
            acts = acts_from true t.0.rows old.now mid.now new.now (a.quiet refl) (Always-map (λ m both. both.1) quiet_first) t.5;
            threw = threw_from t.0.rows old.dev_faults mid.dev_faults new.dev_faults a.counts.dev_faults t.7;
            failed = failed_from t.0.rows old.dev_faults mid.dev_faults new.dev_faults a.counts.dev_faults t.8;
          };
          crash = λ unit at left shown since_is might.
              has_left reads w t.0.first t.0.rows unit left shown (seen_named (CrashAt reads mid.now w t.0.first t.0.rows (printed mid.now)) t.6 cards fresh unknown history unit at left shown since_is might);
        }

    pub named_counted : {T : Type 0} (script : List ℕ) (result : Result T Halt) → CountedRun step reads script result (first_world reads names old) mid new
        → CountedNamed step reads script result names old new
    named_counted script result s =
        let w = first_world reads names old in
        let R : List ℕ → Type 0 = λ o. IfErr result (λ halt. SummaryHalted halt s.given.rest (summary_of s.given.rows) o (out_of new)) in
        record {
          given = s.given;
          out = on_ok_weaker result (λ put. (put.0, put.1 ∙ ap (λ o. o ++ summary_of s.given.rows) (a.quiet refl))) s.out;
          halted = subst R (a.quiet refl) s.halted;
          threw = threw_from s.given.rows old.dev_faults mid.dev_faults new.dev_faults a.counts.dev_faults s.threw;
          failed = failed_from s.given.rows old.dev_faults mid.dev_faults new.dev_faults a.counts.dev_faults s.failed;
          acts = acts_from false s.given.rows old.now mid.now new.now (a.quiet refl) (Always-map (λ m both. both.1) quiet_first) s.acts;
          crash = λ unit at left shown since_is might.
              has_left_counted reads w (script_items script) s.given.rows unit left shown
              (seen_named (CountedAt reads mid.now w (script_items script) s.given.rows (printed mid.now)) s.crash cards fresh unknown history unit at left shown since_is might);
        }

-- ---- where nothing has been done yet

numbers_at : (unit : ℕ) → (slice_get unit_numbers unit ≡ Some unit) ⊎ (slice_get unit_numbers unit ≡ None)
numbers_at zero = inl refl
numbers_at (suc zero) = inl refl
numbers_at (suc (suc zero)) = inl refl
numbers_at (suc (suc (suc zero))) = inl refl
numbers_at (suc (suc (suc (suc zero)))) = inl refl
numbers_at (suc (suc (suc (suc (suc zero))))) = inl refl
numbers_at (suc (suc (suc (suc (suc (suc zero)))))) = inl refl
numbers_at (suc (suc (suc (suc (suc (suc (suc zero))))))) = inl refl
numbers_at (suc (suc (suc (suc (suc (suc (suc (suc unit)))))))) = inr refl

abbrev stores_at : Option Device → List Store
stores_at o = elim o [ None ↦ [] | Some d ↦ stores_of d.media ]

-- A crash leaves a unit as the store of its image, where nothing is pending.
pub unmounted_leaves : (reads : List ℕ → Option Store) (outside : Outside) → ((unit : ℕ) → IsSome (outside.card unit) → IsDurable unit outside.now)
    → (unit : ℕ) (store : Store) (left : List ℕ) → Among (stores_on (unmounted reads outside) unit) store → MayLeave unit outside.now left → ReadsOneOf reads (stores_on (unmounted reads outside) unit) left
unmounted_leaves reads outside durable unit store left among may = elim (numbers_at unit) [
  | inl there ↦
      subst Leaves (sym (ap flat (slice_get-map (device_now reads outside) unit_numbers unit ∙ ap (option_map (device_now reads outside)) there))) (card (outside.card unit) refl) among
  | inr none ↦ subst Leaves (sym (ap flat (slice_get-map (device_now reads outside) unit_numbers unit ∙ ap (option_map (device_now reads outside)) none))) (λ k. absurd k) among
]
  where
    Leaves : Option Device → Type 0
    Leaves o = Among (stores_at o) store → ReadsOneOf reads (stores_at o) left

    attached : (o : Option Store) → Option Device
    attached o = Some (record { blocks = outside.blocks unit; media = media_of o; mounted = false })

    held : IsSome (outside.card unit) → (o : Option Store) → reads (image unit outside.now) ≡ o → Leaves (attached o)
    held some None e = λ k. absurd k
    held some (Some s) e = λ k. (s, inl refl, ap reads (durable unit some left may) ∙ e)

    card : (o : Option (List ℕ)) → outside.card unit ≡ o → Leaves (device_now reads outside unit)
    card None e = subst (λ (c : Option (List ℕ)). Leaves (option_map (λ (name : List ℕ). record { blocks = outside.blocks unit; media = media_of (reads (image unit outside.now)); mounted = false }) c)) (sym e) (λ k. absurd k)
    card (Some name) e =
        subst (λ (c : Option (List ℕ)). Leaves (option_map (λ (name : List ℕ). record { blocks = outside.blocks unit; media = media_of (reads (image unit outside.now)); mounted = false }) c)) (sym e)
        (held (subst (λ (o : Option (List ℕ)). IsSome o) (sym e) refl) (reads (image unit outside.now)) refl)

-- and so a run begins
pub rests_first : (reads : List ℕ → Option Store) (mid : Outside) → ((unit : ℕ) → IsSome (mid.card unit) → IsDurable unit mid.now) → AtRest reads (unmounted reads mid) mid.now
rests_first reads mid durable = at_rest reads (unmounted reads mid) mid.now (unmounted_leaves reads mid durable)
