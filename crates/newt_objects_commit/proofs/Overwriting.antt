-- What a patch promises, of what its calls do.
use Rattle.std.proofs.Common.{IsTrue, ◌≡◌, inl, ℕ, ◌+◌, ◌<◌, ◌≤◌, Bool, List, length, Option, Some, IsSome, IfSome, Result, Ok, Err, OnOk, IfErr, IsErrOf, refl, sym, ◌∙◌, ap, subst, arith}
use Rattle.std.specs.FinMap as map
use Rattle.std.specs.FinSet as set
use Rattle.newt_base.specs.declared.Refusal.TheVariants.{Full, Range}
use Rattle.newt_host.specs.Moments.{Moment, changes, image, IsDurable, Leaves}
use Rattle.newt_host.specs.Outside.{Outside, NoFault, Spends}
use Rattle.newt_host.proofs.Outside.{NoFault-append, Touches-append, Wears-append, Wears-widen}
use Rattle.newt_spec_image.specs.Pages.{Change, Pages, cap, pages}
use Rattle.newt_spec_image.specs.Objects.{Extent, Objects}
use Rattle.newt_pagebook.specs.Batch.{no_change}
use Rattle.newt_pagebook.specs.Book.{Numbers, IsOpenFor, batch_bytes, changed_numbers}
use Rattle.newt_pagebook.specs.declared.book.Stop.{Stop as StopOf}
use Rattle.newt_objects.specs.Calls.{Looks}
use Rattle.newt_objects.specs.Changing.{HoldsObjects}
use Rattle.newt_objects.specs.Held.{Held, held, AreOf, WouldHold}
use Rattle.newt_objects.proofs.Changing.{are_still, changed_holds, told_table}
use Rattle.newt_vbo.specs.Patches.{WouldPatch}
use Rattle.newt_vbo.proofs.Committing.{patched_are}
use Rattle.newt_store_change.specs.Faults.{FaultsAt, GoesOn}
use Rattle.newt_store_change.specs.declared.fault.StoreFault.{StoreFault}
use Rattle.newt_store_change.specs.declared.fault.StoreFault.TheVariants.{Refused, Stop}
use Rattle.newt_objects_commit.specs.Calls.{CommitsBatch, CommitsObjects}
use Rattle.newt_objects_commit.specs.Commit.{AreKept}
use Rattle.newt_objects_commit.specs.Patch.{IsBeforeOrPatched, Overwrites, patched_text}
use Rattle.newt_objects_commit.proofs.Calls.{goes-on, kept-looked, ok-map, ok-both, ok-three, ok-told}
use Rattle.newt_objects_commit.proofs.Exits.{faults-since, never-range, no-refusal, open-for-less, or-range, reads-only, spends-both}
use Rattle.newt_objects_commit.proofs.Patching.{patch-nothing, patch-leaves, the-extent, would-be, would-some, text-length}

refused-range : {T : Type 0} → IsErrOf {T = T} (Err (Refused Range)) (Refused Full) → ⊥
refused-range same = cc

is-ok : {T E : Type 0} {P : Type 0} (r : Result T E) → P → OnOk r P
is-ok (Ok x) p = p
is-ok (Err e) p = tt

fewer-live : (a b x y : ℕ) → a ≡ b → x ≡ y → x < a → y < b
fewer-live a b x y e f more = omega (arith, e, f, more)

module _ {B : Type 0} (place : B → ℕ) (numbers : B → Numbers) (spare : B → ℕ) (standing : Bool → B → Outside → Type 0) (told : Bool) (objects : Held) (old mid : B) (before between : Outside)
    (kept : AreKept told objects (numbers old) (place old) before) (look : Looks place numbers spare standing told old mid before between) where
  -- the pages are read, and nothing more is done
  pub commits-looked : (bytes fetches : ℕ) (r : Result (Unit {0}) StoreFault) → (OnOk r ⊥) → Spends (place old) 0 fetches before between → (GoesOn r → NoFault before between) → IfErr r (FaultsAt (place old) before between)
      → CommitsObjects place numbers standing told objects bytes fetches old mid before between r
  commits-looked bytes fetches r never costs none cause = record {
    stands = λ goes. look.stands;
    kept = λ goes. kept-looked place numbers spare standing objects look kept;
    same_place = look.same_place;
    nothing_done = λ refused. look.looks.moment;
    unchanged = λ is. look.looks.moment;
    bound = λ tells ready. reads-only (place old) fetches bytes before between costs;
    wears = λ tells ready. Wears-widen 0 0 0 2 (omega arith) (omega arith) look.looks.wears;
    open_after = λ tells. ok-map _ _ r (λ no. absurd no) never;
    alone = look.looks.alone;
    cause = cause;
    no_fault = none;
  }

  -- the image is the one that it was
  still : image (place old) between.now ≡ image (place old) before.now
  still = ap (λ (m : Moment). image (place old) m) look.looks.moment

  module _ (batch : Change) (new : B) (after : Outside) (r : Result (Unit {0}) StoreFault) (c : CommitsBatch place numbers standing told batch (place old) (numbers old) new between after r) where
    -- the pages are read, and then the batch is committed
    pub commits-patched : (bytes fetches : ℕ) → NoFault before between → Spends (place old) 0 fetches before between → batch_bytes batch ≤ bytes → changed_numbers batch (numbers old) ≡ numbers old
        → (IsTrue told → (live : Pages) → pages (image (place old) before.now) ≡ Some live → (texts : Objects) × WouldHold objects batch live texts)
        → CommitsObjects place numbers standing told objects bytes fetches old new before after r
    commits-patched bytes fetches none costs low same would =
        let unit : ℕ = place old in
        let are : AreOf told (held objects) (numbers old) unit between = subst (λ (ns : Numbers). AreOf told (held objects) ns unit between) look.same_numbers (look.objects (held objects) kept.are) in
        let ready-for : IsOpenFor bytes (image unit before.now) → IsOpenFor (batch_bytes batch) (image unit between.now) =
        λ ready. subst (λ (b : List ℕ). IsOpenFor (batch_bytes batch) b) (sym still) (open-for-less (batch_bytes batch) bytes (image unit before.now) low ready) in
        record {
          stands = c.stands;
          kept = λ goes. record {
            none = kept.none;
            are = goes-on _ r
                (ok-map _ _ r (λ all. patched_are told objects batch (numbers old) (numbers new) unit between after kept.none are all.0 same all.1 (λ tells live is. would tells live (sym (ap pages still) ∙ is)))
                (ok-both _ _ r c.numbers_are (ok-told _ told r c.committed)))
                (λ refused. are_still told (held objects) (held objects) (numbers old) (numbers new) unit between after (λ id. refl) (c.same_numbers refused) (ap (λ (m : Moment). changes unit m) (c.nothing_done refused)) are) goes;
          };
          same_place = c.same_place;
          nothing_done = λ refused. c.nothing_done refused ∙ look.looks.moment;
          unchanged = λ is. c.unchanged is ∙ look.looks.moment;
          bound = λ tells ready. spends-both unit fetches (batch_bytes batch) bytes before between after low costs (c.bound tells (ready-for ready));
          wears = λ tells ready. Wears-append 0 0 0 2 look.looks.wears (c.wears tells (ready-for ready));
          open_after = c.open_after;
          alone = Touches-append look.looks.alone c.alone;
          cause = faults-since r unit unit before between after refl none c.cause;
          no_fault = λ goes. NoFault-append none (c.no_fault goes);
        }

  module _ (id at : ℕ) (bytes : List ℕ) (there : IsSome (held objects id)) where
    -- the text of the object has as many bytes as its extent says
    text-size : IsTrue told → (was : Objects) (text : List ℕ) → (holds : HoldsObjects (image (place old) before.now) was) → map.get was id ≡ Some text → length text ≡ (the-extent (held objects id) there).0.length
    text-size tells was text holds here =
        let x = the-extent (held objects id) there in
        text-length objects id (image (place old) before.now) was text holds.live x.0 holds.of_image
        (told_table told (held objects) (numbers old) (place old) before holds.live kept.are tells holds.of_image) holds.are here x.1

    -- nothing has happened
    same-moment : IsTrue told → (was will : Objects) → (IsTrue told → IsDurable (place old) before.now) → HoldsObjects (image (place old) before.now) was
        → Leaves (place old) (IsBeforeOrPatched (image (place old) before.now) was will) before.now between.now
    same-moment tells was will durable holds = subst (λ (m : Moment). Leaves (place old) (IsBeforeOrPatched (image (place old) before.now) was will) before.now m) (sym look.looks.moment)
        (patch-nothing holds.live was will (place old) before.now holds.of_image holds.are (durable tells))

    -- the range ends past the object's end
    pub overwrites-not : (IsTrue told → IsDurable (place old) before.now) → IfSome (held objects id) (λ x. x.length < at + length bytes) → Spends (place old) 0 0 before between
        → Overwrites told (place old) id at bytes (numbers old) before between (let r : Result (Unit {0}) StoreFault = Err (Refused Range) in r)
    overwrites-not durable past nothing =
        let x = the-extent (held objects id) there in
        let beyond : x.0.length < at + length bytes = subst (λ (o : Option Extent). IfSome o (λ x. x.length < at + length bytes)) x.1 past in
        record {
          patched = λ tells was text holds here. tt;
          range = λ is tells was text holds here. let size = text-size tells was text holds here in omega (arith, size, beyond);
          past = λ tells was text holds here more. refl;
          any_moment = λ tells was text holds here. same-moment tells was (patched_text id at bytes was text) durable holds;
          full = λ is. absurd (refused-range is);
          only = inl refl;
          untouched = λ is. nothing;
          untouched_wears = λ is. look.looks.wears;
        }

    module _ (within : (x : Extent) → held objects id ≡ Some x → at + length bytes ≤ x.length) where
      fits-text : IsTrue told → (was : Objects) (text : List ℕ) → (holds : HoldsObjects (image (place old) before.now) was) → map.get was id ≡ Some text → at + length bytes ≤ length text
      fits-text tells was text holds here =
          let x = the-extent (held objects id) there in
          let low = within x.0 x.1 in
          let size = text-size tells was text holds here in
          omega (arith, low, size)

      never-past : (A : Type 0) (count : ℕ) → at + length bytes ≤ count → count < at + length bytes → A
      never-past A count low more = absurd (omega (arith, low, more))

      -- the run ends
      pub overwrites-ended : (IsTrue told → IsDurable (place old) before.now) → (stop : StopOf) → Overwrites told (place old) id at bytes (numbers old) before between (let r : Result (Unit {0}) StoreFault = Err (Stop stop) in r)
      overwrites-ended durable stop = record {
        patched = λ tells was text holds here. tt;
        range = λ is. absurd (no-refusal is);
        past = λ tells was text holds here more. never-past _ (length text) (fits-text tells was text holds here) more;
        any_moment = λ tells was text holds here. same-moment tells was (patched_text id at bytes was text) durable holds;
        full = λ is. absurd (no-refusal is);
        only = tt;
        untouched = λ is. absurd (no-refusal is);
        untouched_wears = λ is. absurd (no-refusal is);
      }

      module _ (batch : Change) (patch : IsTrue told → (live : Pages) → pages (image (place old) before.now) ≡ Some live → WouldPatch objects id at bytes no_change batch live) where
        -- what the live pages would hold
        pub would-hold : IsTrue told → (live : Pages) → pages (image (place old) before.now) ≡ Some live → (texts : Objects) × WouldHold objects batch live texts
        would-hold tells live is = would-some objects id at bytes batch live kept.none (told_table told (held objects) (numbers old) (place old) before live kept.are tells is) there (patch tells live is)

        -- the batch is committed
        pub overwrites-done : (new : B) (after : Outside) (r : Result (Unit {0}) StoreFault) → changed_numbers batch (numbers old) ≡ numbers old → CommitsBatch place numbers standing told batch (place old) (numbers old) new between after r
            → Overwrites told (place old) id at bytes (numbers old) before after r
        overwrites-done new after r same c =
            let unit : ℕ = place old in
            let would : (tells : IsTrue told) → (was : Objects) (text : List ℕ) → (holds : HoldsObjects (image unit before.now) was) → map.get was id ≡ Some text → WouldHold objects batch holds.live (patched_text id at bytes was text) =
            λ tells was text holds here. would-be objects id at bytes batch holds.live kept.none (told_table told (held objects) (numbers old) unit before holds.live kept.are tells holds.of_image) there
            (patch tells holds.live holds.of_image) was text holds.are here in
            record {
              patched = λ tells was text holds here. ok-three _ _ _ r
                  (ok-map _ _ r (λ changed. changed_holds objects batch holds.live (patched_text id at bytes was text) (image unit between.now) (image unit after.now) (ap pages still ∙ holds.of_image) (would tells was text holds here) changed)
                  (c.committed tells))
                  (is-ok r (fits-text tells was text holds here))
                  (ok-map _ _ r (λ ready. ready.is_open.new) (c.open_after tells));
              range = λ is. absurd (never-range r c.only is);
              past = λ tells was text holds here more. never-past _ (length text) (fits-text tells was text holds here) more;
              any_moment = λ tells was text holds here. subst (λ (m : Moment). Leaves unit (IsBeforeOrPatched (image unit m) was (patched_text id at bytes was text)) m after.now) look.looks.moment
                  (patch-leaves objects batch holds.live was (patched_text id at bytes was text) unit between.now after.now (ap pages still ∙ holds.of_image) holds.are (would tells was text holds here) (c.any_moment tells));
              full = λ is. fewer-live _ _ _ _ (ap (λ (ns : Numbers). set.len ns) same) (ap cap (look.looks.alone.cards.blocks unit)) (c.full is);
              only = or-range r c.only;
              untouched = λ is. absurd (never-range r c.only is);
              untouched_wears = λ is. absurd (never-range r c.only is);
            }
