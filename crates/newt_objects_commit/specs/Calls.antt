-- What calls promise that commit objects. All of it is this project's own.
use Rattle.std.specs.Prelude.{◌≡◌, ℕ, ◌<◌, ◌≤◌, Bool, IsTrue, List, length, Result, OnOk, IfErr, IsErrOf}
use Rattle.std.specs.FinSet as set
use Rattle.newt_base.specs.declared.Refusal.TheVariants.{Full}
use Rattle.newt_host.specs.Moments.{image, Leaves}
use Rattle.newt_host.specs.Outside.{Outside, NoFault, Spends, Touches, Wears}
use Rattle.newt_spec_image.specs.Pages.{Change, cap}
use Rattle.newt_pagebook.specs.Batch.{IsBatch}
use Rattle.newt_pagebook.specs.Book.{Numbers, IsBeforeOrAfter, IsOpenFor, ReadsChanged, batch_bytes, changed_numbers}
use Rattle.newt_pagebook.specs.declared.book.Stop.TheVariants.{Memory}
use Rattle.newt_objects.specs.Held.{Held}
use Rattle.newt_store_change.specs.Faults.{FaultsAt, GoesOn, IsRefused}
use Rattle.newt_store_change.specs.declared.fault.StoreFault.{StoreFault}
use Rattle.newt_store_change.specs.declared.fault.StoreFault.TheVariants.{Refused, Stop}
use Rattle.newt_objects_commit.specs.Commit.{AreKept}
use Rattle.newt_objects_commit.specs.Faults.{RefusesOnly}

-- as many bytes, which hold the pages before a change, in the version before it, or after it, in version 2
abbrev pub IsEitherSide : Change → (now left : List ℕ) → Type 0
IsEitherSide batch now left = (length left ≡ length now) × IsBeforeOrAfter batch now left

-- how many pages are live after a change
abbrev pub live_after : Change → Numbers → ℕ
live_after batch numbers = set.len (changed_numbers batch numbers)

module _ {B : Type 0} (place : B → ℕ) (numbers : B → Numbers)
    (standing : Bool → B → Outside → Type 0) where
  -- What every commit promises beside its own effect: where the run goes on, the book stands and
  -- these objects are those of its unit; where it is refused, and where memory is wanting, nothing
  -- has happened.
  pub record CommitsObjects (told : Bool) (objects : Held) (bytes fetches : ℕ) (old new : B)
      (before after : Outside) (result : Result (Unit {0}) StoreFault) : Type 0 where
    pub stands : GoesOn result → standing told new after
    pub kept : GoesOn result → AreKept told objects (numbers new) (place old) after
    pub same_place : place new ≡ place old
    pub nothing_done : IsRefused result → after.now ≡ before.now
    -- all memory is taken before anything is written
    pub unchanged : IsErrOf result (Stop Memory) → after.now ≡ before.now
    -- what it programs and fetches, whatever the answer, where the bank has room for that
    pub bound : IsTrue told → IsOpenFor bytes (image (place old) before.now) →
        Spends (place old) bytes fetches before after
    -- and that it erases nothing then, and syncs twice at most
    pub wears : IsTrue told → IsOpenFor bytes (image (place old) before.now) →
        Wears (place old) 0 2 before after
    pub open_after : IsTrue told → OnOk result (IsOpenFor 0 (image (place old) after.now))
    pub alone : Touches (place old) before after
    pub cause : IfErr result (FaultsAt (place old) before after)
    pub no_fault : GoesOn result → NoFault before after

  -- A batch of pages that is committed to the book of a unit with these pages, whatever it puts:
  -- its pages are changed, or, where more of them would be live than the unit takes, nothing is.
  pub record CommitsBatch (told : Bool) (batch : Change) (unit : ℕ) (was : Numbers) (new : B)
      (before after : Outside) (result : Result (Unit {0}) StoreFault) : Type 0 where
    pub sound : IsBatch batch
    pub stands : GoesOn result → standing told new after
    pub same_place : place new ≡ unit
    pub numbers_are : OnOk result (numbers new ≡ changed_numbers batch was)
    pub same_numbers : IsRefused result → numbers new ≡ was
    pub committed : IsTrue told →
        OnOk result (ReadsChanged batch (image unit before.now) (image unit after.now))
    pub any_moment : IsTrue told →
        Leaves unit (IsEitherSide batch (image unit before.now)) before.now after.now
    pub fits : OnOk result (live_after batch was ≤ cap (before.blocks unit))
    pub full : IsErrOf result (Refused Full) → cap (before.blocks unit) < live_after batch was
    pub only : IfErr result (RefusesOnly Full)
    -- where too many would be live nothing is done, whatever the answer
    pub idle : cap (before.blocks unit) < live_after batch was →
        (after.now ≡ before.now) × Spends unit 0 0 before after × Wears unit 0 0 before after
    pub nothing_done : IsRefused result → after.now ≡ before.now
    -- all memory is taken before anything is written
    pub unchanged : IsErrOf result (Stop Memory) → after.now ≡ before.now
    pub bound : IsTrue told → IsOpenFor (batch_bytes batch) (image unit before.now) →
        Spends unit (batch_bytes batch) 0 before after
    pub wears : IsTrue told → IsOpenFor (batch_bytes batch) (image unit before.now) →
        Wears unit 0 2 before after
    pub open_after : IsTrue told → OnOk result (IsOpenFor 0 (image unit after.now))
    pub alone : Touches unit before after
    pub cause : IfErr result (FaultsAt unit before after)
    pub no_fault : GoesOn result → NoFault before after
