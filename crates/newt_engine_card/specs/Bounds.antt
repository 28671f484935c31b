-- How much a call programs, erases and syncs, and that it leaves no bank closed.
use Rattle.std.specs.Prelude.{◌≡◌, ◌≢◌, ◌⊎◌, ℕ, ◌+◌, ◌≤◌, ◌==◌, if◌then◌else◌, Bool, true, Result}
use Rattle.newt_host.specs.Moments.{Moment, changes, image}
use Rattle.newt_host.specs.Outside.{Outside, Wears}
use Rattle.newt_spec_image.specs.Records.{bank_blocks}
use Rattle.newt_pagebook.specs.Book.{IsOpenFor}
use Rattle.newt_store_change.specs.declared.fault.StoreFault.{StoreFault}
use Rattle.newt_store_change.specs.Faults.{GoesOn}

-- so much of one unit, and nothing of any other
abbrev pub of_unit : ℕ → ℕ → ℕ → ℕ
of_unit unit n u = if unit == u then n else 0

-- of each unit at most so many bytes were fetched
abbrev pub FetchesAtMost : (ℕ → ℕ) → Outside → Outside → Type 0
FetchesAtMost most old new = (u : ℕ) → new.fetched u ≤ old.fetched u + most u

-- A unit whose bank is not closed and has room for so many bytes is programmed by no more, no block
-- of it is erased, and it is synced twice at most.
pub record ProgramsAtMost (n unit : ℕ) (old new : Outside) : Type 0 where
  pub programmed : IsOpenFor n (image unit old.now) → new.programmed unit ≤ old.programmed unit + n
  pub wears : IsOpenFor n (image unit old.now) → Wears unit 0 2 old new

-- What a format costs a unit, whatever the answer: it is programmed by so many bytes at most, each
-- block of a bank and each vote is erased once, and it is synced so often at most.
pub record FormatsOnce (n syncs unit : ℕ) (old new : Outside) : Type 0 where
  pub programmed : new.programmed unit ≤ old.programmed unit + n
  pub wears : Wears unit (bank_blocks (old.blocks unit) + 3) syncs old new

-- A unit's bank is not closed, or the unit is read as it was.
abbrev pub IsOpenOrSame : ℕ → Moment → Moment → Type 0
IsOpenOrSame unit old new = IsOpenFor 0 (image unit new) ⊎ (image unit new ≡ image unit old)

-- nothing has happened to a unit, and it was not programmed, erased or synced
pub record LeftAlone (unit : ℕ) (old new : Outside) : Type 0 where
  pub programmed : new.programmed unit ≤ old.programmed unit
  pub wears : Wears unit 0 0 old new
  pub changes : changes unit new.now ≡ changes unit old.now

-- What a call on one unit costs: it programs so many bytes at most where there is room for them, it
-- leaves a bank that is not closed or is as it was, and it leaves the other units alone.
pub record CostsOn {T : Type 0} (unit n : ℕ) (result : Result T StoreFault) (old new : Outside) : Type 0 where
  pub bound : ProgramsAtMost n unit old new
  pub open_after : GoesOn result → IsOpenOrSame unit old.now new.now
  pub others : (u : ℕ) → u ≢ unit → LeftAlone u old new

-- Of a unit whose bank is not closed and has room for so many bytes so much is fetched at most, and
-- nothing of any other unit.
pub record FetchesOn (unit n fetches : ℕ) (old new : Outside) : Type 0 where
  pub fetched : IsOpenFor n (image unit old.now) → new.fetched unit ≤ old.fetched unit + fetches
  pub unread : (u : ℕ) → u ≢ unit → new.fetched u ≤ old.fetched u

-- of each unit whose bank is not closed and has room for what may be programmed there, so much is
-- fetched at most
abbrev pub FetchesWithin : (most fetches : ℕ → ℕ) → Outside → Outside → Type 0
FetchesWithin most fetches old new =
    (u : ℕ) → IsOpenFor (most u) (image u old.now) → new.fetched u ≤ old.fetched u + fetches u

-- What a command costs: each unit is programmed by so many bytes at most where there is room for
-- them; where the command is one of which that is said, so many are fetched at most there; and where
-- the run goes on, each bank is not closed or is as it was.
pub record Costs {T : Type 0} (most : ℕ → ℕ) (said : Bool) (fetches : ℕ → ℕ) (result : Result T StoreFault) (old new : Outside) : Type 0 where
  pub bound : (u : ℕ) → ProgramsAtMost (most u) u old new
  pub fetched : said ≡ true → FetchesWithin most fetches old new
  pub open_after : GoesOn result → (u : ℕ) → IsOpenOrSame u old.now new.now
