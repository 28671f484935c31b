-- How an image is built from the log, entry by entry.
use Rattle.std.specs.Prelude.{◌≡◌, ◌⊎◌, ℕ, ◌+◌, ◌≤◌, ◌==◌, true, false, if◌then◌else◌, List, length}
use Rattle.newt_host.specs.Moments.{Moment, overwritten, bytes_after, changes, IsHistory}
use Rattle.newt_memhost.specs.Past.{chosen, picked}
use Rattle.newt_memhost.specs.declared.happened.Happened.{Happened}
use Rattle.newt_memhost.specs.declared.happened.Happened.TheVariants.{Attach, Take, Print, Read, Write, Sync}
use Rattle.newt_memhost.specs.declared.past.Pick.{Pick}

-- a range of the unit lies within the image
abbrev pub FitsIn : ℕ → Happened → List ℕ → List ℕ → Type 0
FitsIn unit (Attach u first) bytes image = Unit {0}
FitsIn unit (Take o) bytes image = Unit {0}
FitsIn unit (Print n) bytes image = Unit {0}
FitsIn unit (Read u) bytes image = Unit {0}
FitsIn unit (Write u at n) bytes image = u ≡ unit → at + length bytes ≤ length image
FitsIn unit (Sync u done) bytes image = Unit {0}

-- the image as it reads after an entry with its bytes
abbrev pub whole_after : ℕ → Happened → List ℕ → List ℕ → List ℕ
whole_after unit (Attach u first) bytes whole = if u == unit then first.items else whole
whole_after unit (Take o) bytes whole = whole
whole_after unit (Print n) bytes whole = whole
whole_after unit (Read u) bytes whole = whole
whole_after unit (Write u at n) bytes whole = if u == unit then overwritten whole at bytes else whole
whole_after unit (Sync u done) bytes whole = whole

-- and the one that a pick chooses
abbrev pub torn_after : ℕ → Pick → Happened → List ℕ → List ℕ → List ℕ → List ℕ
torn_after unit pick (Attach u first) bytes whole torn = if u == unit then first.items else torn
torn_after unit pick (Take o) bytes whole torn = torn
torn_after unit pick (Print n) bytes whole torn = torn
torn_after unit pick (Read u) bytes whole torn = torn
torn_after unit pick (Write u at n) bytes whole torn = if u == unit then chosen pick at bytes torn else torn
torn_after unit pick (Sync u true) bytes whole torn = if u == unit then whole else torn
torn_after unit pick (Sync u false) bytes whole torn = torn

-- the image as it reads at a moment, and the one that a pick chooses there
pub record IsUpTo (unit : ℕ) (pick : Pick) (m : Moment) (whole torn : List ℕ) : Type 0 where
  pub whole_is : whole ≡ bytes_after (changes unit m)
  pub torn_is : torn ≡ picked pick (changes unit m)

-- by a moment the unit has a history, or nothing has happened to it
abbrev pub HasPast : ℕ → Moment → Type 0
HasPast unit m = (size : ℕ) × ((length (changes unit m) ≡ 0) ⊎ IsHistory size (changes unit m))
