-- The log at one of its calls, and what a crash might have left there.
use Rattle.std.specs.Prelude.{ℕ, ◌-◌, ◌/◌, nat_lt, if◌then◌else◌, List, [], ◌∷◌, ◌++◌, length, take, replicate, Option, Some, None}
use Rattle.newt_host.specs.Moments.{Change, Attached, Wrote, Synced, overwritten, bytes_after}
use Rattle.newt_memhost.specs.Happened.{counts}
use Rattle.newt_memhost.specs.declared.happened.Happened.{Happened}
use Rattle.newt_memhost.specs.declared.happened.Happened.TheVariants.{Attach, Take, Print, Read, Write, Sync}
use Rattle.newt_memhost.specs.declared.past.Pick.{Pick}
use Rattle.newt_memhost.specs.declared.past.Pick.TheVariants.{Old, New, Half, Fill}

-- what stands in the log before the call of a number
abbrev pub before : ℕ → List Happened → List Happened
before call [] = []
before call (h ∷ log) = if nat_lt call (counts h) then [] else h ∷ before (call - counts h) log

-- that call
abbrev pub call_at : ℕ → List Happened → Option Happened
call_at call [] = None
call_at call (h ∷ log) = if nat_lt call (counts h) then Some h else call_at (call - counts h) log

-- A crash within a call comes at its end. Within a sync it comes at the beginning, while its unit's
-- ranges are pending.
abbrev pub torn : Option Happened → List Happened
torn None = []
torn (Some (Attach u bytes)) = []
torn (Some (Take o)) = Take o ∷ []
torn (Some (Print n)) = Print n ∷ []
torn (Some (Read u)) = Read u ∷ []
torn (Some (Write u at n)) = Write u at n ∷ []
torn (Some (Sync u done)) = []

-- what stands in the log when a crash comes within the call of a number
abbrev pub within : ℕ → List Happened → List Happened
within call log = before call log ++ torn (call_at call log)

-- the unit that a call was on
abbrev pub unit_at : Option Happened → Option ℕ
unit_at None = None
unit_at (Some (Attach u bytes)) = None
unit_at (Some (Take o)) = None
unit_at (Some (Print n)) = None
unit_at (Some (Read u)) = Some u
unit_at (Some (Write u at n)) = Some u
unit_at (Some (Sync u done)) = Some u

-- how many bytes an entry printed
abbrev pub printed_by : Happened → ℕ
printed_by (Attach u bytes) = 0
printed_by (Take o) = 0
printed_by (Print n) = n
printed_by (Read u) = 0
printed_by (Write u at n) = 0
printed_by (Sync u done) = 0

-- how many bytes of the input an entry took
abbrev pub taken_by : Happened → ℕ
taken_by (Attach u bytes) = 0
taken_by (Take None) = 0
taken_by (Take (Some n)) = n
taken_by (Print n) = 0
taken_by (Read u) = 0
taken_by (Write u at n) = 0
taken_by (Sync u done) = 0

-- what is left of a range that now reads like this, over what was left before
abbrev pub chosen : Pick → ℕ → List ℕ → List ℕ → List ℕ
chosen Old at now left = left
chosen New at now left = overwritten left at now
chosen Half at now left = overwritten left at (take (length now / 2) now)
chosen (Fill byte) at now left = overwritten left at (replicate (length now) byte)

-- The image that a pick chooses for a device that has gone through this.
abbrev pub picked : Pick → List Change → List ℕ
picked pick [] = []
picked pick (Attached bytes ∷ done) = bytes
picked pick (Wrote at now ∷ done) = chosen pick at now (picked pick done)
picked pick (Synced ∷ done) = bytes_after done
