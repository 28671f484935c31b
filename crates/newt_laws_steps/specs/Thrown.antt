-- How the counts of faults of devices agree with the replies that report them. All of it is this
-- project's own.
use Rattle.std.specs.Prelude.{◌≡◌, ℕ, ◌+◌, ◌-◌, ◌^◌, ◌≤◌, true, false, List, min}
use Rattle.newt_host.specs.Outside.{Rose}
use Rattle.newt_spec_script.specs.Rows.{Row, throws, thrown_count}
use Rattle.newt_spec_world.specs.Reply.{Reply}

-- No count of the faults of a unit has fallen, and where the reply says that the device of a unit
-- failed, its count has risen.
pub record Threw (reply : Reply) (was is : ℕ → ℕ) : Type 0 where
  pub later : (unit : ℕ) → was unit ≤ is unit
  pub rose : (unit : ℕ) → throws unit reply ≡ true → Rose (was unit) (is unit)

-- where the reply does not say so of a unit, no fault of its device was counted
abbrev pub FaultsTold : Reply → (was is : ℕ → ℕ) → Type 0
FaultsTold reply was is = (unit : ℕ) → throws unit reply ≡ false → is unit ≡ was unit

-- a count has risen by so much at least, or stands at its last value
abbrev pub RoseBy : ℕ → ℕ → ℕ → Type 0
RoseBy n before now = min (before + n) (2 ^ 64 - 1) ≤ now

-- No count has fallen. The replies that say that a unit's device failed are at most as many as its
-- faults that were counted, unless the count stands at its last value.
pub record RowsThrew {W : Type 0} (rows : List (Row W)) (was is : ℕ → ℕ) : Type 0 where
  pub later : (unit : ℕ) → was unit ≤ is unit
  pub rose : (unit : ℕ) → RoseBy (thrown_count unit rows) (was unit) (is unit)

-- where no reply says so of a unit, no fault of its device was counted
abbrev pub RowsFailed : {W : Type 0} → List (Row W) → (was is : ℕ → ℕ) → Type 0
RowsFailed rows was is = (unit : ℕ) → thrown_count unit rows ≡ 0 → is unit ≡ was unit
