-- A script over the devices of names. All of it is this project's own.
use Rattle.std.specs.Prelude.{◌≡◌, ℕ, false, List, [], ◌∷◌, ◌++◌, Option, Some, None, slice_get, option_and_then}
use Rattle.std.specs.Prelude.{Result, OnOk, IfErr}
use Rattle.newt_host.specs.Meanings.{held, left_since, out_of, since}
use Rattle.newt_host.specs.Moments.{Always, Attached, Change, Extends, Moment, changes, output, taken}
use Rattle.newt_host.specs.Outside.{Outside}
use Rattle.newt_host_attach.specs.Named.{if_known}
use Rattle.newt_spec_store.specs.Store.{Store}
use Rattle.newt_spec_whole.specs.First.{whole_of}
use Rattle.newt_spec_whole.specs.Whole.{Whole}
use Rattle.newt_script_session.specs.Answered.{Given}
use Rattle.newt_script_session.specs.Counted.{HasLeftCounted}
use Rattle.newt_script_session.specs.Counts.{summary_of}
use Rattle.newt_script_session.specs.Moments.{HasLeft}
use Rattle.newt_script_session.specs.Reading.{ActsInTime}
use Rattle.newt_script_session.specs.Run.{SummaryHalted}
use Rattle.newt_script_session.specs.Session.{Played}
use Rattle.newt_script_session.specs.Script.{script_items}
use Rattle.newt_spec_script.specs.Rows.{Stepping}
use Rattle.newt_laws_steps.specs.Thrown.{RowsFailed, RowsThrew}
use Rattle.newt_script_session.specs.declared.halt.Halt.{Halt}

-- the world before the first command: the devices of the names as they are held, none of which is
-- mounted, with no watches and no working copies
abbrev pub first_world : (List ℕ → Option Store) → List (List ℕ) → Outside → Whole
first_world store_of_image names old = whole_of store_of_image (held old) names

-- this holds for what a crash might have left on a unit at any moment since it was attached, while
-- that was the output
abbrev pub AtEachMoment : Outside → (Left : (unit : ℕ) → (left shown : List ℕ) → Type 0) → Type 0
AtEachMoment new Left = (unit t : ℕ) (left shown : List ℕ) → since new unit ≡ Some t
    → left_since new t unit left shown → Left unit left shown

-- how the device of a unit was held before
abbrev pub held_by : List (List ℕ) → Outside → ℕ → Option (List ℕ)
held_by names old unit = option_and_then (held old) (slice_get names unit)

-- what has happened to a unit once the device that was held like this is attached to it
abbrev pub attaching : Option (List ℕ) → List Change
attaching None = []
attaching (Some bytes) = Attached bytes ∷ []

-- Each device of the names, and no other, is attached to the unit of its place. That was all that
-- was done at first. Until some moment nothing was read and nothing put out; by then each of them
-- was attached as it was held, and nothing else had been done to a device.
pub record AttachedFirst (names : List (List ℕ)) (old new : Outside) : Type 0 where
  pub cards : (unit : ℕ) → new.card unit ≡ if_known old (slice_get names unit)
  pub then : Moment
  pub still : Always (λ m. (taken m ≡ taken old.now) × (output m ≡ output old.now)) old.now then
  pub only : (unit : ℕ) → changes unit then ≡ attaching (held_by names old unit)
  pub after : Extends then new.now

-- no unit has another device than that of the name at its place
abbrev pub HasNamed : List (List ℕ) → Outside → Type 0
HasNamed names new = (unit : ℕ) (name : List ℕ) → new.card unit ≡ Some name
    → slice_get names unit ≡ Some name

-- The devices were attached first, the script of the input was answered, and at each moment a crash
-- might have left on a unit what it may.
pub record RanNamed {T : Type 0} (step : Stepping Whole) (store_of_image : List ℕ → Option Store)
    (limit : ℕ) (result : Result T Halt) (names : List (List ℕ)) (old new : Outside) : Type 0 where
  pub attached : AttachedFirst names old new
  pub played : Played step limit result (first_world store_of_image names old) old new
  pub crash : AtEachMoment new (λ unit left shown.
      HasLeft store_of_image (first_world store_of_image names old) played.given.first
      played.given.rows
      (held_by names old unit) (out_of old) shown unit left)

-- A script in memory was answered, by a run over its first items; with an answer, over all of them.
-- Its replies were counted. What was written is the summary, or a first part of it. Nothing was
-- done to a device once a byte was out. At each moment a crash might have left on a unit what it
-- may.
pub record CountedNamed {T : Type 0} (step : Stepping Whole)
    (store_of_image : List ℕ → Option Store) (script : List ℕ) (result : Result T Halt) (names : List (List ℕ))
    (old new : Outside) : Type 0 where
  pub given : Given step (first_world store_of_image names old) (script_items script)
  pub out : OnOk result ((given.rest ≡ []) × (out_of new ≡ out_of old ++ summary_of given.rows))
  pub halted : IfErr result
      (λ halt. SummaryHalted halt given.rest (summary_of given.rows) (out_of old) (out_of new))
  pub threw : RowsThrew given.rows old.dev_faults new.dev_faults
  pub failed : RowsFailed given.rows old.dev_faults new.dev_faults
  pub acts : ActsInTime false given.rows old.now new.now
  pub crash : AtEachMoment new (λ unit left shown.
      HasLeftCounted store_of_image (first_world store_of_image names old) (script_items script)
      given.rows (held_by names old unit) (out_of old) shown unit left)
