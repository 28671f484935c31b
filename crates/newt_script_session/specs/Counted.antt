-- What a crash leaves at each moment of a script whose replies are counted. All of it is this
-- project's own.
use Rattle.std.specs.Prelude.{◌≡◌, ℕ, ◌<◌, false, List, [], ◌++◌, length, Option, Some, Result, OnOk, IfErr}
use Rattle.newt_host.specs.Meanings.{out_of}
use Rattle.newt_host.specs.Moments.{Moment, MayLeave, Always, output as printed}
use Rattle.newt_host.specs.Outside.{Outside}
use Rattle.newt_script_session.specs.Answered.{Given}
use Rattle.newt_script_session.specs.Counts.{summary_of}
use Rattle.newt_script_session.specs.Moments.{LeftAfter}
use Rattle.newt_script_session.specs.Reading.{ActsInTime}
use Rattle.newt_spec_script.specs.Rows.{Row, Stepping}
use Rattle.newt_script_session.specs.Run.{SummaryHalted}
use Rattle.newt_script_session.specs.Script.{script_items}
use Rattle.newt_laws_steps.specs.Thrown.{RowsFailed, RowsThrew}
use Rattle.newt_script_session.specs.declared.halt.Halt.{Halt}
use Rattle.newt_spec_script.specs.Script.{Item}
use Rattle.newt_spec_store.specs.Store.{Store}
use Rattle.newt_spec_whole.specs.Whole.{Whole}

-- A crash at this moment. The output has grown by so much. A number of the items has been answered,
-- which is all of them where a byte is out. The crash leaves each unit between the worlds after the
-- rows of these items and after one row more, whatever items and rows follow. After the last row
-- the two worlds are the same.
pub record CountedAt (store_of_image : List ℕ → Option Store) (start : Moment) (world : Whole)
    (items : List Item) (rows : List (Row Whole)) (old : List ℕ) (now : Moment) : Type 0 where
  pub shown : List ℕ
  pub out : printed now ≡ old ++ shown
  pub leaves : (later : List Item) (more : List (Row Whole)) → (done : ℕ)
      × (0 < length shown → done ≡ length items)
      × ((unit : ℕ) (left : List ℕ) → MayLeave unit now left
      → LeftAfter store_of_image (MayLeave unit start) world (items ++ later) (rows ++ more) done unit
      left)

-- What a crash has left on a unit, where its device was held like this before the run, and that was
-- the output. The unit is between the worlds after a number of the rows and after one row more,
-- whatever items and rows follow. Where a byte was out, that number is that of all items.
pub record HasLeftCounted (store_of_image : List ℕ → Option Store) (world : Whole)
    (items : List Item) (rows : List (Row Whole)) (held : Option (List ℕ))
    (old out : List ℕ) (unit : ℕ) (left : List ℕ) : Type 0 where
  pub shown : List ℕ
  pub grown : out ≡ old ++ shown
  pub leaves : (later : List Item) (more : List (Row Whole)) → (done : ℕ)
      × (0 < length shown → done ≡ length items)
      × LeftAfter store_of_image (λ bytes. held ≡ Some bytes) world (items ++ later) (rows ++ more) done
      unit left

-- The script was answered from this world on, by a run over its first items; with an answer, over
-- all of them. Its replies were counted. This says what was written of the summary, which faults of
-- devices the replies tell, that nothing was done to a device once a byte was out, and what a crash
-- leaves at each moment.
pub record CountedRun {T : Type 0} (step : Stepping Whole) (store_of_image : List ℕ → Option Store)
    (script : List ℕ) (result : Result T Halt) (world : Whole) (old new : Outside) : Type 0 where
  pub given : Given step world (script_items script)
  pub out : OnOk result ((given.rest ≡ []) × (out_of new ≡ out_of old ++ summary_of given.rows))
  pub halted : IfErr result
      (λ halt. SummaryHalted halt given.rest (summary_of given.rows) (out_of old) (out_of new))
  pub threw : RowsThrew given.rows old.dev_faults new.dev_faults
  pub failed : RowsFailed given.rows old.dev_faults new.dev_faults
  pub acts : ActsInTime false given.rows old.now new.now
  pub crash : Always (CountedAt store_of_image old.now world (script_items script) given.rows
      (out_of old)) old.now new.now
