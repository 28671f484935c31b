-- What the answering of items promises: of commands, and of refusals of readings. All of it is this
-- project's own.
use Rattle.std.specs.Prelude.{◌≡◌, ℕ, Bool, IsTrue, List, [], ◌++◌, Option, Result, OnOk, IfErr}
use Rattle.newt_host.specs.Moments.{Moment, Always, output as printed}
use Rattle.newt_spec_script.specs.Script.{Item}
use Rattle.newt_spec_store.specs.Store.{Store}
use Rattle.newt_spec_whole.specs.Whole.{Whole}
use Rattle.newt_script_session.specs.Causes.{flow_of}
use Rattle.newt_script_session.specs.Lines.{ended_lines, unended}
use Rattle.newt_script_session.specs.Moments.{SafeAt, Untouched, worlds_passed}
use Rattle.newt_script_session.specs.Reading.{ActsInTime}
use Rattle.newt_spec_script.specs.Rows.{IsRun, output_of, reply_texts, Row, Stepping, last_world}
use Rattle.newt_script_session.specs.Run.{HaltedIn}
use Rattle.newt_script_session.specs.Script.{has_quit}
use Rattle.newt_script_session.specs.Stream.{put_out}
use Rattle.newt_laws_steps.specs.Thrown.{RowsFailed, RowsThrew}
use Rattle.newt_script_session.specs.declared.halt.Flow.{Flow}
use Rattle.newt_script_session.specs.declared.halt.Flow.TheVariants.{Go}
use Rattle.newt_script_session.specs.declared.halt.Halt.{Halt}

-- A piece was taken after a line begun before: whether a line that ended in it quits, and the line
-- that it leaves begun where none does.
pub record Fed (begun piece : List ℕ) (flow : Flow) (line : List ℕ) : Type 0 where
  pub quits : flow ≡ flow_of (has_quit (ended_lines begun piece))
  pub line_is : flow ≡ Go → line ≡ unended begun piece

module _ (shows : Bool) where
  -- The rows were answered, and the world after them is one of those that are stood for then. Each
  -- reply was taken: the sink had some replies before, and now has these after them.
  pub record Answered (world : Whole) (StoodFor : Whole → Type 0) (rows : List (Row Whole))
      (had has : List (List ℕ) → Type 0) (old now : Moment) : Type 0 where
    pub stands_for : StoodFor (last_world world rows)
    pub put : printed now ≡ printed old ++ put_out shows (output_of rows)
    pub took : (before : List (List ℕ)) → had before → has (before ++ reply_texts rows)
    pub untouched : (start : Moment) (before : List Whole) → Untouched start before world old
        → Untouched start (worlds_passed before world rows) (last_world world rows) now

module _ (step : Stepping Whole) where
  -- The first of the items have been given, and these rows are a run over them.
  pub record Given (world : Whole) (items : List Item) : Type 0 where
    pub first : List Item
    pub rest : List Item
    pub split : items ≡ first ++ rest
    pub rows : List (Row Whole)
    pub run : IsRun step world first rows

  module _ (shows : Bool) (store_of_image : List ℕ → Option Store) where
    -- The answering of items came to a result. With an answer, all items were given and answered;
    -- otherwise it was halted in the first ones. In both cases their replies tell the faults of
    -- devices, nothing is done to a device while a reply is out in part, and a crash at each moment
    -- leaves what it may.
    pub record Ran {T : Type 0} (result : Result T Halt) (world : Whole)
        (StoodFor : Whole → Type 0) (items : List Item) (had has : List (List ℕ) → Type 0)
        (old now : Moment) (was is : ℕ → ℕ) : Type 0 where
      pub given : Given world items
      pub done : OnOk result
          ((given.rest ≡ []) × Answered shows world StoodFor given.rows had has old now)
      pub halted : IsTrue shows
          → IfErr result (λ halt. HaltedIn halt given.rows (printed old) (printed now))
      pub threw : RowsThrew given.rows was is
      pub failed : RowsFailed given.rows was is
      pub acts : ActsInTime shows given.rows old now
      pub moments : (start : Moment) (before : List Whole) → Untouched start before world old
          → Always (SafeAt shows store_of_image start before world given.first given.rows
          (printed old)) old now
