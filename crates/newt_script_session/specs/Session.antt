-- A script that is read from the input and answered. All of it is this project's own.
use Rattle.std.specs.Prelude.{◌≡◌, ℕ, true, List, [], ◌++◌, Option, Result, OnOk, IfErr}
use Rattle.newt_host.specs.Meanings.{out_of}
use Rattle.newt_host.specs.Moments.{Always}
use Rattle.newt_host.specs.Outside.{Outside}
use Rattle.newt_spec_store.specs.Store.{Store}
use Rattle.newt_spec_whole.specs.Whole.{Whole}
use Rattle.newt_script_session.specs.Answered.{Given}
use Rattle.newt_script_session.specs.Moments.{CrashAt}
use Rattle.newt_script_session.specs.Reading.{ActsInTime, ReadsInTime}
use Rattle.newt_spec_script.specs.Rows.{output_of, Stepping}
use Rattle.newt_script_session.specs.Run.{Halted, IsReadThrough}
use Rattle.newt_script_session.specs.Script.{script_items}
use Rattle.newt_laws_steps.specs.Thrown.{RowsFailed, RowsThrew}
use Rattle.newt_script_session.specs.declared.halt.Halt.{Halt}

-- The script of the input was answered from this world on, by a run over its first items; with an
-- answer, over all of them. This says what was written, what was read, and how far the run came
-- where it was halted. Whatever the result is, nothing was read ahead of a reply that was due, and
-- nothing was done to a device while a reply was out in part. The replies that tell a fault of a
-- device are at most as many as its faults that were counted. Where none tells one, none was
-- counted.
pub record Played {T : Type 0} (step : Stepping Whole) (limit : ℕ) (result : Result T Halt)
    (world : Whole) (old new : Outside) : Type 0 where
  pub given : Given step world (script_items old.input)
  pub out : OnOk result ((given.rest ≡ []) × (out_of new ≡ out_of old ++ output_of given.rows))
  pub read : OnOk result (IsReadThrough limit old.input new.input)
  pub halted : IfErr result (λ halt. Halted limit halt given.first given.rows old.input new.input
      (out_of old) (out_of new))
  pub in_time : ReadsInTime step world given.rows old.now new.now
  pub acts : ActsInTime true given.rows old.now new.now
  pub threw : RowsThrew given.rows old.dev_faults new.dev_faults
  pub failed : RowsFailed given.rows old.dev_faults new.dev_faults

-- The same; and at each moment a crash leaves each unit as it is after some first rows, among them
-- every row whose reply has begun.
pub record Session {T : Type 0} (step : Stepping Whole) (store_of_image : List ℕ → Option Store)
    (limit : ℕ) (result : Result T Halt) (world : Whole) (old new : Outside) : Type 0 where
  pub played : Played step limit result world old new
  pub crash : Always (CrashAt store_of_image old.now world played.given.first played.given.rows
      (out_of old)) old.now new.now
