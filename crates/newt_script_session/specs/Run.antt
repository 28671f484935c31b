-- What a run of a script reads and writes.
use Rattle.std.specs.Prelude.{◌≡◌, ◌⊎◌, ℕ, ◌<◌, true, false, List, [], ◌++◌, length, take}
use Rattle.newt_spec_script.specs.Script.{Item}
use Rattle.newt_spec_script.specs.Rows.{Row, output_of}
use Rattle.newt_spec_whole.specs.Whole.{Whole}
use Rattle.newt_script_session.specs.Script.{ended_items, quits}
use Rattle.newt_script_session.specs.Stream.{WroteSome}
use Rattle.newt_script_session.specs.declared.halt.Halt.{Halt}
use Rattle.newt_script_session.specs.declared.halt.Halt.TheVariants.{Memory, Source, Sink}
use Rattle.newt_script_session.specs.declared.halt.Halt.TheVariants.{TooLong}

-- More bytes came than are read, and no quit ended before.
pub record IsTooLong (limit : ℕ) (script : List ℕ) : Type 0 where
  pub long : limit < length script
  pub no_quit : quits (take limit script) ≡ false

-- The script was read to its end, or through the line of its quit.
pub record IsReadThrough (limit : ℕ) (script left : List ℕ) : Type 0 where
  pub taken : List ℕ
  pub split : script ≡ taken ++ left
  pub ends : (left ≡ []) ⊎ (quits taken ≡ true)
  pub not_too_long : IsTooLong limit script → ⊥

-- what is written of the replies to rows where the run is halted in them: a first part
abbrev pub HaltedIn : Halt → (rows : List (Row Whole)) → (old now : List ℕ) → Type 0
HaltedIn Memory rows old now = WroteSome (output_of rows) old now
HaltedIn Sink rows old now = WroteSome (output_of rows) old now
HaltedIn Source rows old now = ⊥
HaltedIn TooLong rows old now = ⊥

-- All lines that ended within the bytes taken were answered, and the replies to them written.
pub record AnsweredTaken (items : List Item) (rows : List (Row Whole))
    (script left old now : List ℕ) : Type 0 where
  pub taken : List ℕ
  pub split : script ≡ taken ++ left
  pub items_are : items ≡ ended_items taken
  pub out : now ≡ old ++ output_of rows

-- what a run leaves that is halted after these items of the script, which gave these rows
abbrev pub Halted : ℕ → Halt → List Item → List (Row Whole) → (script left old now : List ℕ) → Type 0
Halted limit Memory items rows script left old now = HaltedIn Memory rows old now
Halted limit Sink items rows script left old now = HaltedIn Sink rows old now
Halted limit Source items rows script left old now = AnsweredTaken items rows script left old now
Halted limit TooLong items rows script left old now = IsTooLong limit script
    × (items ≡ ended_items (take limit script)) × (now ≡ old ++ output_of rows)

-- What is written of a summary where the run is halted: nothing, or a first part of it after all
-- items were answered.
abbrev pub SummaryHalted : Halt → List Item → (summary old now : List ℕ) → Type 0
SummaryHalted Memory rest summary old now = (now ≡ old) ⊎ ((rest ≡ []) × WroteSome summary old now)
SummaryHalted Sink rest summary old now = (now ≡ old) ⊎ ((rest ≡ []) × WroteSome summary old now)
SummaryHalted Source rest summary old now = ⊥
SummaryHalted TooLong rest summary old now = ⊥
