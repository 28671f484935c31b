-- When the input is read, and when something is done to a device. All of it is this project's own.
use Rattle.std.specs.Prelude.{◌≡◌, ◌≢◌, ℕ, Bool, false, List, ◌∷◌, ◌++◌}
use Rattle.newt_host.specs.Moments.{Event, Moment, changes, taken, output as printed}
use Rattle.newt_spec_whole.specs.Whole.{Whole}
use Rattle.newt_spec_script.specs.Rows.{IsRun, output_of, Row, Stepping}
use Rattle.newt_script_session.specs.Script.{ended_items, quits}
use Rattle.newt_script_session.specs.Stream.{put_out}

-- From one moment to another, what is seen of the outside changes only where P holds just before.
pub data ChangesOnlyWhere {A : Type 0} (seen : Moment → A) (P : Moment → Type 0) (old : Moment)
    : Moment → Type 0 where
  start : ChangesOnlyWhere seen P old old
  goes_on : (event : Event) (now : Moment) → ChangesOnlyWhere seen P old now
      → (seen (event ∷ now) ≢ seen now → P now) → ChangesOnlyWhere seen P old (event ∷ now)

module _ (step : Stepping Whole) where
  -- These bytes were taken since then. The first of the rows are those of the lines that ended in
  -- them, the replies of these rows are out, and none of these lines is a well-formed quit.
  pub record IsAnswered (world : Whole) (rows : List (Row Whole)) (old now : Moment) : Type 0 where
    pub bytes : List ℕ
    pub since : taken now ≡ taken old ++ bytes
    pub first : List (Row Whole)
    pub more : List (Row Whole)
    pub split : rows ≡ first ++ more
    pub run : IsRun step world (ended_items bytes) first
    pub out : printed now ≡ printed old ++ output_of first
    pub no_quit : quits bytes ≡ false

  -- The input is not read ahead of a reply that is due, and not after a quit.
  abbrev pub ReadsInTime : Whole → List (Row Whole) → (old now : Moment) → Type 0
  ReadsInTime world rows old now = ChangesOnlyWhere taken (IsAnswered world rows old) old now

-- The replies to the first of the rows are out, each of them whole, and nothing else; where replies
-- are kept, nothing is out.
pub record AreWhole (shows : Bool) (rows : List (Row Whole)) (old now : Moment) : Type 0 where
  pub first : List (Row Whole)
  pub more : List (Row Whole)
  pub split : rows ≡ first ++ more
  pub out : printed now ≡ printed old ++ put_out shows (output_of first)

-- Nothing is done to a device while a reply is out in part.
abbrev pub ActsInTime : Bool → List (Row Whole) → (old now : Moment) → Type 0
ActsInTime shows rows old now =
    (unit : ℕ) → ChangesOnlyWhere (changes unit) (AreWhole shows rows old) old now
