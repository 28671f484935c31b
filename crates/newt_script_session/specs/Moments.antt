-- What a crash leaves at each moment of a script, where devices may fail.
use Rattle.std.specs.Prelude.{◌≡◌, ◌⊎◌, ℕ, zero, suc, ◌+◌, ◌-◌, ◌≤◌, Bool, false, List, [], ◌∷◌, ◌++◌, length, drop}
use Rattle.std.specs.Prelude.{Option, Some, Ok, Err}
use Rattle.newt_host.specs.Moments.{Moment, MayLeave, output as printed}
use Rattle.newt_laws_steps.specs.Answering.{ReadsOneOf}
use Rattle.newt_spec_graph.specs.Lists.{Among, Each}
use Rattle.newt_spec_script.specs.Rows.{Row, reply_texts, world_at}
use Rattle.newt_spec_script.specs.Script.{Item}
use Rattle.newt_spec_store.specs.Store.{Store}
use Rattle.newt_spec_world.specs.Reply.{reply_text}
use Rattle.newt_spec_whole.specs.Step.{formats}
use Rattle.newt_spec_whole.specs.Whole.{Whole, stores_on, IsBlankOn}
use Rattle.newt_script_session.specs.Stream.{put_out}

-- how many of the texts have begun where so many bytes are out
unfoldable pub begun : List (List ℕ) → ℕ → ℕ
begun [] shown = 0
begun (text ∷ texts) zero = 0
begun (text ∷ texts) (suc n) = suc (begun texts (suc n - length text))

-- how many of the replies have begun
abbrev pub replies_begun : List (Row Whole) → ℕ → ℕ
replies_begun rows shown = begun (reply_texts rows) shown

-- the unit holds no store in any world up to the one after so many rows
abbrev pub BlankThrough : Whole → List (Row Whole) → ℕ → ℕ → Type 0
BlankThrough world rows m unit = (k : ℕ) → k ≤ m → IsBlankOn (world_at world rows k) unit

-- the item is a format of the unit that is not refused in this world
abbrev pub item_formats : Whole → Item → ℕ → Bool
item_formats world (Ok command) unit = formats world command unit
item_formats world (Err refusal) unit = false

-- the first of the items is such a format
abbrev pub formats_next : Whole → List Item → ℕ → Bool
formats_next world [] unit = false
formats_next world (item ∷ items) unit = item_formats world item unit

-- a unit holds no store in these worlds
abbrev pub Fresh : List Whole → ℕ → Type 0
Fresh worlds unit = Each (λ w. IsBlankOn w unit) worlds

-- worlds, and after them those of a run except the last, the latest first
abbrev pub worlds_passed : List Whole → Whole → List (Row Whole) → List Whole
worlds_passed before world [] = before
worlds_passed before world (row ∷ rows) = worlds_passed (world ∷ before) row.0 rows

-- Where a unit holds no store, and held none in the worlds before, a crash leaves on it what it
-- might have left at the start.
abbrev pub Untouched : Moment → List Whole → Whole → Moment → Type 0
Untouched start before world now = (unit : ℕ) (left : List ℕ) → Fresh before unit → IsBlankOn world unit → MayLeave unit now left → MayLeave unit start left

-- What is left of a unit between two worlds, where the items go on from the first world. Where the
-- unit has a store in the first, or one of two, what is left is one of its stores in the first or
-- in the second. It is what was left at first, where F says that the unit held no store before, it
-- holds none in the first, and the next item does not format it or it holds none in the second.
pub record Between (store_of_image : List ℕ → Option Store) (AtFirst : List ℕ → Type 0)
    (F : Type 0) (world : Whole) (items : List Item) (next : Whole) (unit : ℕ)
    (left : List ℕ) : Type 0 where
  pub stores : (s : Store) → Among (stores_on world unit) s
      → ReadsOneOf store_of_image (stores_on world unit ++ stores_on next unit) left
  pub blank : F → IsBlankOn world unit
      → (formats_next world items unit ≡ false) ⊎ IsBlankOn next unit → AtFirst left

-- what is left of a unit after m of the rows, which the items gave; F is that it held no store up
-- to there
abbrev pub LeftAfter : (List ℕ → Option Store) → (AtFirst : List ℕ → Type 0) → Whole → List Item
    → List (Row Whole) → ℕ → ℕ → List ℕ → Type 0
LeftAfter store_of_image AtFirst world items rows m unit left = Between store_of_image AtFirst
    (BlankThrough world rows m unit) (world_at world rows m) (drop m items)
    (world_at world rows (m + 1)) unit left

module _ (store_of_image : List ℕ → Option Store) (start : Moment) where
  -- A crash at this moment. The output has grown by so much that the replies to a number m of the
  -- rows have begun. The crash leaves each unit between the worlds after m rows and after one row
  -- more, whatever items and rows follow. After the last row the two worlds are the same.
  pub record CrashAt (world : Whole) (items : List Item) (rows : List (Row Whole)) (old : List ℕ)
      (now : Moment) : Type 0 where
    pub shown : List ℕ
    pub out : printed now ≡ old ++ shown
    pub leaves : (later : List Item) (more : List (Row Whole)) (unit : ℕ) (left : List ℕ)
        → MayLeave unit now left → LeftAfter store_of_image (MayLeave unit start) world
        (items ++ later) (rows ++ more) (replies_begun (rows ++ more) (length shown)) unit left

  -- the same by recursion on the rows, where so many bytes are out
  unfoldable pub Leaves : Type 0 → Whole → List Item → List (Row Whole) → ℕ → ℕ → List ℕ → Type 0
  Leaves F world items [] shown unit left =
      Between store_of_image (MayLeave unit start) F world items world unit left
  Leaves F world items (row ∷ rows) zero unit left =
      Between store_of_image (MayLeave unit start) F world items row.0 unit left
  Leaves F world items (row ∷ rows) (suc n) unit left =
      Leaves (IsBlankOn world unit × F) row.0 (drop 1 items) rows
      (suc n - length (reply_text row.1)) unit left

-- A crash at this moment leaves what it may, whatever items and rows follow these. So many bytes of
-- the replies were taken, and put out where the sink shows them.
pub record SafeAt (shows : Bool) (store_of_image : List ℕ → Option Store) (start : Moment)
    (before : List Whole) (world : Whole) (items : List Item) (rows : List (Row Whole))
    (old : List ℕ) (now : Moment) : Type 0 where
  pub shown : List ℕ
  pub out : printed now ≡ old ++ put_out shows shown
  pub safe : (later : List Item) (more : List (Row Whole)) (unit : ℕ) (left : List ℕ)
      → MayLeave unit now left → Leaves store_of_image start (Fresh before unit) world
      (items ++ later) (rows ++ more) (length shown) unit left

-- What a crash has left on a unit, where its device was held like this before the run, and that was
-- the output. A byte was out of the replies to a number m of the rows. The unit is between the
-- worlds after m rows and after one row more, whatever items and rows follow.
pub record HasLeft (store_of_image : List ℕ → Option Store) (world : Whole) (items : List Item)
    (rows : List (Row Whole)) (held : Option (List ℕ)) (old out : List ℕ) (unit : ℕ)
    (left : List ℕ) : Type 0 where
  pub shown : List ℕ
  pub grown : out ≡ old ++ shown
  pub leaves : (later : List Item) (more : List (Row Whole))
      → LeftAfter store_of_image (λ bytes. held ≡ Some bytes) world (items ++ later) (rows ++ more)
      (replies_begun (rows ++ more) (length shown)) unit left
