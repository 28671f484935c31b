-- A run: the worlds that items lead through, and the replies to them. The type of worlds is left
-- open, so that a run may be over more than a world. All of it is this project's own.
use Rattle.std.specs.Prelude.{◌≡◌, ℕ, Bool, false, ◌==◌, List, [], ◌∷◌, map, flat_map, filter}
use Rattle.std.specs.Prelude.{length, take, Ok, Err}
use Rattle.newt_spec_world.specs.Reply.{Reply, reply_text}
use Rattle.newt_spec_world.specs.declared.command.Command.{Command}
use Rattle.newt_spec_script.specs.Script.{Item}

-- a step: how a command may turn one world into the next, and what is replied
abbrev pub Stepping : Type 0 → Type 1
Stepping W = W → Command → W → Reply → Type 0

-- a row: the world after an item, and the reply to it
abbrev pub Row : Type 0 → Type 0
Row W = W × Reply

module _ {W : Type 0} (step : Stepping W) where
  -- an item leads from a world to a row: a command by a step; a line that is refused leaves the
  -- world, and its refusal is replied
  abbrev pub Goes : W → Item → Row W → Type 0
  Goes world (Ok command) row = step world command row.0 row.1
  Goes world (Err refusal) row = (row.0 ≡ world) × (row.1 ≡ Reply.refused refusal)

  -- the rows are a run over the items: each row follows from the world of the row before it
  abbrev pub IsRun : W → List Item → List (Row W) → Type 0
  IsRun world [] [] = Unit {0}
  IsRun world (item ∷ items) (row ∷ rows) = Goes world item row × IsRun row.0 items rows
  IsRun world items rows = ⊥

-- the reply says that the device of this unit failed
abbrev pub throws : ℕ → Reply → Bool
throws unit (Reply.thrown failed) = unit == failed
throws unit reply = false

-- ---- what is read off a run

module _ {W : Type 0} where
  -- the world after all rows
  abbrev pub last_world : W → List (Row W) → W
  last_world world [] = world
  last_world world (row ∷ rows) = last_world row.0 rows

  -- the world after the first m rows; where there are fewer rows, that after the last one
  abbrev pub world_at : W → List (Row W) → ℕ → W
  world_at world rows m = last_world world (take m rows)

  -- the replies
  abbrev pub replies_of : List (Row W) → List Reply
  replies_of rows = map (λ row. row.1) rows

  -- the texts of the replies, one for each row
  abbrev pub reply_texts : List (Row W) → List (List ℕ)
  reply_texts rows = map (λ row. reply_text row.1) rows

  -- the output: the texts of the replies, one after another
  unfoldable pub output_of : List (Row W) → List ℕ
  output_of rows = flat_map (λ row. reply_text row.1) rows

  -- how many of the replies say that the device of this unit failed
  abbrev pub thrown_count : ℕ → List (Row W) → ℕ
  thrown_count unit rows = length (filter (λ row. throws unit row.1) rows)
