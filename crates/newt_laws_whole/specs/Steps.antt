-- The whole after a step of its world.
use Rattle.std.specs.Prelude.{ℕ, Bool, false, not, ◌==◌, ◌&&◌, List, [], take, Option, Some, None}
use Rattle.newt_spec_graph.specs.Lists.{Among}
use Rattle.std.specs.Prelude.{if◌then◌else◌}
use Rattle.newt_base.specs.Refusals.{first_of}
use Rattle.newt_spec_world.specs.Answer.{new_uid}
use Rattle.newt_spec_world.specs.Reply.{Reply}
use Rattle.newt_spec_world.specs.Step.{Step, moves_away}
use Rattle.newt_spec_store.specs.Store.{Soup}
use Rattle.newt_spec_world.specs.World.{World, soup_in}
use Rattle.newt_spec_world.specs.Refused.{checks}
use Rattle.newt_spec_world.specs.declared.command.Command.{Command}
use Rattle.newt_spec_world.specs.declared.command.Command.TheVariants as command
use Rattle.newt_spec_whole.specs.Whole.{Whole, asked_in_turn, asks}
use Rattle.newt_spec_whole.specs.Events.{Event, events, events_of, note_all}
use Rattle.newt_laws_whole.specs.Since.{if_done}

-- the notes of a command of the world: none where it is refused (this project's own)
abbrev pub notes_of : World → Command → List Event
notes_of w c = if_done (first_of (checks w c)) (events w c)

-- the whole with this world, with these notes given (a word of these definitions)
abbrev pub noting : Whole → World → List Event → Whole
noting h w es = record h { world = w; watches = note_all es h.watches }

-- the next id of a soup is another one than this (a word of these definitions)
abbrev pub is_past : ℕ → Option Soup → Bool
is_past uid None = false
is_past uid (Some p) = not (p.next_uid == uid)

-- between the two worlds the target of a move has taken an id (this project's own)
abbrev pub has_taken : World → Command → World → Bool
has_taken w (command.Move t s uid x y) v = is_past (new_uid w x y) (soup_in v x y)
has_taken w c v = false

-- The notes of a step, as the world after it shows them. A command that is refused gives none.
-- Where the device of a unit failed, there is only the first note of a move away from it whose
-- target has taken an id. Any other command gives all its notes. (this project's own)
abbrev pub notes_after : World → Command → World → Reply → List Event
notes_after w c v (Reply.refused refusal) = []
notes_after w c v (Reply.thrown u) =
    if moves_away c u && has_taken w c v then take 1 (events w c) else []
notes_after w c v reply = events w c

-- The notes of a step of the whole, as the world after it and the reply show them. A save that is
-- done gives those of the change that it asks, and any other save none. Any other command gives
-- those of the world's step. (this project's own)
abbrev pub told_by : Whole → Command → World → Reply → List Event
told_by h (command.Save n) v Reply.done = events_of h.world (asks h (command.Save n))
told_by h (command.Save n) v reply = []
told_by h c v reply = notes_after h.world c v reply

-- The world makes a step by one of the commands that this command asks for. (this project's own)
pub record WorldStep (h : Whole) (c : Command) (v : Whole) : Type 0 where
  pub asked : Command
  pub among : Among (asked_in_turn h c) asked
  pub reply : Reply
  pub step : Step h.world asked v.world reply
