-- How the whole goes on from one command to the next where devices may fail. All of it is this
-- project's own.
use Rattle.std.specs.Prelude.{◌≡◌, ℕ, Bool, IsTrue, Some, None, take}
use Rattle.newt_spec_graph.specs.Lists.{Among}
use Rattle.newt_spec_world.specs.World.{World}
use Rattle.newt_spec_world.specs.Reply.{Reply}
use Rattle.newt_spec_world.specs.Step as worlds
use Rattle.newt_spec_world.specs.Step.{Found, looks_anew, is_accepted, moves_away}
use Rattle.newt_spec_world.specs.Step.{world_halfway, world_thrown}
use Rattle.newt_spec_world.specs.declared.command.Command.{Command}
use Rattle.newt_spec_whole.specs.Whole.{Whole, asked_in_turn, in_world}
use Rattle.newt_spec_whole.specs.Events.{events, note_all}
use Rattle.newt_spec_whole.specs.Answer.{whole_answer}

-- the command is a format of this unit that is not refused (this project's own)
abbrev pub formats : Whole → Command → ℕ → Bool
formats h c u = worlds.formats h.world c u

-- The whole where the device of a unit fails in what is asked of the world: nothing is noted, and
-- the copies stay. (this project's own)
abbrev pub whole_thrown : Whole → Command → ℕ → Whole
whole_thrown h asked u = in_world h (world_thrown h.world asked u)

-- The whole where the device of the source of a move fails after the target has the entry. The note
-- that the entry was added is given, and no other. (this project's own)
abbrev pub whole_halfway : Whole → Command → ℕ → Whole
whole_halfway h c u = record h {
  world = world_halfway h.world c u;
  watches = note_all (take 1 (events h.world c)) h.watches;
}

-- A command turns the whole h into the next one, with this reply. (this project's own)
pub data WholeStep (h : Whole) (c : Command) (next : Whole) (reply : Reply) : Type 0 where
  -- no device fails, and nothing has to be looked at anew
  plain : looks_anew h.world c ≡ None → whole_answer h c ≡ (next, reply) → WholeStep h c next reply
  -- no device fails; a unit is looked at anew, and is found to hold what it may hold
  found : {u : ℕ} {v : World} → looks_anew h.world c ≡ Some u → Found h.world u v
      → whole_answer (in_world h v) c ≡ (next, reply) → WholeStep h c next reply
  -- the device of a unit fails in a command that is asked of the world
  thrown : {u : ℕ} (asked : Command) → Among (asked_in_turn h c) asked
      → next ≡ whole_thrown h asked u → reply ≡ Reply.thrown u → WholeStep h c next reply
  -- the device of the source of a move fails, and the target has the entry
  halfway : {u : ℕ} → IsTrue (moves_away c u) → IsTrue (is_accepted h.world c)
      → next ≡ whole_halfway h c u → reply ≡ Reply.thrown u → WholeStep h c next reply
