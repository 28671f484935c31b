-- The notes that are due, by what is known before a command and the reply to it. All of it is this
-- project's own.
use Rattle.std.specs.Prelude.{◌≡◌, ℕ, Bool, false, not, ◌==◌, ◌&&◌, List, [], ◌∷◌}
use Rattle.std.specs.Prelude.{Option, Some, None, if◌then◌else◌}
use Rattle.newt_notify.specs.Watch.{Watching, kept_all}
use Rattle.newt_notify.specs.declared.note.Kind.TheVariants.{Make}
use Rattle.newt_spec_store.specs.Store.{Store}
use Rattle.newt_spec_whole.specs.Events.{Event, next_sig, note_all, soup_event}
use Rattle.newt_spec_world.specs.Reply as world
use Rattle.newt_spec_world.specs.World.{World}
use Rattle.newt_spec_world.specs.declared.command.Command.{Command}
use Rattle.newt_spec_world.specs.declared.command.Command.TheVariants as command
use Rattle.newt_engine_units.specs.declared.units.Units.{Units}
use Rattle.newt_engine_units.specs.Looks.{next_uid_on}
use Rattle.newt_engine_whole.specs.declared.due.Due.{Due}
use Rattle.newt_engine_whole.specs.declared.due.Due.TheVariants.{Nothing, Soup, One, Two}
use Rattle.newt_engine_whole.specs.declared.due.Told.{Told}
use Rattle.newt_engine_whole.specs.declared.whole.Whole.{Whole}

-- a note, with the name of its soup
abbrev pub event_of : Told → Event
event_of told = (told.name, told.note)

-- a soup is made: its signature is in the reply
abbrev pub made : ℕ → List ℕ → world.Reply → List Event
made u name (world.Reply.number sig) = soup_event Make u name sig ∷ []
made u name reply = []

-- the notes of a command that was done, with this reply
abbrev pub all_due : Due → world.Reply → List Event
all_due Nothing reply = []
all_due (Soup u name) reply = made u name reply
all_due (One told) reply = event_of told ∷ []
all_due (Two first second) reply = event_of first ∷ event_of second ∷ []

-- the reply to a command that makes a soup has its signature
abbrev pub HasSig : World → Command → world.Reply → Type 0
HasSig w (command.Soup u s) reply = reply ≡ world.Reply.number (next_sig w u)
HasSig w c reply = Unit {0}

module _ {C : Type 0} (soups : C → Store) where
  -- the soup of an add has taken its id since
  abbrev pub has_added : Units C → Told → Bool
  has_added units told = elim (next_uid_on soups units told.note.unit told.name)
      [ None ↦ false | Some next ↦ not (next == told.note.uid) ]

  -- a move to another unit has added its entry there, where the failed unit is the source
  abbrev pub is_halfway : Units C → (add removal : Told) → ℕ → Bool
  is_halfway units add removal u =
      ((removal.note.unit == u) && not (add.note.unit == u)) && has_added units add

  -- the notes of a command in which the device of a unit failed: that of such an add
  abbrev pub failed_due : Units C → Due → ℕ → List Event
  failed_due units (Two first second) u =
      if is_halfway units first second u then event_of first ∷ [] else []
  failed_due units due u = []

  -- the notes after a reply, by the units as they are then
  abbrev pub due_told : Units C → Due → world.Reply → List Event
  due_told units due (world.Reply.refused refusal) = []
  due_told units due (world.Reply.thrown u) = failed_due units due u
  due_told units due reply = all_due due reply

-- The watches are told of these notes, and nothing else is done.
pub record Tells {C : Type 0} (notes : List Event) (old new : Whole C) : Type 0 where
  pub watches : (watches : List (Option Watching)) → old.watches ≡ kept_all watches
      → new.watches ≡ kept_all (note_all notes watches)
  pub world : new.world ≡ old.world
  pub works : new.works ≡ old.works
