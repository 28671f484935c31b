-- The whole: a world of plain stores with its cursors, eight places for watches, and sixteen for
-- working copies. Notifications of changes are Newton's (Newton Programmer's Guide 2.0, soup change
-- notification). That a watch is asked for its notes, and working copies, are this project's own.
use Rattle.std.specs.Prelude.{ℕ, Bool, List, [], ◌∷◌, Option, Some, None, option_map}
use Rattle.std.specs.Prelude.{option_and_then, unwrap_or, replicate, is_none}
use Rattle.std.specs.Prelude.{if◌then◌else◌}
use Rattle.std.specs.List.{position}
use Rattle.newt_notify.specs.Watch.{Watching, watch_at}
use Rattle.newt_work.specs.Work.{Copy, copy_at, is_based}
use Rattle.newt_spec_store.specs.Store.{Store}
use Rattle.newt_spec_world.specs.World as worlds
use Rattle.newt_spec_world.specs.World.{World}
use Rattle.newt_spec_world.specs.Alias.{Alias, Spot, resolved}
use Rattle.newt_spec_world.specs.declared.command.Command.{Command}
use Rattle.newt_spec_world.specs.declared.command.Command.TheVariants as command

-- a world, its watches and its working copies (this project's own)
pub record Whole : Type 0 where
  pub world : World
  pub watches : List (Option Watching)
  pub copies : List (Option Copy)

-- a world with no watches and no working copies (this project's own)
abbrev pub bare_whole : World → Whole
bare_whole w = record { world = w; watches = replicate 8 None; copies = replicate 16 None }

-- the whole with another world (a word of these definitions)
abbrev pub in_world : Whole → World → Whole
in_world h w = record h { world = w }

-- ---- to look up

-- the stores one of which a unit has, mounted or not (a word of these definitions)
abbrev pub stores_on : Whole → ℕ → List Store
stores_on h u = worlds.stores_on h.world u

-- the unit has a device that holds no store (a word of these definitions)
abbrev pub IsBlankOn : Whole → ℕ → Type 0
IsBlankOn h u = worlds.IsBlankOn h.world u

-- the watch of this number, if there is one (a word of these definitions)
abbrev pub watch : Whole → ℕ → Option Watching
watch h n = watch_at n h.watches

-- the least number that no watch has (this project's own)
abbrev pub free_watch : Whole → Option ℕ
free_watch h = position is_none h.watches

-- the working copy of this number, if there is one (a word of these definitions)
abbrev pub copy : Whole → ℕ → Option Copy
copy h n = copy_at n h.copies

-- the least number that no working copy has (this project's own)
abbrev pub free_copy : Whole → Option ℕ
free_copy h = position is_none h.copies

-- the alias of the entry that a copy is of (this project's own)
abbrev pub alias_of_copy : Copy → Alias
alias_of_copy k = record { store = k.store; soup = k.soup; uid = k.uid }

-- where the entry is that a copy is of, if it is there and its store is mounted
-- (this project's own)
abbrev pub living : Whole → Copy → Option Spot
living h k = resolved h.world (alias_of_copy k)

-- ---- what a command asks of the world

-- the entry is read (a word of these definitions)
abbrev pub get_of : Spot → Command
get_of s = command.Get s.unit s.soup.name s.entry.uid

-- the entry is changed to a copy's draft (a word of these definitions)
abbrev pub change_of : Copy → Spot → Command
change_of k s = command.Change s.unit s.soup.name s.entry.uid k.draft

-- what is asked of the entry that a copy is of; nothing where there is no such copy, or its entry
-- is not there (a word of these definitions)
abbrev pub of_living : Whole → ℕ → (Copy → Spot → Command) → Option Command
of_living h n ask = option_and_then (λ k. option_map (ask k) (living h k)) (copy h n)

-- The command of the world that a command asks for, where it is done. Commands of watches and
-- copies alone ask for none. `open` and `revert` ask to read the entry; `save` asks to change it to
-- the draft. All others ask for themselves. (this project's own)
unfoldable pub asks : Whole → Command → Option Command
asks h (command.Watch _ _) = None
asks h (command.Notes _) = None
asks h (command.Unwatch _) = None
asks h (command.Open u s uid) = Some (command.Get u s uid)
asks h (command.Draft _) = None
asks h (command.Edit _ _ _) = None
asks h (command.Save n) = of_living h n change_of
asks h (command.Revert n) = of_living h n (λ k s. get_of s)
asks h (command.Discard _) = None
asks h c = Some c

-- what a save asks, one after another: it reads the entry, and changes it where it still is as the
-- copy's base (this project's own)
abbrev pub save_in_turn : Copy → Spot → List Command
save_in_turn k s =
    get_of s ∷ (if is_based s.entry.time s.entry.graph k then change_of k s ∷ [] else [])

-- what a command asks of the world, one after another (this project's own)
abbrev pub asked_in_turn : Whole → Command → List Command
asked_in_turn h (command.Save n) =
    unwrap_or (option_and_then (λ k. option_map (save_in_turn k) (living h k)) (copy h n)) []
asked_in_turn h c = elim (asks h c) [ None ↦ [] | Some d ↦ d ∷ [] ]
