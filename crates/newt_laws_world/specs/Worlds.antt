-- What holds of worlds, and of commands on them.
use Rattle.std.specs.Prelude.{◌≡◌, ℕ, Bool, true, false, ◌&&◌, nat_le, IsTrue, List, length, Some, ⊤}
use Rattle.std.specs.List.{list_all}
use Rattle.newt_base.specs.Names.{is_name, same_name, is_identifier, valid_path}
use Rattle.newt_spec_graph.specs.Limits.{within_limits}
use Rattle.newt_spec_store.specs.Keys.{Path}
use Rattle.newt_spec_store.specs.Store.{Store}
use Rattle.newt_spec_graph.specs.Lists.{all_apart}
use Rattle.newt_spec_store.specs.Valid.{valid}
use Rattle.newt_spec_world.specs.declared.command.Command.{Command}
use Rattle.newt_spec_world.specs.declared.command.Command.TheVariants as command
use Rattle.newt_spec_world.specs.declared.command.PartWord.{PartWord}
use Rattle.newt_spec_world.specs.World.{World, Device, Media, blank, one, two, lost, device}

-- P holds of each store that the media has or may have, with the number of blocks
abbrev pub OnMedia : (ℕ → Store → Type 0) → ℕ → Media → Type 0
OnMedia P blocks blank = ⊤
OnMedia P blocks (one s) = P blocks s
OnMedia P blocks (two a b) = P blocks a × P blocks b
OnMedia P blocks lost = ⊤

-- P holds of each store of the units of which D holds
abbrev pub OnUnits : (ℕ → Type 0) → (ℕ → Store → Type 0) → World → Type 0
OnUnits D P w = (u : ℕ) → D u → (d : Device) → device w u ≡ Some d → OnMedia P d.blocks d.media

-- every store that a unit of the world has or may have is valid
abbrev pub AllValid : World → Type 0
AllValid w = OnUnits (λ u. ⊤) (λ blocks s. IsTrue (valid blocks s)) w

-- a signature is at most the largest one, 536,870,911
abbrev pub sig_fits : ℕ → Bool
sig_fits sig = nat_le sig 536_870_911

-- one to four parts, each with a path
abbrev pub parts_fit : List PartWord → Bool
parts_fit parts = nat_le 1 (length parts) && nat_le (length parts) 4 && list_all (λ p. valid_path p.path) parts

-- a path, and symbols no two of which are one but for the case of letters
abbrev pub tags_fit : Path → List (List ℕ) → Bool
tags_fit path symbols = valid_path path && list_all is_identifier symbols && all_apart same_name symbols

-- The words of a command have the forms of the script.
unfoldable pub has_form : Command → Bool
has_form (command.Format u name sig) = is_name name && sig_fits sig
has_form (command.Soup u name) = is_name name
has_form (command.Index u s parts) = parts_fit parts
has_form (command.SetTags u s path symbols) = tags_fit path symbols
has_form (command.SetInfo u s g) = within_limits g
has_form (command.Add u s g) = within_limits g
has_form (command.Addx u s g) = within_limits g
has_form (command.Addu s g) = within_limits g
has_form (command.Change u s uid g) = within_limits g
has_form (command.Watch s most) = nat_le 1 most && nat_le most 64
has_form _ = true

-- The command is one of the world alone. One of watches and working copies is not asked of it: the
-- world would do nothing, and say that it is done.
unfoldable pub is_plain : Command → Bool
is_plain (command.Watch s most) = false
is_plain (command.Notes n) = false
is_plain (command.Unwatch n) = false
is_plain (command.Open u s uid) = false
is_plain (command.Draft n) = false
is_plain (command.Edit n path g) = false
is_plain (command.Save n) = false
is_plain (command.Revert n) = false
is_plain (command.Discard n) = false
is_plain _ = true
