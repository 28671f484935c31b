-- How much a command of the whole programs and fetches. All of it is this project's own.
use Rattle.std.specs.Prelude.{ℕ, ◌+◌, ◌*◌, ◌≤◌, Bool, true, List, length, sum_by}
use Rattle.newt_host.specs.Moments.{image}
use Rattle.newt_host.specs.Outside.{Outside, Wears}
use Rattle.newt_pagebook.specs.Book.{IsOpenFor}
use Rattle.newt_spec_world.specs.World.{World}
use Rattle.newt_spec_world.specs.declared.command.Command.{Command}
use Rattle.newt_spec_world.specs.declared.command.Command.TheVariants as command
use Rattle.newt_laws_answers.specs.Bounds.{most_programmed}
use Rattle.newt_laws_answers.specs.Fetched.{means_entries}
use Rattle.newt_engine.specs.Bounds.{most_settled}

-- entries are read or changed, by what is asked of the world
abbrev pub whole_means_entries : Command → Bool
whole_means_entries (command.Open u s uid) = true
whole_means_entries (command.Save n) = true
whole_means_entries (command.Revert n) = true
whole_means_entries c = means_entries c

-- the most that is programmed on a unit by commands that are asked one after another, of which all
-- but the last leave the world
abbrev pub most_put : World → List Command → ℕ → ℕ
most_put w cs u = sum_by (λ c. most_programmed w c u) cs

-- the most that is fetched there by commands of entries
abbrev pub most_taken : World → List Command → ℕ → ℕ
most_taken w cs u = sum_by (λ c. most_settled w c u) cs

-- A unit whose bank is not closed and has room for what they program is programmed by no more, no
-- block of it is erased, and it is synced twice at most for each of them.
pub record ProgramsInTurn (w : World) (cs : List Command) (unit : ℕ) (old new : Outside)
    : Type 0 where
  pub programmed : IsOpenFor (most_put w cs unit) (image unit old.now)
      → new.programmed unit ≤ old.programmed unit + most_put w cs unit
  pub wears : IsOpenFor (most_put w cs unit) (image unit old.now)
      → Wears unit 0 (2 * length cs) old new
