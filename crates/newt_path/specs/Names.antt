-- The form of a path as a text, and of its names.
use Rattle.std.specs.Prelude.{ℕ, ◌<◌, ◌≤◌, ◌==◌, List, length, All, Option, Some, None, if◌then◌else◌}
use Rattle.std.specs.List.{slice_split}
use Rattle.newt_base.specs.Names.{valid_path}
use Rattle.newt_graph.specs.Graph.{IsName}

-- one to eight names of slots, each a symbol's name (Newton Programmer's Guide 2.0, paths; the
-- number is this project's own)
pub record IsPath (path : List (List ℕ)) : Type 0 where
  pub some : 0 < length path
  pub few : length path ≤ 8
  pub each : All IsName path

-- the path that a text writes down: identifiers with points between them (this project's own)
unfoldable pub path_of : List ℕ → Option (List (List ℕ))
path_of text = let names = slice_split (λ c. c == 46) text in if valid_path names then Some names else None
