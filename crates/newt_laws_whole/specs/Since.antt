-- What becomes of a working copy.
use Rattle.std.specs.Prelude.{◌≡◌, ℕ, Bool, true, false, ◌==◌, List, [], ◌∷◌, ◌++◌, Option, Some}
use Rattle.std.specs.Prelude.{None, cond, ⊤, Ok, Err}
use Rattle.newt_base.specs.declared.Refusal.{Refusal}
use Rattle.newt_base.specs.Refusals.{first_of}
use Rattle.newt_graph.specs.Graph.{RawGraph}
use Rattle.newt_spec_script.specs.Rows.{Row}
use Rattle.newt_spec_script.specs.Script.{Item}
use Rattle.newt_spec_store.specs.Keys.{Path}
use Rattle.newt_work.specs.Work.{Copy}
use Rattle.newt_spec_world.specs.World.{settle}
use Rattle.newt_spec_world.specs.Changed.{changed, graph_after_set}
use Rattle.newt_spec_world.specs.Alias.{Spot}
use Rattle.newt_spec_world.specs.Reply.{Reply}
use Rattle.newt_spec_world.specs.declared.command.Command.{Command}
use Rattle.newt_spec_world.specs.declared.command.Command.TheVariants as command
use Rattle.newt_spec_whole.specs.Whole.{Whole, living}
use Rattle.newt_spec_whole.specs.Refused.{whole_checks}

-- a path, and the value that is put there (a word of these definitions)
abbrev pub Edit : Type 0
Edit = Path × RawGraph

-- the graph with these values put into it, one after another (this project's own)
abbrev pub put_all : RawGraph → List Edit → RawGraph
put_all g [] = g
put_all g (e ∷ es) = put_all (graph_after_set e.0 e.1 g) es

-- the command is not refused (a word of these definitions)
abbrev pub IsDone : Whole → Command → Type 0
IsDone h c = first_of (whole_checks h c) ≡ None

-- the edit that a command makes in a copy, where it is not refused (a word of these definitions)
abbrev pub edit_by : ℕ → Command → List Edit
edit_by n (command.Edit m path g) = cond (m == n) ((path, g) ∷ []) []
edit_by n _ = []

-- the list; it is empty where there is a refusal (a word of these definitions)
abbrev pub if_done : {X : Type 0} → Option Refusal → List X → List X
if_done (Some r) xs = []
if_done None xs = xs

-- the command saves, reverts or discards the copy, where it is not refused (this project's own)
abbrev pub ends_edits : ℕ → Command → Bool
ends_edits n (command.Save m) = m == n
ends_edits n (command.Revert m) = m == n
ends_edits n (command.Discard m) = m == n
ends_edits n _ = false

-- A save was done. The entry was still as the copy's base. The world after it is the one in which
-- the entry's graph was changed to this one. (this project's own)
pub record Saves (h v : Whole) (k : Copy) (draft : RawGraph) : Type 0 where
  pub spot : Spot
  pub lives : living h k ≡ Some spot
  pub same_time : spot.entry.time ≡ k.time
  pub same_graph : spot.entry.graph ≡ k.base
  pub after : v.world
      ≡ settle (changed h.world (command.Change spot.unit spot.soup.name spot.entry.uid draft))

-- ---- where devices may fail

-- the reply is `ok` (this project's own)
abbrev pub is_ok : Reply → Bool
is_ok Reply.done = true
is_ok reply = false

-- the edit that a line makes in a copy, where it is answered `ok` (this project's own)
abbrev pub edit_in : ℕ → Item → Reply → List Edit
edit_in n (Ok c) reply = cond (is_ok reply) (edit_by n c) []
edit_in n (Err r) reply = []

-- the edits that the lines of a run make in a copy (this project's own)
unfoldable pub edits_in : ℕ → List Item → List (Row Whole) → List Edit
edits_in n (item ∷ items) (row ∷ rows) = edit_in n item row.1 ++ edits_in n items rows
edits_in n items rows = []

-- no line that is answered `ok` saves, reverts or discards the copy (this project's own)
unfoldable pub KeepsEdits : ℕ → List Item → List (Row Whole) → Type 0
KeepsEdits n (Ok c ∷ items) (row ∷ rows) =
    (row.1 ≡ Reply.done → ends_edits n c ≡ false) × KeepsEdits n items rows
KeepsEdits n (Err r ∷ items) (row ∷ rows) = KeepsEdits n items rows
KeepsEdits n items rows = ⊤
