-- What holds of worlds and of drafts while commands go on.
use Rattle.std.specs.Prelude.{◌≡◌, ℕ, List, true, false, nat_lt, Option, Some}
use Rattle.newt_graph.specs.Graph.{RawGraph}
use Rattle.newt_spec_graph.specs.Graph.{is_frame, object}
use Rattle.newt_spec_graph.specs.Limits.{within_limits}
use Rattle.newt_spec_store.specs.Cost.{skeleton_length}
use Rattle.newt_spec_store.specs.Store.{Store}
use Rattle.newt_spec_store.specs.Valid.{well_formed}
use Rattle.newt_work.specs.Work.{Copy, copy_at}
use Rattle.newt_spec_world.specs.World.{World, mounted_store}
use Rattle.newt_spec_whole.specs.Whole.{Whole}
use Rattle.newt_laws_steps.specs.Meant.{MountedSure}
use Rattle.newt_laws_world.specs.Settled.{IsSettled, MountedApart}
use Rattle.newt_laws_world.specs.Worlds.{AllValid}

-- The graph can be that of an entry: its root is a frame, it is within the limits, and its skeleton
-- is not too large. (this project's own)
pub record CanBeEntry (g : RawGraph) : Type 0 where
  pub frame : is_frame (object g.nodes g.root) ≡ true
  pub within : within_limits g ≡ true
  pub small : nat_lt 64_000 (skeleton_length g) ≡ false

-- each mounted store is well formed (a word of these definitions)
abbrev pub AllFormed : World → Type 0
AllFormed w = (u : ℕ) (t : Store) → mounted_store w u ≡ Some t → well_formed t ≡ true

-- each working copy's draft can be the graph of an entry (this project's own)
abbrev pub DraftsFit : List (Option Copy) → Type 0
DraftsFit copies = (n : ℕ) (k : Copy) → copy_at n copies ≡ Some k → CanBeEntry k.draft

-- What holds of a whole at the start of a run and after each of its steps. Of each mounted unit it
-- is known what it holds. No cursor has another key than its hit. No two mounted stores have one
-- signature. Each store that a unit has or may have is valid. Each draft can be the graph of an
-- entry. (this project's own)
pub record IsSound (h : Whole) : Type 0 where
  pub sure : MountedSure h.world
  pub settled : IsSettled h.world
  pub apart : MountedApart h.world
  pub valid : AllValid h.world
  pub drafts : DraftsFit h.copies
