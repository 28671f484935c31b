-- A working copy.
use Rattle.std.specs.Prelude.{◌≡◌, ℕ, Bool, ◌==◌, ◌&&◌, List, Option, option_and_then}
use Rattle.std.specs.Prelude.{unwrap_or, slice_get}
use Rattle.std.specs.Option.{option_flatten}
use Rattle.newt_graph.specs.Graph.{RawGraph}
use Rattle.newt_graph.specs.Meeting.{normal_form}
use Rattle.newt_spec_graph.specs.Slots.{put}
use Rattle.newt_work.specs.Same.{same_graph}

-- A working copy: its entry, by the signatures of store and soup and the id; the base, which is the
-- time and the graph that the entry had when the copy was last opened, saved or reverted; and the
-- draft. (this project's own)
pub record Copy : Type 0 where
  pub store : ℕ
  pub soup : ℕ
  pub uid : ℕ
  pub time : ℕ
  pub base : RawGraph
  pub draft : RawGraph

-- a copy that is opened at this state of an entry (this project's own)
abbrev pub opened : ℕ → ℕ → ℕ → ℕ → RawGraph → Copy
opened store soup uid time graph = record
    { store = store; soup = soup; uid = uid; time = time; base = graph; draft = graph }

-- the copy with another draft (a word of these definitions)
abbrev pub edited : RawGraph → Copy → Copy
edited draft k = record k { draft = draft }

-- the copy of another state of its entry, with no edits (this project's own)
abbrev pub rebased : ℕ → RawGraph → Copy → Copy
rebased time graph k = record k { time = time; base = graph; draft = graph }

-- ---- the base

-- this time and graph are those of the base (this project's own)
abbrev pub is_based : ℕ → RawGraph → Copy → Bool
is_based time graph k = (k.time == time) && same_graph k.base graph

-- the same, said as equations (a word of these definitions)
abbrev pub IsBased : ℕ → RawGraph → Copy → Type 0
IsBased time graph k = (k.time ≡ time) × (k.base ≡ graph)

-- ---- the draft

-- the draft with a value put into it at a path; none where there is no such path
-- (this project's own)
abbrev pub draft_with : List (List ℕ) → RawGraph → Copy → Option RawGraph
draft_with path value k = put k.draft path value

-- the copy whose draft is the normal form of the draft with a value put into it at a path; the copy
-- as it was where there is none (this project's own)
abbrev pub drafted : List (List ℕ) → RawGraph → Copy → Copy
drafted path value k =
    edited (unwrap_or (option_and_then normal_form (draft_with path value k)) k.draft) k

-- ---- places for copies

-- the copy of this number, if there is one (a word of these definitions)
abbrev pub copy_at : ℕ → List (Option Copy) → Option Copy
copy_at n ks = option_flatten (slice_get ks n)
