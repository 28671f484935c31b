-- Which commands may end the run, and how much a command fetches at most, worked by hand.
use Rattle.std.proofs.Common.{◌≡◌, refl, ℕ, true, false, List, [], ◌∷◌, codes, Some}
use Rattle.std.specs.List.{list_any}
use Rattle.newt_graph.specs.Graph.{RawGraph}
use Rattle.newt_graph.specs.declared.node.Node.TheVariants.{Frame}
use Rattle.newt_graph.specs.declared.node.Ref.TheVariants.{Node as At}
use Rattle.newt_spec_nsof.specs.Flat.{xlong_text, count_text, each_text, frame_text}
use Rattle.newt_spec_nsof.specs.Flat.{value_text, flat}
use Rattle.newt_spec_store.specs.Store.{Store, new_store, make_soup, change_soup, add_entry}
use Rattle.newt_spec_query.specs.Cursor.{start}
use Rattle.newt_spec_query.specs.Spec.{spec_of}
use Rattle.newt_spec_world.specs.declared.command.Command.TheVariants as command
use Rattle.newt_spec_world.specs.Answer.{answer, fields}
use Rattle.newt_spec_world.specs.Changed.{changed}
use Rattle.newt_spec_world.specs.Refused.{checks}
use Rattle.newt_spec_world.specs.World.{World, one}
use Rattle.newt_laws_answers.specs.Fetched.{pages_meant}
use Rattle.newt_engine.specs.Bounds.{is_format, most_settled, most_stepped}
use Rattle.newt_engine.specs.Ends.{takes_memory, uses_device}

-- ---- ends

-- no unit is thrown out in one of these
in_memory : (u n : ℕ) (s : List ℕ) (g : RawGraph) → list_any uses_device (
    command.Nsof g ∷ command.Lit g ∷ command.Time n ∷ command.Quit ∷ command.Unmount u
    ∷ command.Stores ∷ command.Default u ∷ command.Soups u ∷ command.Indexes u s
    ∷ command.Tags u s ∷ command.Info u s ∷ command.Alias u s n ∷ command.Resolve g
    ∷ command.Which n ∷ command.Clone n ∷ command.Close n ∷ []) ≡ false
in_memory u n s g = refl

-- and none of these ends the run
without_memory : (u n : ℕ) (s : List ℕ) (g : RawGraph) → list_any takes_memory (
    command.Nsof g ∷ command.Lit g ∷ command.Time n ∷ command.Quit ∷ command.Unmount u
    ∷ command.Default u ∷ command.Alias u s n ∷ command.Which n ∷ command.Close n ∷ []) ≡ false
without_memory u n s g = refl

-- ---- bytes

-- what a mount programs is bounded
bounded : (u : ℕ) → is_format (command.Mount u) ≡ false
bounded u = refl

-- commands and flat texts, open to computation
unfoldable open_tables : Unit {0}
unfolding pages_meant answer checks changed fields
    flat value_text frame_text each_text count_text xlong_text
open_tables = tt

-- a frame without slots
abbrev empty : RawGraph
empty = record { nodes = Frame [] [] ∷ []; root = At 0 }

-- a store with a soup S, which has an entry of one page
abbrev store : Store
store =
    change_soup (codes "S") (add_entry 5 empty)
    (make_soup (codes "S") (new_store (codes "Internal") 7))

-- it is mounted, and a cursor stands before the entry
abbrev world : World
world = record {
  units = Some (record { blocks = 13; media = one store; mounted = true }) ∷ [];
  default = Some 0;
  minute = 6;
  cursors = Some (record {
    query = record { scope = Some 7; name = codes "S"; spec = spec_of empty [] };
    place = start;
  }) ∷ [];
}

-- an entry that is read is there before and after it
read_once : most_settled world (command.Get 0 (codes "S") 0) 0 ≡ 2048
unfolding open_tables
read_once = refl

-- one that is added is there after it alone
added : most_settled world (command.Add 0 (codes "S") empty) 0 ≡ 1024
unfolding open_tables
added = refl

-- the cursor goes on to the entry, and back from it to none
next : most_stepped world (command.Next 0) 0 ≡ 512
unfolding open_tables
next = refl

previous : most_stepped world (command.Prev 0) 0 ≡ 0
unfolding open_tables
previous = refl
