-- What holds at each moment of a command, where devices may fail. It is this project's own.
use Rattle.std.specs.Prelude.{◌≡◌, ◌⊎◌, ℕ, false, List, ◌++◌, Option, Some}
use Rattle.newt_host.specs.Moments.{Moment, MayLeave, image, taken, output as output_of}
use Rattle.newt_spec_graph.specs.Lists.{Among}
use Rattle.newt_spec_store.specs.Store.{Store}
use Rattle.newt_spec_world.specs.Step.{formats}
use Rattle.newt_spec_world.specs.World.{World, stores_on, IsBlankOn}
use Rattle.newt_spec_world.specs.declared.command.Command.{Command}

-- the image is read as one of these stores
abbrev pub ReadsOneOf : (List ℕ → Option Store) → List Store → List ℕ → Type 0
ReadsOneOf reads stores left = (s : Store) × Among stores s × (reads left ≡ Some s)

-- A unit that holds no store in w is not to hold one. It holds none in v either, or the command is
-- no format of it, or is refused.
abbrev pub StaysBlank : World → Command → World → ℕ → Type 0
StaysBlank w c v u = (formats w c u ≡ false) ⊎ IsBlankOn v u

-- What holds while a command turns the world w into v, from a moment on. Nothing is read and
-- nothing is put out. A unit that has a store in w, or one of two, is left as one of its stores in
-- w or in v. A unit that holds no store in w, and is not to hold one, keeps its image. A crash may
-- leave of it only what it might have left before.
pub record Answering (store_of_image : List ℕ → Option Store) (w : World) (c : Command) (v : World)
    (start now : Moment) : Type 0 where
  pub unread : taken now ≡ taken start
  pub quiet : output_of now ≡ output_of start
  pub stores : (u : ℕ) (s : Store) (left : List ℕ) → Among (stores_on w u) s → MayLeave u now left
      → ReadsOneOf store_of_image (stores_on w u ++ stores_on v u) left
  pub images : (u : ℕ) → IsBlankOn w u → StaysBlank w c v u → image u now ≡ image u start
  pub others : (u : ℕ) (left : List ℕ) → IsBlankOn w u → StaysBlank w c v u → MayLeave u now left
      → MayLeave u start left
