-- What holds at each moment of a command. It is this project's own.
use Rattle.std.specs.Prelude.{◌≡◌, ◌⊎◌, ℕ, List, Option, Some, None}
use Rattle.newt_host.specs.Moments.{Moment, MayLeave, changes, taken, output as output_of}
use Rattle.newt_spec_store.specs.Store.{Store}
use Rattle.newt_spec_world.specs.World.{World, store_on_unit}

-- What holds while a command turns the world w into v, from a moment on. Nothing is read and
-- nothing is put out. A unit with a store in w is left as that store or as its store in v. A unit
-- without a store in w, and without one in v, is not touched.
pub record Answering (store_of_image : List ℕ → Option Store) (w v : World) (start now : Moment) : Type 0 where
  pub unread : taken now ≡ taken start
  pub quiet : output_of now ≡ output_of start
  pub stores : (u : ℕ) (s : Store) (left : List ℕ) → store_on_unit w u ≡ Some s → MayLeave u now left
      → (store_of_image left ≡ Some s) ⊎ (store_of_image left ≡ store_on_unit v u)
  pub others : (u : ℕ) → store_on_unit w u ≡ None → store_on_unit v u ≡ None → changes u now ≡ changes u start
