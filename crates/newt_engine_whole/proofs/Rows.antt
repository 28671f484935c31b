-- Which commands of watches and working copies may end the run, worked by hand.
use Rattle.std.proofs.Common.{◌≡◌, refl, ℕ, false, List, [], ◌∷◌}
use Rattle.std.specs.List.{list_any}
use Rattle.newt_graph.specs.Graph.{RawGraph}
use Rattle.newt_spec_world.specs.declared.command.Command.TheVariants as command
use Rattle.newt_engine_whole.specs.Ends.{whole_takes_memory, whole_uses_device}

-- no unit is thrown out in one of these
in_memory : (n : ℕ) (s : List ℕ) (path : List (List ℕ)) (g : RawGraph)
    → list_any whole_uses_device (command.Watch s n ∷ command.Notes n ∷ command.Unwatch n
    ∷ command.Draft n ∷ command.Edit n path g ∷ command.Discard n ∷ []) ≡ false
in_memory n s path g = refl

-- and none of these ends the run
without_memory : (n : ℕ)
    → list_any whole_takes_memory (command.Unwatch n ∷ command.Discard n ∷ []) ≡ false
without_memory n = refl
