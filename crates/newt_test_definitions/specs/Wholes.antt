-- Worlds with watches and working copies.
use Rattle.std.specs.Prelude.{ℕ, ◌+◌, zero, suc, List, [], ◌∷◌, ◌++◌, map, codes, replicate, None}
use Rattle.newt_graph.specs.Graph.{RawGraph, integer}
use Rattle.newt_graph.specs.declared.node.Node.{Node}
use Rattle.newt_graph.specs.declared.node.Node.TheVariants.{Array}
use Rattle.newt_graph.specs.declared.node.Ref.TheVariants.{Node as At}
use Rattle.newt_spec_world.specs.declared.command.Command.{Command}
use Rattle.newt_spec_world.specs.declared.command.Command.TheVariants as command
use Rattle.newt_spec_world.specs.Reply.{reply_line}
use Rattle.newt_spec_whole.specs.Whole.{bare_whole}
use Rattle.newt_spec_whole.specs.Answer.{whole_replies, whole_later}
use Rattle.newt_test_definitions.specs.Worlds.{blank_units, with_value, fresh, string, S}

-- an integer alone
abbrev pub a_number : ℕ → RawGraph
a_number n = record { nodes = []; root = integer n }

-- {a: n}
abbrev pub with_a : ℕ → RawGraph
with_a n = with_value (codes "a") (integer n)

-- {c: 1}
abbrev pub with_c : RawGraph
with_c = with_value (codes "c") (integer 1)

-- a string that takes a second page
abbrev pub long_string : RawGraph
long_string = string (replicate 300 120)

-- so many arrays around an empty one, the first of them at this place
abbrev pub arrays_from : ℕ → ℕ → List Node
arrays_from at zero = Array None [] ∷ []
arrays_from at (suc n) = Array None (At (at + 1) ∷ []) ∷ arrays_from (at + 1) n

abbrev pub arrays_around : ℕ → RawGraph
arrays_around n = record { nodes = arrays_from 0 n; root = At 0 }

-- what is said after the first commands, on one card or on two
abbrev pub said_beside : ℕ → List Command → List Command → List (List ℕ)
said_beside cards before cs =
    map reply_line (whole_replies (whole_later (bare_whole (blank_units cards)) before) cs)

-- a store with an empty soup S
abbrev pub with_s : List Command
with_s = fresh ++ command.Soup 0 S ∷ []

-- and with the entry {a: 1}, at the minute 5
abbrev pub with_entry : List Command
with_entry = with_s ++ command.Time 5 ∷ command.Add 0 S (with_a 1) ∷ []

-- two copies of it are opened, and the first is edited and saved
abbrev pub first_saved : List Command
first_saved = command.Open 0 S 0 ∷ command.Open 0 S 0 ∷ command.Edit 0 (codes "a" ∷ []) (a_number 2)
    ∷ command.Draft 0 ∷ command.Save 0 ∷ []

-- the second is edited, and reverted as it cannot be saved
abbrev pub second_reverted : List Command
second_reverted = command.Edit 1 (codes "a" ∷ []) (a_number 3) ∷ command.Save 1 ∷ command.Revert 1
    ∷ command.Draft 1 ∷ []

-- and then edited and saved
abbrev pub second_saved : List Command
second_saved = command.Edit 1 (codes "a" ∷ []) (a_number 3) ∷ command.Save 1 ∷ command.Get 0 S 0
    ∷ command.Save 0 ∷ []
