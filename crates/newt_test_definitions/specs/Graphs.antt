-- Small graphs.
use Rattle.std.specs.Prelude.{ℕ, ℤ, List, [], ◌∷◌, pos, codes, Option, None, option_map}
use Rattle.std.specs.Prelude.{option_and_then}
use Rattle.newt_graph.specs.Graph.{RawGraph}
use Rattle.newt_graph.specs.Meeting.{normal_form}
use Rattle.newt_spec_literal.specs.Printed.{literal}
use Rattle.newt_spec_graph.specs.Slots.{put}
use Rattle.newt_graph.specs.declared.node.Ref.TheVariants.{Imm, Node as At}
use Rattle.newt_graph.specs.declared.node.Node.TheVariants.{Symbol, Str, Array, Frame}

-- {a: 1}
abbrev pub one_slot : RawGraph
one_slot =
    record { nodes = Frame (1 ∷ []) (Imm (pos 4) ∷ []) ∷ Symbol (codes "a") ∷ []; root = At 0 }

-- ["A", the same]
abbrev pub shared_string : RawGraph
shared_string = record { nodes = Array None (At 1 ∷ At 1 ∷ []) ∷ Str (65 ∷ []) ∷ []; root = At 0 }

-- {self: the frame}
abbrev pub knot : RawGraph
knot = record { nodes = Frame (1 ∷ []) (At 0 ∷ []) ∷ Symbol (codes "self") ∷ []; root = At 0 }

-- the same, with its objects in another order and one that nothing reaches
abbrev pub tangled : RawGraph
tangled =
    record { nodes = Symbol (codes "self") ∷ Str [] ∷ Frame (0 ∷ []) (At 2 ∷ []) ∷ []; root = At 2 }

-- [#1="x", #1#]
abbrev pub text_twice : RawGraph
text_twice = record { nodes = Array None (At 1 ∷ At 1 ∷ []) ∷ Str (codes "x") ∷ []; root = At 0 }

-- a value alone
abbrev pub number : ℤ → RawGraph
number w = record { nodes = []; root = Imm w }

-- {a: #1={x: 1}, b: #1#}
abbrev pub shared_frame : RawGraph
shared_frame =
    record {
      nodes = Frame (1 ∷ 2 ∷ []) (At 3 ∷ At 3 ∷ []) ∷ Symbol (codes "a") ∷ Symbol (codes "b")
          ∷ Frame (4 ∷ []) (Imm (pos 4) ∷ []) ∷ Symbol (codes "x") ∷ [];
      root = At 0;
    }

-- 'X
abbrev pub symbol_x : RawGraph
symbol_x = record { nodes = Symbol (codes "X") ∷ []; root = At 0 }

-- the printed text after a change
abbrev pub printed_put : RawGraph → List (List ℕ) → RawGraph → Option (List ℕ)
printed_put g path value = option_map literal (option_and_then normal_form (put g path value))
