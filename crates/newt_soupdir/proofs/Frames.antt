-- Info frames: graphs without large binaries.
use Rattle.std.proofs.Common.{arith, ◌≡◌, refl, ap, List, [], ◌∷◌, true, false, ◌&&◌, length, map}
use Rattle.std.specs.List.{list_all}
use Rattle.std.proofs.lemmas.Bool.{and_parts}
use Rattle.newt_graph.specs.declared.node.Node.{Node}
use Rattle.newt_graph.specs.declared.node.Node.TheVariants.{Symbol, Str, Binary, Large, Array, Frame}
use Rattle.newt_graph.specs.Graph.{RawGraph, IsGraph}
use Rattle.newt_spec_graph.specs.Limits.{within_limits}
use Rattle.newt_spec_nsof.specs.Flat.{flat}
use Rattle.newt_spec_nsof.specs.Lengths.{bare, skeleton}
use Rattle.newt_spec_store.specs.Valid.{is_no_large}
use Rattle.newt_laws_images.proofs.Within.{graph-within}

one_same : (node : Node) → is_no_large node ≡ true → bare node ≡ node
one_same (Symbol name) h = refl
one_same (Str units) h = refl
one_same (Binary class bytes) h = refl
one_same (Large class bytes) h = cc
one_same (Array class values) h = refl
one_same (Frame tags values) h = refl

all_same : (nodes : List Node) → list_all is_no_large nodes ≡ true → map bare nodes ≡ nodes
all_same [] h = refl
all_same (node ∷ nodes) h = let p = and_parts (is_no_large node) (list_all is_no_large nodes) h in λ i. one_same node p.0 i ∷ all_same nodes p.1 i

-- without large binaries, the flat text of the skeleton is that of the graph
pub skeleton_same : (g : RawGraph) → list_all is_no_large g.nodes ≡ true → length (flat (skeleton g)) ≡ length (flat g)
skeleton_same g h = ap {A = List Node} (λ nodes. length (flat (record { nodes = nodes; root = g.root }))) (all_same g.nodes h)

-- a graph is within the limits of one graph
pub is_within : (g : RawGraph) → IsGraph g → within_limits g ≡ true
is_within g h = graph-within g h
