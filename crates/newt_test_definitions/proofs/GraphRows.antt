-- Graphs, worked by hand: the normal form, limits, and values and changes at a path.
use Rattle.std.proofs.Common.{◌≡◌, refl, ℕ, zero, suc, ◌+◌, true, false, List, [], ◌∷◌, length, map, codes, Some, None, pos}
use Rattle.std.specs.Prelude.{is_some, option_and_then, nat_eq}
use Rattle.std.specs.List.{sum_by}
use Rattle.newt_graph.specs.Draft.{is_small}
use Rattle.newt_graph.specs.Graph.{RawGraph, payload}
use Rattle.newt_graph.specs.Meeting.{limited, normal_form}
use Rattle.newt_graph.specs.declared.node.Node.{Node}
use Rattle.newt_graph.specs.declared.node.Node.TheVariants.{Symbol, Str, Binary, Large, Array, Frame}
use Rattle.newt_graph.specs.declared.node.Ref.{Ref}
use Rattle.newt_graph.specs.declared.node.Ref.TheVariants.{Imm, Node as At}
use Rattle.newt_spec_graph.specs.Limits.{is_within}
use Rattle.newt_spec_graph.specs.Lists.{all_apart, rises}
use Rattle.newt_spec_graph.specs.Slots.{put}
use Rattle.newt_test_definitions.specs.Graphs.{knot, number, one_slot}
use Rattle.newt_test_definitions.specs.Texts.{changed, graph_of, reached}
use Rattle.newt_test_definitions.proofs.Tables.{open_tables}

-- ---- the normal form

-- The walk meets a container, its class, its tags and then its values, and goes into a value before
-- it goes on to the next one. What it does not meet is gone.
mixed : normal_form (record {
  nodes = Str (120 ∷ []) ∷ Symbol (codes "b") ∷ Array (Some 3) (At 4 ∷ At 0 ∷ At 6 ∷ []) ∷ Symbol (codes "c") ∷ Frame (5 ∷ 1 ∷ []) (At 6 ∷ At 0 ∷ [])
      ∷ Symbol (codes "a") ∷ Binary 7 (1 ∷ []) ∷ Symbol (codes "d") ∷ Str [] ∷ [];
  root = At 2;
}) ≡ Some (record {
  nodes = Array (Some 1) (At 2 ∷ At 7 ∷ At 5 ∷ []) ∷ Symbol (codes "c") ∷ Frame (3 ∷ 4 ∷ []) (At 5 ∷ At 7 ∷ []) ∷ Symbol (codes "a") ∷ Symbol (codes "b")
      ∷ Binary 6 (1 ∷ []) ∷ Symbol (codes "d") ∷ Str (120 ∷ []) ∷ [];
  root = At 0;
})
unfolding open_tables
mixed = refl

large_before_its_class : normal_form (record { nodes = Symbol (codes "w") ∷ Large 0 (1 ∷ []) ∷ []; root = At 1 }) ≡ Some (record { nodes = Large 1 (1 ∷ []) ∷ Symbol (codes "w") ∷ []; root = At 0 })
unfolding open_tables
large_before_its_class = refl

immediate_alone : normal_form (record { nodes = Str [] ∷ []; root = Imm (pos 4) }) ≡ Some (number (pos 4))
unfolding open_tables
immediate_alone = refl

in_normal_form : normal_form knot ≡ Some knot
unfolding open_tables
in_normal_form = refl

-- ---- limits

-- so many arrays within one another, and the last is empty
arrays_from : ℕ → ℕ → List Node
arrays_from k zero = Array None [] ∷ []
arrays_from k (suc n) = Array None (At (k + 1) ∷ []) ∷ arrays_from (k + 1) n

arrays_within : ℕ → RawGraph
arrays_within n = record { nodes = arrays_from 0 n; root = At 0 }

two_hundred_open : is_some (normal_form (arrays_within 199)) ≡ true
unfolding open_tables arrays_within arrays_from
two_hundred_open = refl

another_open : normal_form (arrays_within 200) ≡ None
unfolding open_tables arrays_within arrays_from
another_open = refl

-- a frame around 199 arrays, and around 200
put_within : is_within (put one_slot (codes "b" ∷ []) (arrays_within 198)) ≡ true
unfolding open_tables arrays_within arrays_from
put_within = refl

put_too_deep : is_within (put one_slot (codes "b" ∷ []) (arrays_within 199)) ≡ false
unfolding open_tables arrays_within arrays_from
put_too_deep = refl

nowhere_is_not_within : is_within (put one_slot (codes "q" ∷ codes "x" ∷ []) (number (pos 4))) ≡ false
unfolding open_tables
nowhere_is_not_within = refl

most_nodes : (h : RawGraph) → length h.nodes ≡ 65535 → sum_by payload h.nodes ≡ 16777216 → limited h ≡ Some h
most_nodes h e f = rw (e, f) refl

node_too_many : (h : RawGraph) → length h.nodes ≡ 65536 → limited h ≡ None
node_too_many h e = rw e refl

byte_too_many : (h : RawGraph) → length h.nodes ≡ 65535 → sum_by payload h.nodes ≡ 16777217 → limited h ≡ None
byte_too_many h e f = rw (e, f) refl

-- The bytes that count are those of binaries and large binaries, and two for each unit of a string
-- and two more.
payloads : map payload (Symbol (codes "abc") ∷ Str [] ∷ Str (65 ∷ 66 ∷ []) ∷ Binary 0 (1 ∷ 2 ∷ 3 ∷ []) ∷ Large 0 (1 ∷ []) ∷ Array None (At 0 ∷ []) ∷ Frame (0 ∷ []) (At 0 ∷ []) ∷ []) ≡ 0 ∷ 2 ∷ 6 ∷ 3 ∷ 1 ∷ 0 ∷ 0 ∷ []
payloads = refl

most_slots : (values : List Ref) → length values ≡ 65535 → is_small (Array None values) ≡ true
most_slots values e = rw e refl

slot_too_many : (values : List Ref) → length values ≡ 65536 → is_small (Array None values) ≡ false
slot_too_many values e = rw e refl

most_tags : (tags : List ℕ) (values : List Ref) → length tags ≡ 65535 → is_small (Frame tags values) ≡ true
most_tags tags values e = rw e refl

tag_too_many : (tags : List ℕ) (values : List Ref) → length tags ≡ 65536 → is_small (Frame tags values) ≡ false
tag_too_many tags values e = rw e refl

longest_string : (units : List ℕ) → length units ≡ 499999 → is_small (Str units) ≡ true
longest_string units e = rw e refl

string_too_long : (units : List ℕ) → length units ≡ 500000 → is_small (Str units) ≡ false
string_too_long units e = rw e refl

longest_binary : (bytes : List ℕ) → length bytes ≡ 1000000 → is_small (Binary 0 bytes) ≡ true
longest_binary bytes e = rw e refl

binary_too_long : (bytes : List ℕ) → length bytes ≡ 1000001 → is_small (Binary 0 bytes) ≡ false
binary_too_long bytes e = rw e refl

longest_large_binary : (bytes : List ℕ) → length bytes ≡ 1000000 → is_small (Large 0 bytes) ≡ true
longest_large_binary bytes e = rw e refl

large_binary_too_long : (bytes : List ℕ) → length bytes ≡ 1000001 → is_small (Large 0 bytes) ≡ false
large_binary_too_long bytes e = rw e refl

-- ---- values at a path

-- slot by slot, whatever the case of its name; no step is taken from what is no frame
values : map reached (
    (codes "{a: 1}", codes "a" ∷ []) ∷ (codes "{a: 1}", codes "A" ∷ []) ∷ (codes "{A: 1, b: 2}", codes "b" ∷ []) ∷ (codes "{a: {b: \"x\"}}", codes "a" ∷ codes "b" ∷ []) ∷ (codes "{a: nil}", codes "a" ∷ [])
    ∷ (codes "#1={a: #1#}", codes "a" ∷ codes "a" ∷ codes "a" ∷ []) ∷ (codes "{a: 1}", []) ∷ (codes "5", []) ∷ [])
    ≡ map codes ("1" ∷ "1" ∷ "2" ∷ "\"x\"" ∷ "nil" ∷ "#0={a: #0#}" ∷ "{a: 1}" ∷ "5" ∷ [])
unfolding open_tables
values = refl

no_values : map reached (
    (codes "{a: 1}", codes "b" ∷ []) ∷ (codes "{}", codes "a" ∷ []) ∷ (codes "{a: {b: 1}}", codes "b" ∷ []) ∷ (codes "{a: {b: 1}}", codes "a" ∷ codes "c" ∷ []) ∷ (codes "{a: 1}", codes "a" ∷ codes "b" ∷ [])
    ∷ (codes "{a: [1]}", codes "a" ∷ codes "b" ∷ []) ∷ (codes "{a: 'b}", codes "a" ∷ codes "b" ∷ []) ∷ (codes "{a: nil}", codes "a" ∷ codes "b" ∷ []) ∷ (codes "1", codes "a" ∷ []) ∷ (codes "[a: 1]", codes "a" ∷ []) ∷ [])
    ≡ map codes ("none" ∷ "none" ∷ "none" ∷ "none" ∷ "none" ∷ "none" ∷ "none" ∷ "none" ∷ "none" ∷ "none" ∷ [])
unfolding open_tables
no_values = refl

-- ---- changes at a path

-- A slot that is there keeps its place and the spelling of its tag; another one becomes the last.
changes : map changed (
    (codes "{a: 1, b: 2, c: 3}", codes "b" ∷ [], codes "nil") ∷ (codes "{a: 1}", codes "A" ∷ [], codes "2") ∷ (codes "{a: 1}", codes "b" ∷ [], codes "2") ∷ (codes "{}", codes "B" ∷ [], codes "2")
    ∷ (codes "{a: {b: 1}, c: 3}", codes "a" ∷ codes "b" ∷ [], codes "[1]") ∷ (codes "{a: {b: 1}, c: 3}", codes "a" ∷ codes "d" ∷ [], codes "{}") ∷ (codes "{a: 1}", codes "b" ∷ [], codes "#1=[#1#]")
    ∷ (codes "{a: #1={x: 1}, b: #1#}", codes "a" ∷ codes "x" ∷ [], codes "2") ∷ [])
    ≡ map codes ("{a: 1, b: nil, c: 3}" ∷ "{a: 2}" ∷ "{a: 1, b: 2}" ∷ "{B: 2}" ∷ "{a: {b: [1]}, c: 3}" ∷ "{a: {b: 1, d: {}}, c: 3}" ∷ "{a: 1, b: #0=[#0#]}" ∷ "{a: #0={x: 2}, b: #0#}" ∷ [])
unfolding open_tables
changes = refl

-- the graph's spelling of a symbol comes first, then that of the path, then that of the value
spellings : map changed (
    (codes "{a: 'X}", codes "x" ∷ [], codes "1") ∷ (codes "{a: 1}", codes "b" ∷ [], codes "'A") ∷ (codes "{}", codes "x" ∷ [], codes "'X") ∷ (codes "{}", codes "X" ∷ [], codes "['x, 'Y, 'y]") ∷ [])
    ≡ map codes ("{a: 'X, X: 1}" ∷ "{a: 1, b: 'a}" ∷ "{x: 'x}" ∷ "{X: ['X, 'Y, 'Y]}" ∷ [])
unfolding open_tables
spellings = refl

no_changes : map changed (
    (codes "{a: 1}", codes "q" ∷ codes "x" ∷ [], codes "1") ∷ (codes "{a: 1}", codes "a" ∷ codes "x" ∷ [], codes "1") ∷ (codes "{a: [1]}", codes "a" ∷ codes "x" ∷ [], codes "1")
    ∷ (codes "{a: {b: 1}}", codes "a" ∷ codes "b" ∷ codes "c" ∷ [], codes "1") ∷ (codes "[1]", codes "x" ∷ [], codes "1") ∷ (codes "1", codes "x" ∷ [], codes "1") ∷ (codes "{a: 1}", [], codes "1") ∷ [])
    ≡ map codes ("none" ∷ "none" ∷ "none" ∷ "none" ∷ "none" ∷ "none" ∷ "none" ∷ [])
unfolding open_tables
no_changes = refl

-- Three parts in a row: the graph's nodes, the new symbol of the path, and the value's nodes
-- without the symbol that is there. Nothing is dropped.
parts_of_a_change : option_and_then (λ g. put g (codes "b" ∷ []) (record { nodes = Array None (At 1 ∷ At 2 ∷ []) ∷ Symbol (codes "A") ∷ Symbol (codes "c") ∷ []; root = At 0 })) (graph_of (codes "{a: \"x\"}"))
    ≡ Some (record { nodes = Frame (1 ∷ 3 ∷ []) (At 2 ∷ At 4 ∷ []) ∷ Symbol (codes "a") ∷ Str (codes "x") ∷ Symbol (codes "b") ∷ Array None (At 1 ∷ At 5 ∷ []) ∷ Symbol (codes "c") ∷ []; root = At 0 })
unfolding open_tables
parts_of_a_change = refl

what_no_root_reaches : option_and_then (λ g. put g (codes "A" ∷ []) (number (pos 8))) (graph_of (codes "{a: \"x\"}"))
    ≡ Some (record { nodes = Frame (1 ∷ []) (Imm (pos 8) ∷ []) ∷ Symbol (codes "a") ∷ Str (codes "x") ∷ []; root = At 0 })
unfolding open_tables
what_no_root_reaches = refl

-- ---- words on lists

apart : map (all_apart nat_eq) ([] ∷ (1 ∷ []) ∷ (1 ∷ 2 ∷ 3 ∷ []) ∷ (1 ∷ 2 ∷ 1 ∷ []) ∷ (1 ∷ 2 ∷ 2 ∷ []) ∷ []) ≡ true ∷ true ∷ true ∷ false ∷ false ∷ []
apart = refl

rising : map (rises 2 9) ([] ∷ (2 ∷ []) ∷ (2 ∷ 3 ∷ 8 ∷ []) ∷ (1 ∷ 3 ∷ []) ∷ (3 ∷ 9 ∷ []) ∷ (3 ∷ 3 ∷ []) ∷ (4 ∷ 3 ∷ []) ∷ []) ≡ true ∷ true ∷ true ∷ false ∷ false ∷ false ∷ false ∷ []
rising = refl
