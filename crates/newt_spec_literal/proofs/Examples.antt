-- Graphs and their texts, computed.
use Rattle.std.specs.Prelude.{◌≡◌, refl, ◌+◌, ◌*◌, List, [], ◌∷◌, codes, Some, None, ℤ, pos, negsuc}
use Rattle.std.specs.Fmt.{digits}
use Rattle.newt_graph.specs.declared.node.Node.{Node}
use Rattle.newt_graph.specs.declared.node.Node.TheVariants.{Symbol, Str, Binary, Large, Array, Frame}
use Rattle.newt_graph.specs.declared.node.Ref.{Ref}
use Rattle.newt_graph.specs.declared.node.Ref.TheVariants.{Imm, Node as At}
use Rattle.newt_graph.specs.Graph.{RawGraph}
use Rattle.newt_spec_literal.specs.Printed.{literal}

-- a graph of nodes and a root
graph : List Node → Ref → RawGraph
graph nodes root = record { nodes = nodes; root = root }

-- a word alone
word : ℤ → RawGraph
word w = record { nodes = []; root = Imm w }

-- the first node is the root
from_first : List Node → RawGraph
from_first nodes = record { nodes = nodes; root = At 0 }

one : Ref
one = Imm (pos 4)

-- ---- immediates

least : literal (word (negsuc 2147483647)) ≡ codes "-536870912"
unfolding word digits
least = refl

greatest : literal (word (pos 2147483644)) ≡ codes "536870911"
unfolding word digits
greatest = refl

minus_one : literal (word (negsuc 3)) ≡ codes "-1"
unfolding word digits
minus_one = refl

nil : literal (word (pos 2)) ≡ codes "nil"
unfolding word digits
nil = refl

truth : literal (word (pos 26)) ≡ codes "true"
unfolding word digits
truth = refl

letter : literal (word (pos (16 * 65 + 6))) ≡ codes "$A"
unfolding word digits
letter = refl

space : literal (word (pos (16 * 32 + 6))) ≡ codes "$\\0020"
unfolding word digits
space = refl

backslash : literal (word (pos (16 * 92 + 6))) ≡ codes "$\\005C"
unfolding word digits
backslash = refl

last_character : literal (word (pos (16 * 65535 + 6))) ≡ codes "$\\FFFF"
unfolding word digits
last_character = refl

no_character : literal (word (pos (16 * 65536 + 6))) ≡ codes "&00100006"
unfolding word digits
no_character = refl

magic : literal (word (negsuc 0)) ≡ codes "&FFFFFFFF"
unfolding word digits
magic = refl

-- ---- symbols, strings and binaries

plain_symbol : literal (from_first (Symbol (codes "nil") ∷ [])) ≡ codes "'nil"
unfolding from_first digits
plain_symbol = refl

barred_symbol : literal (from_first (Symbol (codes "7|u\\p") ∷ [])) ≡ codes "'|7\\|u\\\\p|"
unfolding from_first digits
barred_symbol = refl

string : literal (from_first (Str (0 ∷ 32 ∷ 34 ∷ 92 ∷ 65 ∷ 126 ∷ 127 ∷ 0xD801 ∷ []) ∷ [])) ≡ codes "\"\\u0000 \\\"\\\\A~\\u007F\\uD801\""
unfolding from_first digits
string = refl

binary : literal (from_first (Binary 1 (0xDE ∷ 0x0A ∷ []) ∷ Symbol (codes "a b") ∷ [])) ≡ codes "<|a b|:DE0A>"
unfolding from_first digits
binary = refl

empty_binary : literal (from_first (Binary 1 [] ∷ Symbol (codes "k") ∷ [])) ≡ codes "<k:>"
unfolding from_first digits
empty_binary = refl

large : literal (from_first (Large 1 (0 ∷ 0 ∷ []) ∷ Symbol (codes "wave") ∷ [])) ≡ codes "<<wave:0000>>"
unfolding from_first digits
large = refl

-- ---- arrays and frames

nothing : literal (from_first (Array None [] ∷ [])) ≡ codes "[]"
unfolding from_first digits
nothing = refl

classed_nothing : literal (from_first (Array (Some 1) [] ∷ Symbol (codes "a") ∷ [])) ≡ codes "[a:]"
unfolding from_first digits
classed_nothing = refl

no_slots : literal (from_first (Frame [] [] ∷ [])) ≡ codes "{}"
unfolding from_first digits
no_slots = refl

classed : literal (from_first (Array (Some 1) (one ∷ At 1 ∷ []) ∷ Symbol (codes "a") ∷ [])) ≡ codes "[a: 1, 'a]"
unfolding from_first one digits
classed = refl

barred_tag : literal (from_first (Frame (1 ∷ []) (one ∷ []) ∷ Symbol (codes "a b") ∷ [])) ≡ codes "{|a b|: 1}"
unfolding from_first one digits
barred_tag = refl

first_spelling : literal (from_first (Frame (1 ∷ 2 ∷ []) (one ∷ At 1 ∷ []) ∷ Symbol (codes "A") ∷ Symbol (codes "B") ∷ [])) ≡ codes "{A: 1, B: 'A}"
unfolding from_first one digits
first_spelling = refl

-- ---- labels

loop : literal (from_first (Frame (1 ∷ []) (At 0 ∷ []) ∷ Symbol (codes "me") ∷ [])) ≡ codes "#0={me: #0#}"
unfolding from_first digits
loop = refl

apart : literal (from_first (Array None (At 1 ∷ At 2 ∷ []) ∷ Str (120 ∷ []) ∷ Str (120 ∷ []) ∷ [])) ≡ codes "[\"x\", \"x\"]"
unfolding from_first digits
apart = refl

shared : literal (from_first (Array None (At 1 ∷ At 1 ∷ []) ∷ Str (120 ∷ []) ∷ [])) ≡ codes "[#0=\"x\", #0#]"
unfolding from_first digits
shared = refl

-- labels come in the order of first meeting, and an object that is met once has none
several : literal (from_first (Array None (At 1 ∷ At 2 ∷ At 3 ∷ At 3 ∷ At 1 ∷ At 0 ∷ []) ∷ Array None [] ∷ Str [] ∷ Frame [] [] ∷ []))
    ≡ codes "#0=[#1=[], \"\", #2={}, #2#, #1#, #0#]"
unfolding from_first digits
several = refl

-- the tags of a frame come before the objects in its values, and are no objects
tags_first : literal (from_first (Frame (1 ∷ 2 ∷ []) (At 3 ∷ At 3 ∷ []) ∷ Symbol (codes "x") ∷ Symbol (codes "y") ∷ Array (Some 2) [] ∷ []))
    ≡ codes "{x: #0=[y:], y: #0#}"
unfolding from_first digits
tags_first = refl
