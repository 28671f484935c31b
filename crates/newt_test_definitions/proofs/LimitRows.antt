-- What has just the size of a limit is accepted. (What passes one is refused among the rows of
-- streams and of graphs.)
use Rattle.std.proofs.Common.{arith, ◌≡◌, ◌≢◌, refl, ℕ, zero, suc, ◌+◌, ◌*◌, ◌<◌, ◌≤◌, List, [], ◌∷◌, length, replicate, codes, Some, None, pos}
use Rattle.std.proofs.lemmas.List.{length-replicate}
use Rattle.std.proofs.lemmas.List.Elements.{All-cons, All-nil, All-replicate}
use Rattle.newt_graph.specs.Graph.{RawGraph, IsGraph, IsNode, Walk, Walks, payload}
use Rattle.newt_graph.specs.declared.node.Node.{Node}
use Rattle.newt_graph.specs.declared.node.Node.TheVariants.{Symbol, Str, Array}
use Rattle.newt_graph.specs.declared.node.Ref.TheVariants.{Imm, Node as At}
use Rattle.newt_graph.proofs.Drafts.{once_push}
use Rattle.newt_graph.proofs.Words.{integer_word}
use Rattle.newt_spec_literal.specs.Grammar.{LargeBytes}
use Rattle.newt_spec_nsof.specs.Text.{Object, Spells}
use Rattle.newt_spec_nsof.specs.Flat.{flat}
use Rattle.newt_spec_nsof.proofs.Spelled.{flat_spells}

-- a graph of one node
lone : Node → RawGraph
lone node = record { nodes = node ∷ []; root = At 0 }

lone_graph : (node : Node) → Walk 200 0 (At 0) (node ∷ []) → payload node ≤ 1000000 → IsNode (node ∷ []) node → ((name : List ℕ) → node ≢ Symbol name) → IsGraph (lone node)
unfolding lone
lone_graph node walk light is other = record {
  walk = walk;
  few = omega arith;
  light = omega (arith, light);
  each = All-cons (IsNode (node ∷ [])) node [] is (All-nil (IsNode (node ∷ [])));
  folded_once = once_push [] node (λ i k name named alike. absurd (nowhere i name named)) (λ name e k alike. absurd (other name e));
}
  where
    nowhere : (i : ℕ) (name : List ℕ) → None ≡ Some (Symbol name) → ⊥
    nowhere i name e = cc

-- a string of so many letters
letters : ℕ → Node
letters n = Str (replicate n 65)

string_graph : (n : ℕ) → 2 * n + 2 ≤ 1000000 → IsGraph (lone (letters n))
unfolding letters
string_graph n h =
    let few : 2 * length {A = ℕ} (replicate n 65) + 2 ≤ 1000000 = omega (arith, h, length-replicate {A = ℕ} n 65) in
    lone_graph (Str (replicate n 65)) Walk.string few (record { few = few; each = All-replicate (λ u. u < 65536) n 65 (omega arith) }) (λ name e. cc)

-- 1,000,000 bytes, the last unit counted
longest_string : Spells (flat (lone (letters 499999))) (lone (letters 499999))
longest_string = flat_spells (lone (letters 499999)) (string_graph 499999 (omega arith))

-- an array of so many integers
ones : ℕ → Node
ones n = Array None (replicate n (Imm (pos 4)))

ones_walk : (n : ℕ) → Walks 199 1 (replicate n (Imm (pos 4))) []
ones_walk zero = Walks.none
ones_walk (suc n) = Walks.more (Walk.word (integer_word 1 (omega arith))) (ones_walk n)

array_graph : (n : ℕ) → n ≤ 65535 → IsGraph (lone (ones n))
unfolding ones
array_graph n h = lone_graph (Array None (replicate n (Imm (pos 4)))) (Walk.plain_array (ones_walk n)) (omega arith) (omega (arith, h, length-replicate n (Imm (pos 4)))) (λ name e. cc)

widest_array : Spells (flat (lone (ones 65535))) (lone (ones 65535))
widest_array = flat_spells (lone (ones 65535)) (array_graph 65535 (omega arith))

-- the most bytes of zero that a number stands for
most_zeros : LargeBytes (codes "*1000000") (replicate 1000000 0)
most_zeros = LargeBytes.zeros {digits = codes "1000000"} refl (omega arith)

-- a character of two bytes, and its word
wide_character : Spells (2 ∷ 2 ∷ 1 ∷ 2 ∷ []) (record { nodes = []; root = Imm (pos 4134) })
wide_character = record { text = 2 ∷ 1 ∷ 2 ∷ []; numbered = []; whole = refl; object = Object.wide_character {high = 1} {low = 2} (omega arith) (omega arith); few = omega arith; light = omega arith }
