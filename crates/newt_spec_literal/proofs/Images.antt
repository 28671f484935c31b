-- What stands in a text for a part of a graph: numbers of the text for those of the graph.
use Rattle.std.proofs.Common.{◌≡◌, ℕ, List, [], ◌∷◌, ◌++◌, Option, Some, None, ℤ}
use Rattle.std.specs.Prelude.{slice_get}
use Rattle.newt_graph.specs.declared.node.Node.{Node}
use Rattle.newt_graph.specs.declared.node.Node.TheVariants as nodes
use Rattle.newt_graph.specs.declared.node.Ref.{Ref}
use Rattle.newt_graph.specs.declared.node.Ref.TheVariants as refs
use Rattle.newt_graph.proofs.Elements.{get_append}

-- ---- what stands for what, where the text has met these nodes in this order

pub data RefStands (seen : List ℕ) : Ref → Ref → Type 0 where
  word : {w : ℤ} → RefStands seen (refs.Imm w) (refs.Imm w)
  node : {q k : ℕ} → slice_get seen q ≡ Some k → RefStands seen (refs.Node q) (refs.Node k)

pub data ClassStands (seen : List ℕ) : Option ℕ → Option ℕ → Type 0 where
  none : ClassStands seen None None
  some : {q k : ℕ} → slice_get seen q ≡ Some k → ClassStands seen (Some q) (Some k)

pub data Both {A X : Type 0} (stands : A → X → Type 0) : List A → List X → Type 0 where
  none : Both stands [] []
  more : {a : A} {x : X} {got : List A} {xs : List X} → stands a x → Both stands got xs → Both stands (a ∷ got) (x ∷ xs)

-- a number of the text and one of the graph
abbrev pub Leads : List ℕ → ℕ → ℕ → Type 0
Leads seen q k = slice_get seen q ≡ Some k

pub data NodeStands (seen : List ℕ) : Node → Node → Type 0 where
  symbol : {name : List ℕ} → NodeStands seen (nodes.Symbol name) (nodes.Symbol name)
  string : {units : List ℕ} → NodeStands seen (nodes.Str units) (nodes.Str units)
  binary : {q k : ℕ} {bytes : List ℕ} → Leads seen q k → NodeStands seen (nodes.Binary q bytes) (nodes.Binary k bytes)
  large : {q k : ℕ} {bytes : List ℕ} → Leads seen q k → NodeStands seen (nodes.Large q bytes) (nodes.Large k bytes)
  array : {class class_of : Option ℕ} {got values : List Ref} → ClassStands seen class class_of → Both (RefStands seen) got values → NodeStands seen (nodes.Array class got) (nodes.Array class_of values)
  frame : {numbers tags : List ℕ} {got values : List Ref} → Both (Leads seen) numbers tags → Both (RefStands seen) got values → NodeStands seen (nodes.Frame numbers got) (nodes.Frame tags values)

-- ---- all this stays when more nodes are met

pub ref_keeps : {seen : List ℕ} {a x : Ref} (extra : List ℕ) → RefStands seen a x → RefStands (seen ++ extra) a x
ref_keeps extra RefStands.word = RefStands.word
ref_keeps {seen = seen} extra (RefStands.node {q = q} {k = k} e) = RefStands.node (get_append seen extra q k e)

pub class_keeps : {seen : List ℕ} {a x : Option ℕ} (extra : List ℕ) → ClassStands seen a x → ClassStands (seen ++ extra) a x
class_keeps extra ClassStands.none = ClassStands.none
class_keeps {seen = seen} extra (ClassStands.some {q = q} {k = k} e) = ClassStands.some (get_append seen extra q k e)

pub both_weaker : {A X : Type 0} {P Q : A → X → Type 0} {got : List A} {xs : List X} → ((a : A) (x : X) → P a x → Q a x) → Both P got xs → Both Q got xs
both_weaker f Both.none = Both.none
both_weaker f (Both.more {a = a} {x = x} is rest) = Both.more (f a x is) (both_weaker f rest)

pub node_keeps : {seen : List ℕ} {a x : Node} (extra : List ℕ) → NodeStands seen a x → NodeStands (seen ++ extra) a x
node_keeps extra NodeStands.symbol = NodeStands.symbol
node_keeps extra NodeStands.string = NodeStands.string
node_keeps {seen = seen} extra (NodeStands.binary {q = q} {k = k} e) = NodeStands.binary (get_append seen extra q k e)
node_keeps {seen = seen} extra (NodeStands.large {q = q} {k = k} e) = NodeStands.large (get_append seen extra q k e)
node_keeps extra (NodeStands.array class values) = NodeStands.array (class_keeps extra class) (both_weaker (λ a x. ref_keeps extra) values)
node_keeps {seen = seen} extra (NodeStands.frame tags values) = NodeStands.frame (both_weaker (λ q k e. get_append seen extra q k e) tags) (both_weaker (λ a x. ref_keeps extra) values)
