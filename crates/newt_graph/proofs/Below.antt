-- All references of a normal form lead to its nodes.
use Rattle.std.proofs.Common.{◌≡◌, ℕ, ◌+◌, ◌<◌, ◌≤◌, List, [], ◌∷◌, ◌++◌, length, All, Some, None, refl, arith}
use Rattle.std.proofs.lemmas.List.{length-append}
use Rattle.std.proofs.lemmas.List.Elements.{All-nil, All-cons, All-head, All-append}
use Rattle.newt_graph.specs.declared.node.Node.{Node}
use Rattle.newt_graph.specs.declared.node.Node.TheVariants.{Symbol, Str, Binary, Large, Array, Frame}
use Rattle.newt_graph.specs.declared.node.Ref.{Ref}
use Rattle.newt_graph.specs.declared.node.Ref.TheVariants as refs
use Rattle.newt_graph.specs.Graph.{RawGraph, IsGraph, WalkLabel, WalkLabels, Walk, Walks}
use Rattle.newt_graph.specs.Raw.{labels_of, values_of, IsValue}

-- a node whose references lead to so many nodes
pub record Within (n : ℕ) (node : Node) : Type 0 where
  pub labels : All (λ k. k < n) (labels_of node)
  pub values : All (IsValue n) (values_of node)

record LabelsWithin (n : ℕ) (ks : List ℕ) (new : List Node) : Type 0 where
  pub each : All (λ k. k < n) ks
  pub nodes : All (Within n) new

-- values that lead to so many nodes, and new nodes whose references do
pub record ValuesWithin (n : ℕ) (values : List Ref) (new : List Node) : Type 0 where
  pub each : All (IsValue n) values
  pub nodes : All (Within n) new

leaf : (n : ℕ) (node : Node) → labels_of node ≡ [] → values_of node ≡ [] → Within n node
leaf n node l v = record { labels = rw l (All-nil (λ k. k < n)); values = rw v (All-nil (IsValue n)) }

one_label : {met k : ℕ} {new : List Node} → WalkLabel met k new → (n : ℕ) → met + length new ≤ n → LabelsWithin n (k ∷ []) new
one_label (WalkLabel.again {met} {k} lt) n le = record { each = All-cons (λ k. k < n) k [] (omega (arith, lt, le)) (All-nil (λ k. k < n)); nodes = All-nil (Within n) }
one_label (WalkLabel.symbol {met} {name}) n le = record { each = All-cons (λ k. k < n) met [] (omega (arith, le)) (All-nil (λ k. k < n)); nodes = All-cons (Within n) (Symbol name) [] (leaf n (Symbol name) refl refl) (All-nil (Within n)) }

labels_in : {met : ℕ} {ks : List ℕ} {new : List Node} → WalkLabels met ks new → (n : ℕ) → met + length new ≤ n → LabelsWithin n ks new
labels_in (WalkLabels.none {met}) n le = record { each = All-nil (λ k. k < n); nodes = All-nil (Within n) }
labels_in (WalkLabels.more {met} {k} {ks} {first} {others} w ws) n le =
    let a = one_label w n (omega (arith, le, length-append first others)) in
    let b = labels_in ws n (omega (arith, le, length-append first others)) in
    record { each = All-cons (λ k. k < n) k ks (All-head (λ k. k < n) k [] a.each) b.each; nodes = All-append (Within n) first others a.nodes b.nodes }

container : (n : ℕ) (node : Node) (a b : List Node) → LabelsWithin n (labels_of node) a → ValuesWithin n (values_of node) b → All (Within n) (node ∷ (a ++ b))
container n node a b labels values = All-cons (Within n) node (a ++ b) (record { labels = labels.each; values = values.each }) (All-append (Within n) a b labels.nodes values.nodes)

one : (n : ℕ) (value : Ref) (new : List Node) → IsValue n value → All (Within n) new → ValuesWithin n (value ∷ []) new
one n value new h nodes = record { each = All-cons (IsValue n) value [] h (All-nil (IsValue n)); nodes = nodes }

one_node : (n : ℕ) (node : Node) → Within n node → All (Within n) (node ∷ [])
one_node n node h = All-cons (Within n) node [] h (All-nil (Within n))

mutual
  pub value_in : {room met : ℕ} {value : Ref} {new : List Node} → Walk room met value new → (n : ℕ) → met + length new ≤ n → ValuesWithin n (value ∷ []) new
  value_in (Walk.word {w} is) n le = one n (refs.Imm w) [] is (All-nil (Within n))
  value_in (Walk.again {met} {k} lt) n le = one n (refs.Node k) [] (omega (arith, lt, le)) (All-nil (Within n))
  value_in (Walk.symbol {met} {name}) n le = one n (refs.Node met) (Symbol name ∷ []) (omega (arith, le)) (one_node n (Symbol name) (leaf n (Symbol name) refl refl))
  value_in (Walk.string {met} {units}) n le = one n (refs.Node met) (Str units ∷ []) (omega (arith, le)) (one_node n (Str units) (leaf n (Str units) refl refl))
  value_in (Walk.binary {met} {class} {bytes} {new} label) n le =
      let l = one_label label n (omega (arith, le)) in
      one n (refs.Node met) (Binary class bytes ∷ new) (omega (arith, le)) (All-cons (Within n) (Binary class bytes) new (record { labels = l.each; values = All-nil (IsValue n) }) l.nodes)
  value_in (Walk.large {met} {class} {bytes} {new} label) n le =
      let l = one_label label n (omega (arith, le)) in
      one n (refs.Node met) (Large class bytes ∷ new) (omega (arith, le)) (All-cons (Within n) (Large class bytes) new (record { labels = l.each; values = All-nil (IsValue n) }) l.nodes)
  value_in (Walk.frame {met} {tags} {values} {tagged} {valued} labels ws) n le =
      let size = length-append tagged valued in
      one n (refs.Node met) (Frame tags values ∷ (tagged ++ valued)) (omega (arith, le))
      (container n (Frame tags values) tagged valued (labels_in labels n (omega (arith, le, size))) (values_in ws n (omega (arith, le, size))))
  value_in (Walk.plain_array {met} {values} {valued} ws) n le =
      let others = values_in ws n (omega (arith, le)) in
      one n (refs.Node met) (Array None values ∷ valued) (omega (arith, le)) (All-cons (Within n) (Array None values) valued (record { labels = All-nil (λ k. k < n); values = others.each }) others.nodes)
  value_in (Walk.array {met} {class} {values} {first} {valued} label ws) n le =
      let size = length-append first valued in
      one n (refs.Node met) (Array (Some class) values ∷ (first ++ valued)) (omega (arith, le))
      (container n (Array (Some class) values) first valued (one_label label n (omega (arith, le, size))) (values_in ws n (omega (arith, le, size))))

  values_in : {room met : ℕ} {values : List Ref} {new : List Node} → Walks room met values new → (n : ℕ) → met + length new ≤ n → ValuesWithin n values new
  values_in (Walks.none {met}) n le = record { each = All-nil (IsValue n); nodes = All-nil (Within n) }
  values_in (Walks.more {met} {value} {values} {first} {others} w ws) n le =
      let size = length-append first others in
      let a = value_in w n (omega (arith, le, size)) in
      let b = values_in ws n (omega (arith, le, size)) in
      record { each = All-cons (IsValue n) value values (All-head (IsValue n) value [] a.each) b.each; nodes = All-append (Within n) first others a.nodes b.nodes }

pub root_within : (g : RawGraph) → IsGraph g → IsValue (length g.nodes) g.root
root_within g graph = All-head (IsValue (length g.nodes)) g.root [] (value_in graph.walk (length g.nodes) (omega arith)).each

pub nodes_within : (g : RawGraph) → IsGraph g → All (Within (length g.nodes)) g.nodes
nodes_within g graph = (value_in graph.walk (length g.nodes) (omega arith)).nodes
