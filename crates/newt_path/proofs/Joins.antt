-- In the nodes of a graph, a symbol and another graph after them, each reference leads to a node, and each class and tag to a symbol.
use Rattle.std.proofs.Common.{◌≡◌, ◌≢◌, ℕ, zero, suc, ◌+◌, ◌<◌, ◌≤◌, List, [], ◌∷◌, ◌++◌, length, map, All, get_or, Some, None, refl, sym, ap, subst, ◌∙◌, arith}
use Rattle.std.specs.Prelude.{slice_get, AllPairs, set, is_none}
use Rattle.std.specs.List.{enumerate_from}
use Rattle.std.proofs.lemmas.List.{length-map, length-append, length-set, get_or-map}
use Rattle.std.proofs.lemmas.List.Elements.{All-nil, All-cons, All-head, All-tail, All-append, All-map, All-weaker, All-set, All-filter}
use Rattle.newt_graph.specs.declared.node.Node.{Node}
use Rattle.newt_graph.specs.declared.node.Node.TheVariants.{Symbol, Str, Binary, Large, Array, Frame}
use Rattle.newt_graph.specs.declared.node.Ref.{Ref}
use Rattle.newt_graph.specs.declared.node.Ref.TheVariants as refs
use Rattle.newt_graph.specs.Graph.{RawGraph, IsGraph, IsNode, IsSymbol, IsAlike, AreFoldedOnce, folded}
use Rattle.newt_graph.specs.Raw.{renamed_ref, renamed, labels_of, values_of, IsValue}
use Rattle.newt_graph.specs.Draft.{IsJoinedNode}
use Rattle.newt_graph.specs.Import.{known_as}
use Rattle.newt_spec_graph.specs.Slots.{goes_to, new_nodes}
use Rattle.newt_graph.proofs.Options.{some_is}
use Rattle.newt_graph.proofs.Elements.{any_at}
use Rattle.newt_graph.proofs.Drafts.{symbol_append}
use Rattle.newt_graph.proofs.Below.{nodes_within}
use Rattle.newt_path.proofs.Numbers.{joined, symbol_lands, lands_within}

no_pairs : {X : Type 0} (R : X → X → Type 0) → AllPairs R []
no_pairs R i j d lt within = absurd (omega (arith, within))

one_pair : {X : Type 0} (R : X → X → Type 0) (x : X) → AllPairs R (x ∷ [])
one_pair R x i j d lt within = absurd (omega (arith, lt, within))

pub value_more : (m n : ℕ) → m ≤ n → (value : Ref) → IsValue m value → IsValue n value
value_more m n le (refs.Imm w) is = is
value_more m n le (refs.Node k) is = omega (arith, is, le)

-- more nodes, in which each symbol is still a symbol
pub joined_more : (nodes more : List Node) → ((k : ℕ) → IsSymbol nodes k → IsSymbol more k) → length nodes ≤ length more → (node : Node) → IsJoinedNode nodes node → IsJoinedNode more node
joined_more nodes more symbols le node h = record {
  labels = All-weaker (IsSymbol nodes) (IsSymbol more) symbols (labels_of node) h.labels;
  distinct = h.distinct;
  values = All-weaker (IsValue (length nodes)) (IsValue (length more)) (value_more (length nodes) (length more) le) (values_of node) h.values;
}

pub symbol_joined : (nodes : List Node) (name : List ℕ) → IsJoinedNode nodes (Symbol name)
symbol_joined nodes name = record { labels = All-nil (IsSymbol nodes); distinct = no_pairs (λ a b. a ≢ b); values = All-nil (IsValue (length nodes)) }

-- ---- a graph

node_joined : (nodes : List Node) (node : Node) → IsNode nodes node → All (IsValue (length nodes)) (values_of node) → IsJoinedNode nodes node
node_joined nodes (Symbol name) is values = symbol_joined nodes name
node_joined nodes (Str units) is values = record { labels = All-nil (IsSymbol nodes); distinct = no_pairs (λ a b. a ≢ b); values = values }
node_joined nodes (Binary class bytes) is values = record { labels = All-cons (IsSymbol nodes) class [] is.0 (All-nil (IsSymbol nodes)); distinct = one_pair (λ a b. a ≢ b) class; values = values }
node_joined nodes (Large class bytes) is values = record { labels = All-cons (IsSymbol nodes) class [] is.0 (All-nil (IsSymbol nodes)); distinct = one_pair (λ a b. a ≢ b) class; values = values }
node_joined nodes (Array None others) is values = record { labels = All-nil (IsSymbol nodes); distinct = no_pairs (λ a b. a ≢ b); values = values }
node_joined nodes (Array (Some class) others) is values = record { labels = All-cons (IsSymbol nodes) class [] is.0 (All-nil (IsSymbol nodes)); distinct = one_pair (λ a b. a ≢ b) class; values = values }
node_joined nodes (Frame tags others) is values = record { labels = is.symbols; distinct = is.are_tags.distinct; values = values }

pub graph_joined : (g : RawGraph) → IsGraph g → All (IsJoinedNode g.nodes) g.nodes
graph_joined g graph k d lt = node_joined g.nodes (get_or g.nodes k d) (graph.each k d lt) (nodes_within g graph k d lt).values

-- ---- a graph after other nodes

labels_renamed : (to : ℕ → ℕ) (node : Node) → labels_of (renamed to node) ≡ map to (labels_of node)
labels_renamed to (Symbol name) = refl
labels_renamed to (Str units) = refl
labels_renamed to (Binary class bytes) = refl
labels_renamed to (Large class bytes) = refl
labels_renamed to (Array None values) = refl
labels_renamed to (Array (Some class) values) = refl
labels_renamed to (Frame tags values) = refl

values_renamed : (to : ℕ → ℕ) (node : Node) → values_of (renamed to node) ≡ map (renamed_ref to) (values_of node)
values_renamed to (Symbol name) = refl
values_renamed to (Str units) = refl
values_renamed to (Binary class bytes) = refl
values_renamed to (Large class bytes) = refl
values_renamed to (Array class values) = refl
values_renamed to (Frame tags values) = refl

alike_symbol : (nodes : List Node) (k : ℕ) (name : List ℕ) → IsAlike nodes k name → IsSymbol nodes k
alike_symbol nodes k name a = (a.0, a.1)

symbol_goes : (old : List Node) (v : RawGraph) (k : ℕ) → IsSymbol v.nodes k → IsSymbol (joined old v.nodes) (goes_to old v.nodes k)
symbol_goes old v k is = alike_symbol (joined old v.nodes) (goes_to old v.nodes k) is.0 (symbol_lands old v.nodes k is.0 is.1)

-- two symbols that go to one are one
symbols_apart : (old : List Node) (v : RawGraph) → AreFoldedOnce v.nodes → (a b : ℕ) → IsSymbol v.nodes a → IsSymbol v.nodes b → goes_to old v.nodes a ≡ goes_to old v.nodes b → a ≡ b
symbols_apart old v once a b is other e =
    let one = symbol_lands old v.nodes a is.0 is.1 in
    let two = subst (λ (k : ℕ). IsAlike (joined old v.nodes) k other.0) (sym e) (symbol_lands old v.nodes b other.0 other.1) in
    let same : one.0 ≡ two.0 = names (some_is (sym one.1 ∙ two.1)) in
    once a b is.0 is.1 (other.0, other.1, sym two.2 ∙ (ap folded (sym same) ∙ one.2))
  where
    names : {m n : List ℕ} → Symbol m ≡ Symbol n → m ≡ n
    names e = cc

pub value_lands : (old : List Node) (v : RawGraph) (value : Ref) → IsValue (length v.nodes) value → IsValue (length (joined old v.nodes)) (renamed_ref (goes_to old v.nodes) value)
value_lands old v (refs.Imm w) is = is
value_lands old v (refs.Node k) is = lands_within old v.nodes k (get_or v.nodes k (Str [])) (any_at v.nodes k (Str []) is)

renamed_joined : (old : List Node) (v : RawGraph) → AreFoldedOnce v.nodes → (node : Node) → IsJoinedNode v.nodes node → IsJoinedNode (joined old v.nodes) (renamed (goes_to old v.nodes) node)
renamed_joined old v once node h =
    let to = goes_to old v.nodes in
    let all = joined old v.nodes in
    record {
      labels = subst (λ (ks : List ℕ). All (IsSymbol all) ks) (sym (labels_renamed to node))
          (All-map (IsSymbol all) to (labels_of node) (λ j d lt. symbol_goes old v (get_or (labels_of node) j d) (h.labels j d lt)));
      distinct = subst (λ (ks : List ℕ). AllPairs (λ a b. a ≢ b) ks) (sym (labels_renamed to node)) (λ i j d lt within.
          let most : j < length (labels_of node) = omega (arith, within, length-map (labels_of node) to) in
          λ e. h.distinct i j d lt most (symbols_apart old v once _ _ (h.labels i d (omega (arith, lt, most))) (h.labels j d most)
          (sym (get_or-map to (labels_of node) i d d (omega (arith, lt, most))) ∙ (e ∙ get_or-map to (labels_of node) j d d most))));
      values = subst (λ (vs : List Ref). All (IsValue (length all)) vs) (sym (values_renamed to node))
          (All-map (IsValue (length all)) (renamed_ref to) (values_of node) (λ j d lt. value_lands old v (get_or (values_of node) j d) (h.values j d lt)));
    }

all_numbered : (P : Node → Type 0) (i : ℕ) (new : List Node) → All P new → All (λ k. P k.1) (enumerate_from i new)
all_numbered P i [] h = All-nil (λ k. P k.1)
all_numbered P i (x ∷ xs) h = All-cons (λ k. P k.1) (i, x) (enumerate_from (i + 1) xs) (All-head P x xs h) (all_numbered P (i + 1) xs (All-tail P x xs h))

pub append_joined : (old rest : List Node) → All (IsJoinedNode old) old → All (IsJoinedNode (old ++ rest)) old
append_joined old rest h = All-weaker (IsJoinedNode old) (IsJoinedNode (old ++ rest)) (joined_more old (old ++ rest) (symbol_append old rest) (omega (arith, length-append old rest))) old h

pub after_joined : (old : List Node) (v : RawGraph) → IsGraph v → All (IsJoinedNode old) old → All (IsJoinedNode (joined old v.nodes)) (joined old v.nodes)
after_joined old v graph h =
    let to = goes_to old v.nodes in
    let all = joined old v.nodes in
    let added = map (λ k. renamed to k.1) (new_nodes old v.nodes) in
    All-append (IsJoinedNode all) old added (append_joined old added h)
    (All-map (IsJoinedNode all) (λ k. renamed to k.1) (new_nodes old v.nodes)
    (All-weaker (λ k. IsJoinedNode v.nodes k.1) (λ k. IsJoinedNode all (renamed to k.1)) (λ k. renamed_joined old v graph.folded_once k.1) (new_nodes old v.nodes)
    (All-filter (λ k. is_none (known_as old k.1)) (λ k. IsJoinedNode v.nodes k.1) (enumerate_from 0 v.nodes) (all_numbered (IsJoinedNode v.nodes) 0 v.nodes (graph_joined v graph)))))

-- ---- one node in another's place

pub set_other : {X : Type 0} (xs : List X) (n k : ℕ) (y : X) → (k ≡ n → ⊥) → slice_get (set xs n y) k ≡ slice_get xs k
set_other [] n k y other = refl
set_other (x ∷ xs) zero zero y other = absurd (other refl)
set_other (x ∷ xs) zero (suc k) y other = refl
set_other (x ∷ xs) (suc n) zero y other = refl
set_other (x ∷ xs) (suc n) (suc k) y other = set_other xs n k y (λ e. other (ap suc e))

pub set_here : {X : Type 0} (xs : List X) (n : ℕ) (x y : X) → slice_get xs n ≡ Some x → slice_get (set xs n y) n ≡ Some y
set_here [] n x y e = absurd cc
set_here (z ∷ xs) zero x y e = refl
set_here (z ∷ xs) (suc n) x y e = set_here xs n x y e

-- a symbol stands where it stood when a frame is changed
pub symbol_stays : (all : List Node) (n : ℕ) (tags : List ℕ) (values : List Ref) (node : Node) → slice_get all n ≡ Some (Frame tags values) → (k : ℕ) → IsSymbol all k → IsSymbol (set all n node) k
symbol_stays all n tags values node at k is = (is.0, set_other all n k node (λ same. clash (sym is.1 ∙ (ap (λ (m : ℕ). slice_get all m) same ∙ at))) ∙ is.1)
  where
    clash : Some (Symbol is.0) ≡ Some (Frame tags values) → ⊥
    clash e = absurd cc

-- a frame in the place of a frame
pub frame_joined : (all : List Node) (n : ℕ) (tags : List ℕ) (values : List Ref) (node : Node) → slice_get all n ≡ Some (Frame tags values) → IsJoinedNode all node → All (IsJoinedNode all) all → All (IsJoinedNode (set all n node)) (set all n node)
frame_joined all n tags values node at one each =
    All-weaker (IsJoinedNode all) (IsJoinedNode (set all n node)) (joined_more all (set all n node) (symbol_stays all n tags values node at) (omega (arith, length-set all n node))) (set all n node)
    (All-set (IsJoinedNode all) all n node one each)
