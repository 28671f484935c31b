-- The labels of a graph: which objects have one, how great it is, and that no two have the same.
use Rattle.std.proofs.Common.{◌≡◌, ℕ, zero, suc, ◌+◌, ◌≤◌, Bool, true, false, List, [], ◌∷◌, length, get_or, Some, None, refl, sym, ap, ◌∙◌, subst, arith, add-zero, zero-add}
use Rattle.std.specs.Prelude.{slice_get, flat_map, nat_lt}
use Rattle.std.proofs.lemmas.Bool.{lt-ltb, le-ltb}
use Rattle.std.proofs.lemmas.Option.{slice_get_within, get_or_from_slice_get}
use Rattle.newt_graph.specs.declared.node.Node.{Node}
use Rattle.newt_graph.specs.declared.node.Ref.{Ref}
use Rattle.newt_graph.specs.Graph.{RawGraph, IsGraph, IsNode}
use Rattle.newt_spec_literal.specs.Printed.{is_shared, labels_from, labels, label_of, references}
use Rattle.newt_graph.proofs.Options.{some_is}
use Rattle.newt_spec_literal.proofs.Walked.{Told, parts, count, count_cons}
use Rattle.newt_spec_literal.proofs.Telling.{AreLabelled, told}

-- a shared object has a label
some_label : (rs : List Ref) (next n : ℕ) (nodes : List Node) (i : ℕ) (node : Node) → slice_get nodes i ≡ Some node → is_shared rs (n + i) node ≡ true → (l : ℕ) × (get_or (labels_from rs next n nodes) i None ≡ Some l)
some_label rs next n [] i node here is = absurd cc
some_label rs next n (x ∷ xs) zero node here is = (next, let same : node ≡ x = cc in let shared : is_shared rs n x ≡ true = sym (ap (is_shared rs n) same) ∙ ap (λ (m : ℕ). is_shared rs m node) (sym (add-zero n)) ∙ is in rw (labels_from, shared) refl)
some_label rs next n (x ∷ xs) (suc i) node here is =
    let place : n + suc i ≡ n + 1 + i = omega arith in
    let shared : is_shared rs (n + 1 + i) node ≡ true = sym (ap (λ (m : ℕ). is_shared rs m node) place) ∙ is in
    go (some_label rs (next + 1) (n + 1) xs i node here shared) (some_label rs next (n + 1) xs i node here shared) (is_shared rs n x) refl
  where
    go : ((l : ℕ) × (get_or (labels_from rs (next + 1) (n + 1) xs) i None ≡ Some l)) → ((l : ℕ) × (get_or (labels_from rs next (n + 1) xs) i None ≡ Some l))
        → (b : Bool) → is_shared rs n x ≡ b → (l : ℕ) × (get_or (labels_from rs next n (x ∷ xs)) (suc i) None ≡ Some l)
    go later same true e = (later.0, rw (labels_from, e) later.1)
    go later same false e = (same.0, rw (labels_from, e) same.1)

-- no more labels than objects so far
bounds : (rs : List Ref) (next n : ℕ) (nodes : List Node) (i l : ℕ) → get_or (labels_from rs next n nodes) i None ≡ Some l → (next ≤ l) × (l ≤ next + i)
bounds rs next n [] i l e = absurd cc
bounds rs next n (x ∷ xs) zero l e = go (is_shared rs n x) refl
  where
    go : (b : Bool) → is_shared rs n x ≡ b → (next ≤ l) × (l ≤ next + 0)
    go true is = let same : next ≡ l = some_is {x = next} {y = l} (sym (rw (labels_from, is) refl) ∙ e) in (omega (arith, same), omega (arith, same))
    go false is = let wrong : None ≡ Some l = sym (rw (labels_from, is) refl) ∙ e in absurd cc
bounds rs next n (x ∷ xs) (suc i) l e = go (λ e. bounds rs (next + 1) (n + 1) xs i l e) (λ e. bounds rs next (n + 1) xs i l e) (is_shared rs n x) refl
  where
    go : (get_or (labels_from rs (next + 1) (n + 1) xs) i None ≡ Some l → (next + 1 ≤ l) × (l ≤ next + 1 + i)) → (get_or (labels_from rs next (n + 1) xs) i None ≡ Some l → (next ≤ l) × (l ≤ next + i))
        → (b : Bool) → is_shared rs n x ≡ b → (next ≤ l) × (l ≤ next + suc i)
    go later same true is = let h = later (rw (labels_from, is) at e) in (omega (arith, h.0), omega (arith, h.1))
    go later same false is = let h = same (rw (labels_from, is) at e) in (omega (arith, h.0), omega (arith, h.1))

apart : (rs : List Ref) (next n : ℕ) (nodes : List Node) (i j l : ℕ) → get_or (labels_from rs next n nodes) i None ≡ Some l → get_or (labels_from rs next n nodes) j None ≡ Some l → i ≡ j
apart rs next n [] i j l e f = absurd cc
apart rs next n (x ∷ xs) zero zero l e f = refl
apart rs next n (x ∷ xs) zero (suc j) l e f = go (is_shared rs n x) refl
  where
    go : (b : Bool) → is_shared rs n x ≡ b → 0 ≡ suc j
    go true is =
        let same : next ≡ l = some_is {x = next} {y = l} (sym (rw (labels_from, is) refl) ∙ e) in
        absurd (omega (arith, same, (bounds rs (next + 1) (n + 1) xs j l (rw (labels_from, is) at f)).0))
    go false is = let wrong : None ≡ Some l = sym (rw (labels_from, is) refl) ∙ e in absurd cc
apart rs next n (x ∷ xs) (suc i) zero l e f = go (is_shared rs n x) refl
  where
    go : (b : Bool) → is_shared rs n x ≡ b → suc i ≡ 0
    go true is =
        let same : next ≡ l = some_is {x = next} {y = l} (sym (rw (labels_from, is) refl) ∙ f) in
        absurd (omega (arith, same, (bounds rs (next + 1) (n + 1) xs i l (rw (labels_from, is) at e)).0))
    go false is = let wrong : None ≡ Some l = sym (rw (labels_from, is) refl) ∙ f in absurd cc
apart rs next n (x ∷ xs) (suc i) (suc j) l e f = ap suc (go (λ e f. apart rs (next + 1) (n + 1) xs i j l e f) (λ e f. apart rs next (n + 1) xs i j l e f) (is_shared rs n x) refl)
  where
    go : (get_or (labels_from rs (next + 1) (n + 1) xs) i None ≡ Some l → get_or (labels_from rs (next + 1) (n + 1) xs) j None ≡ Some l → i ≡ j)
        → (get_or (labels_from rs next (n + 1) xs) i None ≡ Some l → get_or (labels_from rs next (n + 1) xs) j None ≡ Some l → i ≡ j)
        → (b : Bool) → is_shared rs n x ≡ b → i ≡ j
    go later same true is = later (rw (labels_from, is) at e) (rw (labels_from, is) at f)
    go later same false is = same (rw (labels_from, is) at e) (rw (labels_from, is) at f)

-- ---- a graph

pub labels_apart : (g : RawGraph) (i j l : ℕ) → label_of (labels g) i ≡ Some l → label_of (labels g) j ≡ Some l → i ≡ j
labels_apart g i j l e f = apart (references g) 0 0 g.nodes i j l e f

pub label_le : (g : RawGraph) (i l : ℕ) → label_of (labels g) i ≡ Some l → l ≤ i
label_le g i l e = let h = bounds (references g) 0 0 g.nodes i l e in omega (arith, h.1)

total : RawGraph → ℕ → ℕ
total g k = count k (references g)

are_labelled : (g : RawGraph) → ((k : ℕ) (node : Node) → slice_get g.nodes k ≡ Some node → IsNode g.nodes node) → AreLabelled g.nodes (labels g) (total g)
unfolding total
are_labelled g each = record {
  each = each;
  label = λ k node here object often.
      let shared : is_shared (references g) (0 + k) node ≡ true = rw (zero-add k, object, lt-ltb 1 _ often) refl in
      some_label (references g) 0 0 g.nodes k node here shared;
}

pub node_rules : (g : RawGraph) → IsGraph g → (k : ℕ) (node : Node) → slice_get g.nodes k ≡ Some node → IsNode g.nodes node
node_rules g is k node here = subst (λ (x : Node). IsNode g.nodes x) (get_or_from_slice_get g.nodes k node node here) (is.each k node (slice_get_within g.nodes k node here))

-- a graph in normal form is walked with these labels
pub graph_told : (g : RawGraph) → IsGraph g → Told g.nodes (labels g) 200 0 g.root (length g.nodes)
unfolding total
graph_told g is = told g.nodes (labels g) (total g) (are_labelled g (node_rules g is)) is.walk (record {
  here = λ i node h. rw (zero-add i) h;
  whole = omega arith;
  spare = λ k node here object. let none : nat_lt k 0 ≡ false = le-ltb k 0 (omega arith) in rw none (omega (arith, count_cons k g.root (flat_map parts g.nodes)));
}) (length g.nodes) (sym (zero-add (length g.nodes)))
