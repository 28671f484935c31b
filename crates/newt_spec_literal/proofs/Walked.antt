-- The walk of a graph with what stands at each place: each object that is met again has a label.
use Rattle.std.proofs.Common.{◌≡◌, ℕ, suc, ◌+◌, ◌<◌, ◌≤◌, Bool, true, false, cond, eqb, ltb, List, [], ◌∷◌, ◌++◌, length, map, Option, Some, None, refl, ap, ◌∙◌, arith, ℤ}
use Rattle.std.specs.Prelude.{slice_get, flat_map, count_by}
use Rattle.std.proofs.lemmas.Bool.{eqb-true, ltb-true, ltb-false, eqb-false, eq-eqb}
use Rattle.std.proofs.lemmas.List.{length-append}
use Rattle.std.proofs.lemmas.List.Sums.{sum_by-cons, sum_by-append}
use Rattle.std.proofs.lemmas.Grind.{flat_map-append}
use Rattle.newt_graph.specs.declared.node.Node.{Node}
use Rattle.newt_graph.specs.declared.node.Node.TheVariants as nodes
use Rattle.newt_graph.specs.declared.node.Ref.{Ref}
use Rattle.newt_graph.specs.declared.node.Ref.TheVariants as refs
use Rattle.newt_graph.specs.Graph.{IsNamed, IsSymbol, IsWord, WalkLabel, WalkLabels, Walk, Walks, IsText, IsData, IsFrame}
use Rattle.newt_graph.specs.Raw.{labels_of, values_of}
use Rattle.newt_spec_literal.specs.Printed.{is_symbol, label_of, leads_to}

-- ---- what the walk meets

-- the nodes from one number to another are symbols
pub record Between (graph : List Node) (from to : ℕ) : Type 0 where
  pub le : from ≤ to
  pub symbols : (k : ℕ) → from ≤ k → k < to → IsSymbol graph k

-- A walk that has met so many nodes comes to a value; at its end it has met so many. An object that
-- is met again has a label.
mutual
  pub data Told (graph : List Node) (labels : List (Option ℕ)) : (room met : ℕ) → Ref → ℕ → Type 0 where
    word : {room met : ℕ} {w : ℤ} → IsWord w → Told graph labels room met (refs.Imm w) met
    again : {room met k l : ℕ} {node : Node} → k < met → slice_get graph k ≡ Some node → is_symbol node ≡ false → label_of labels k ≡ Some l → Told graph labels room met (refs.Node k) met
    symbol : {room met k after : ℕ} {name : List ℕ} → IsNamed graph k name → Between graph met after → Told graph labels room met (refs.Node k) after
    object : {room met after : ℕ} {node : Node} → slice_get graph met ≡ Some node → Full graph labels room met node after → Told graph labels room met (refs.Node met) after

  -- an object in full
  pub data Full (graph : List Node) (labels : List (Option ℕ)) : (room met : ℕ) → Node → ℕ → Type 0 where
    string : {room met after : ℕ} {units : List ℕ} → IsText units → after ≡ met + 1 → Full graph labels room met (nodes.Str units) after
    binary : {room met class after : ℕ} {bytes : List ℕ} → IsSymbol graph class → IsData bytes → Between graph (met + 1) after → Full graph labels room met (nodes.Binary class bytes) after
    large : {room met class after : ℕ} {bytes : List ℕ} → IsSymbol graph class → IsData bytes → Between graph (met + 1) after → Full graph labels room met (nodes.Large class bytes) after
    array : {room met after : ℕ} {class : Option ℕ} {values : List Ref} (mid : ℕ) → ((k : ℕ) → class ≡ Some k → IsSymbol graph k) → length values ≤ 65535 → Between graph (met + 1) mid
        → ToldAll graph labels room mid values after → Full graph labels (suc room) met (nodes.Array class values) after
    frame : {room met after : ℕ} {tags : List ℕ} {values : List Ref} (mid : ℕ) → IsFrame graph tags values → Between graph (met + 1) mid
        → ToldAll graph labels room mid values after → Full graph labels (suc room) met (nodes.Frame tags values) after

  pub data ToldAll (graph : List Node) (labels : List (Option ℕ)) : (room met : ℕ) → List Ref → ℕ → Type 0 where
    none : {room met : ℕ} → ToldAll graph labels room met [] met
    more : {room met after : ℕ} {value : Ref} {values : List Ref} (then : ℕ) → Told graph labels room met value then → ToldAll graph labels room then values after → ToldAll graph labels room met (value ∷ values) after

-- ---- how often a node is named

abbrev pub parts : Node → List Ref
parts node = map refs.Node (labels_of node) ++ values_of node

abbrev pub count : ℕ → List Ref → ℕ
count k rs = count_by (leads_to k) rs

pub count_cons : (k : ℕ) (r : Ref) (rs : List Ref) → count k (r ∷ rs) ≡ count k (r ∷ []) + count k rs
count_cons k r rs = let one = sum_by-cons (λ x. cond (leads_to k x) 1 0) r rs in let alone = sum_by-cons (λ x. cond (leads_to k x) 1 0) r [] in omega (arith, one, alone)

pub count_append : (k : ℕ) (xs ys : List Ref) → count k (xs ++ ys) ≡ count k xs + count k ys
count_append k xs ys = sum_by-append (λ x. cond (leads_to k x) 1 0) xs ys

pub count_same : (k : ℕ) → count k (refs.Node k ∷ []) ≡ 1
count_same k = rw (eq-eqb k k refl) refl

pub count_flat : (k : ℕ) (xs ys : List Node) → count k (flat_map parts (xs ++ ys)) ≡ count k (flat_map parts xs) + count k (flat_map parts ys)
count_flat k xs ys = ap (count k) (flat_map-append parts xs ys) ∙ count_append k (flat_map parts xs) (flat_map parts ys)

-- the references of a container and of what the walk meets below it
pub count_full : (k : ℕ) (node : Node) (labels : List Ref) (values : List Ref) (first others : List Node) → parts node ≡ labels ++ values
    → count k (flat_map parts (node ∷ (first ++ others))) ≡ (count k labels + count k values) + (count k (flat_map parts first) + count k (flat_map parts others))
count_full k node labels values first others e =
    count_append k (parts node) (flat_map parts (first ++ others)) ∙ ap (λ (n : ℕ). n + count k (flat_map parts (first ++ others))) (ap (count k) e ∙ count_append k labels values)
    ∙ ap (λ (n : ℕ). (count k labels + count k values) + n) (count_flat k first others)

-- ---- each node that is met is named

label_named : {met c : ℕ} {new : List Node} (k : ℕ) → WalkLabel met c new → met ≤ k → k < met + length new → 1 ≤ count k (refs.Node c ∷ [])
label_named k (WalkLabel.again lt) le in_new = absurd (omega (arith, le, in_new))
label_named {met = met} k WalkLabel.symbol le in_new = let same : k ≡ met = omega (arith, le, in_new) in rw same (omega (arith, count_same met))

labels_named : {met : ℕ} {ks : List ℕ} {new : List Node} (k : ℕ) → WalkLabels met ks new → met ≤ k → k < met + length new → 1 ≤ count k (map refs.Node ks)
labels_named k WalkLabels.none le in_new = absurd (omega (arith, le, in_new))
labels_named {met = met} k (WalkLabels.more {k = c} {ks = ks} {first = first} {others = others} one rest) le in_new =
    go (λ l i. label_named k one l i) (λ l i. labels_named k rest l i) (ltb k (met + length first)) refl
  where
    go : (met ≤ k → k < met + length first → 1 ≤ count k (refs.Node c ∷ [])) → (met + length first ≤ k → k < met + length first + length others → 1 ≤ count k (map refs.Node ks))
        → (b : Bool) → ltb k (met + length first) ≡ b → 1 ≤ count k (refs.Node c ∷ map refs.Node ks)
    go in_first in_others true e = omega (arith, count_cons k (refs.Node c) (map refs.Node ks), in_first le (ltb-true k (met + length first) e))
    go in_first in_others false e = omega (arith, count_cons k (refs.Node c) (map refs.Node ks), in_others (ltb-false k (met + length first) e) (omega (arith, in_new, length-append first others)))

-- ---- parts of the induction

here_or_label : (k met class : ℕ) (new : List Node) (node : Node) → parts node ≡ refs.Node class ∷ [] → WalkLabel (suc met) class new → met ≤ k → k < met + length (node ∷ new)
    → 1 ≤ count k (refs.Node met ∷ []) + count k (flat_map parts (node ∷ new))
here_or_label k met class new node e label le in_new = go (eqb met k) refl
  where
    all : count k (flat_map parts (node ∷ new)) ≡ count k (refs.Node class ∷ []) + count k (flat_map parts new)
    all = count_append k (parts node) (flat_map parts new) ∙ ap (λ (rs : List Ref). count k rs + count k (flat_map parts new)) e

    go : (b : Bool) → eqb met k ≡ b → 1 ≤ count k (refs.Node met ∷ []) + count k (flat_map parts (node ∷ new))
    go true e = let same : met ≡ k = eqb-true met k e in rw same (omega (arith, count_same k))
    go false e = let other : met ≡ k → ⊥ = eqb-false met k e in omega (arith, all, label_named k label (omega (arith, le, other)) (omega (arith, in_new)))

container : (k met : ℕ) (node : Node) (labels values : List Ref) (first others : List Node) → parts node ≡ labels ++ values
    → (suc met ≤ k → k < suc met + length first → 1 ≤ count k labels) → (suc met + length first ≤ k → k < suc met + length first + length others → 1 ≤ count k values + count k (flat_map parts others))
    → met ≤ k → k < met + length (node ∷ (first ++ others)) → 1 ≤ count k (refs.Node met ∷ []) + count k (flat_map parts (node ∷ (first ++ others)))
container k met node labels values first others e in_labels in_values le in_new = go (eqb met k) refl
  where
    all : count k (flat_map parts (node ∷ (first ++ others))) ≡ (count k labels + count k values) + (count k (flat_map parts first) + count k (flat_map parts others))
    all = count_full k node labels values first others e

    inner : (met ≡ k → ⊥) → (b : Bool) → ltb k (suc met + length first) ≡ b → 1 ≤ count k (refs.Node met ∷ []) + count k (flat_map parts (node ∷ (first ++ others)))
    inner other true e = omega (arith, all, in_labels (omega (arith, le, other)) (ltb-true k (suc met + length first) e))
    inner other false e = omega (arith, all, in_values (ltb-false k (suc met + length first) e) (omega (arith, in_new, length-append first others)))

    go : (b : Bool) → eqb met k ≡ b → 1 ≤ count k (refs.Node met ∷ []) + count k (flat_map parts (node ∷ (first ++ others)))
    go true e = let same : met ≡ k = eqb-true met k e in rw same (omega (arith, count_same k))
    go false e = inner (eqb-false met k e) (ltb k (suc met + length first)) refl

row : (k met : ℕ) (value : Ref) (values : List Ref) (first others : List Node) → (met ≤ k → k < met + length first → 1 ≤ count k (value ∷ []) + count k (flat_map parts first))
    → (met + length first ≤ k → k < met + length first + length others → 1 ≤ count k values + count k (flat_map parts others))
    → met ≤ k → k < met + length (first ++ others) → 1 ≤ count k (value ∷ values) + count k (flat_map parts (first ++ others))
row k met value values first others in_first in_others le in_new = go (ltb k (met + length first)) refl
  where
    go : (b : Bool) → ltb k (met + length first) ≡ b → 1 ≤ count k (value ∷ values) + count k (flat_map parts (first ++ others))
    go true e = omega (arith, count_cons k value values, count_flat k first others, in_first le (ltb-true k (met + length first) e))
    go false e = omega (arith, count_cons k value values, count_flat k first others, in_others (ltb-false k (met + length first) e) (omega (arith, in_new, length-append first others)))

mutual
  pub named : {room met : ℕ} {r : Ref} {new : List Node} (k : ℕ) → Walk room met r new → met ≤ k → k < met + length new → 1 ≤ count k (r ∷ []) + count k (flat_map parts new)
  named k (Walk.word is) le in_new = absurd (omega (arith, le, in_new))
  named k (Walk.again lt) le in_new = absurd (omega (arith, le, in_new))
  named {met = met} k Walk.symbol le in_new = let same : k ≡ met = omega (arith, le, in_new) in rw same (omega (arith, count_same met))
  named {met = met} k Walk.string le in_new = let same : k ≡ met = omega (arith, le, in_new) in rw same (omega (arith, count_same met))
  named {met = met} k (Walk.binary {class = class} {bytes = bytes} {new = new} label) le in_new =
      here_or_label k met class new (nodes.Binary class bytes) refl label le in_new
  named {met = met} k (Walk.large {class = class} {bytes = bytes} {new = new} label) le in_new =
      here_or_label k met class new (nodes.Large class bytes) refl label le in_new
  named {met = met} k (Walk.frame {tags = tags} {values = values} {tagged = tagged} {valued = valued} labels walks) le in_new =
      container k met (nodes.Frame tags values) (map refs.Node tags) values tagged valued refl (λ l i. labels_named k labels l i) (λ l i. named_all k walks l i) le in_new
  named {met = met} k (Walk.plain_array {values = values} {valued = valued} walks) le in_new =
      container k met (nodes.Array None values) [] values [] valued refl (λ l i. absurd (omega (arith, l, i))) (λ l i. named_all k walks (omega (arith, l)) (omega (arith, i))) le in_new
  named {met = met} k (Walk.array {class = class} {values = values} {first = first} {valued = valued} label walks) le in_new =
      container k met (nodes.Array (Some class) values) (refs.Node class ∷ []) values first valued refl (λ l i. label_named k label l i) (λ l i. named_all k walks l i) le in_new

  pub named_all : {room met : ℕ} {rs : List Ref} {new : List Node} (k : ℕ) → Walks room met rs new → met ≤ k → k < met + length new → 1 ≤ count k rs + count k (flat_map parts new)
  named_all k Walks.none le in_new = absurd (omega (arith, le, in_new))
  named_all {met = met} k (Walks.more {value = value} {values = values} {first = first} {others = others} one rest) le in_new =
      row k met value values first others (λ l i. named k one l i) (λ l i. named_all k rest l i) le in_new
