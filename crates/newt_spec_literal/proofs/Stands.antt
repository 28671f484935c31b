-- What a text has written down of a graph, in the order of the text.
use Rattle.std.proofs.Common.{◌≡◌, ℕ, suc, ◌<◌, ◌≤◌, Bool, true, false, ltb, eqb, List, [], ◌∷◌, ◌++◌, length, get_or, set, Option, Some, refl, sym, ap, ◌∙◌, subst, arith, inl, inr, ◌⊎◌}
use Rattle.std.specs.Prelude.{slice_get, ◌||◌}
use Rattle.std.specs.List.{list_any, IsDistinct}
use Rattle.std.proofs.lemmas.Bool.{ltb-true, ltb-false, ne_eqb, eqb-true}
use Rattle.std.proofs.lemmas.List.{length_push, length-set}
use Rattle.std.proofs.lemmas.Option.{slice_get-get_or}
use Rattle.std.proofs.lemmas.Map.Keys.{IsDistinct-from_apart}
use Rattle.std.proofs.lemmas.Map.Steps.{length-le_from_distinct_below}
use Rattle.newt_graph.specs.declared.node.Node.{Node}
use Rattle.newt_graph.specs.declared.node.Node.TheVariants as nodes
use Rattle.newt_graph.specs.Graph.{IsNamed, IsSymbol}
use Rattle.newt_spec_literal.specs.Built.{Built, node_of}
use Rattle.newt_spec_literal.specs.Printed.{is_symbol, label_of}
use Rattle.newt_graph.proofs.Elements.{get_append}
use Rattle.newt_spec_literal.proofs.Lists.{get_last, get_split, get_set, get_kept}
use Rattle.newt_spec_literal.proofs.Images.{NodeStands}
use Rattle.newt_spec_literal.proofs.Walked.{Between}

-- the text has met these nodes of the graph, in this order
pub record Order (graph : List Node) (seen : List ℕ) (built : List Node) : Type 0 where
  pub same : length built ≡ length seen
  pub symbols : (p k : ℕ) (name : List ℕ) → slice_get seen p ≡ Some k → IsNamed graph k name → slice_get built p ≡ Some (nodes.Symbol name)
  pub names : (p : ℕ) (name : List ℕ) → slice_get built p ≡ Some (nodes.Symbol name) → (k : ℕ) × (slice_get seen p ≡ Some k) × IsNamed graph k name
  pub apart : (p q k : ℕ) → slice_get seen p ≡ Some k → slice_get seen q ≡ Some k → p ≡ q
  pub there : (p k : ℕ) → slice_get seen p ≡ Some k → k < length graph

-- Of those that are open it has only the place. The walk has met so many, of which the text may
-- have met fewer symbols, or more. Labels stand for the objects that have one.
pub record Stands (graph : List Node) (labels : List (Option ℕ)) (met : ℕ) (seen open_nodes : List ℕ) (b : Built) : Type 0 where
  pub order : Order graph seen b.nodes
  pub each : (p k : ℕ) (node : Node) → slice_get seen p ≡ Some k → slice_get b.nodes p ≡ Some node → list_any (eqb k) open_nodes ≡ false → (x : Node) × (slice_get graph k ≡ Some x) × NodeStands seen node x
  pub below : (p k : ℕ) → slice_get seen p ≡ Some k → (k < met) ⊎ IsSymbol graph k
  pub covers : (k : ℕ) (node : Node) → k < met → slice_get graph k ≡ Some node → is_symbol node ≡ false → (p : ℕ) × (slice_get seen p ≡ Some k)
  pub given : (k l : ℕ) (node : Node) → k < met → slice_get graph k ≡ Some node → is_symbol node ≡ false → label_of labels k ≡ Some l → (q : ℕ) × (node_of l b.labels ≡ Some q) × (slice_get seen q ≡ Some k)
  pub only : (l q : ℕ) → node_of l b.labels ≡ Some q → (k : ℕ) × (label_of labels k ≡ Some l) × (k < met)

pub no_symbol : (graph : List Node) (k : ℕ) (node : Node) (name : List ℕ) → slice_get graph k ≡ Some node → is_symbol node ≡ false → IsNamed graph k name → ⊥
no_symbol graph k node name here object named = let same : node ≡ nodes.Symbol name = cc in let wrong : true ≡ false = sym (ap is_symbol same) ∙ object in absurd cc

-- the walk has met further symbols
pub raise : (graph : List Node) (labels : List (Option ℕ)) (met then : ℕ) (seen open_nodes : List ℕ) (b : Built) → Between graph met then → Stands graph labels met seen open_nodes b → Stands graph labels then seen open_nodes b
raise graph labels met then seen open_nodes b more s = record {
  order = s.order;
  each = s.each;
  below = λ p k e. elim (s.below p k e) [ inl lt ↦ inl (omega (arith, lt, more.le)) | inr named ↦ inr named ];
  covers = λ k node lt here object. s.covers k node (old k node lt here object (ltb k met) refl) here object;
  given = λ k l node lt here object label. s.given k l node (old k node lt here object (ltb k met) refl) here object label;
  only = λ l q e. let o = s.only l q e in (o.0, o.1, omega (arith, o.2, more.le));
}
  where
    old : (k : ℕ) (node : Node) → k < then → slice_get graph k ≡ Some node → is_symbol node ≡ false → (t : Bool) → ltb k met ≡ t → k < met
    old k node lt here object true e = ltb-true k met e
    old k node lt here object false e = let s = more.symbols k (ltb-false k met e) lt in absurd (no_symbol graph k node s.0 here object s.1)

-- ---- a list of distinct numbers below n is no longer than n

pub any_at : (q : ℕ) (xs : List ℕ) → list_any (eqb q) xs ≡ true → (p : ℕ) × (slice_get xs p ≡ Some q)
any_at q [] e = absurd cc
any_at q (x ∷ xs) e = go (λ e. any_at q xs e) (eqb q x) refl e
  where
    go : (list_any (eqb q) xs ≡ true → (p : ℕ) × (slice_get xs p ≡ Some q)) → (t : Bool) → eqb q x ≡ t → (t || list_any (eqb q) xs) ≡ true → (p : ℕ) × (slice_get (x ∷ xs) p ≡ Some q)
    go others true is e = (0, ap (λ (n : ℕ). Some n) (sym (eqb-true q x is)))
    go others false is e = let o = others e in (suc o.0, o.1)

pub few : (seen : List ℕ) (n : ℕ) → ((p q k : ℕ) → slice_get seen p ≡ Some k → slice_get seen q ≡ Some k → p ≡ q) → ((p k : ℕ) → slice_get seen p ≡ Some k → k < n) → length seen ≤ n
few seen n apart there =
    let distinct : IsDistinct eqb seen = IsDistinct-from_apart eqb seen (λ i j d lt in_list.
    ne_eqb _ _ (λ same.
    let first : slice_get seen i ≡ Some (get_or seen j d) = slice_get-get_or seen i d (omega (arith, lt, in_list)) ∙ ap (λ (x : ℕ). Some x) same in
    let second : slice_get seen j ≡ Some (get_or seen j d) = slice_get-get_or seen j d in_list in
    let e : i ≡ j = apart i j (get_or seen j d) first second in
    omega (arith, e, lt))) in
    length-le_from_distinct_below seen n distinct (λ q e. let p = any_at q seen e in there p.0 q p.1)

-- ---- one more node

pub order_pushed : (graph : List Node) (seen : List ℕ) (built : List Node) (k : ℕ) (cell : Node) → Order graph seen built → ((p : ℕ) → slice_get seen p ≡ Some k → ⊥) → k < length graph
    → ((name : List ℕ) → IsNamed graph k name → cell ≡ nodes.Symbol name) → ((name : List ℕ) → cell ≡ nodes.Symbol name → IsNamed graph k name) → Order graph (seen ++ k ∷ []) (built ++ cell ∷ [])
order_pushed graph seen built k cell o fresh inside symbol name = record {
  same = omega (arith, length_push built cell, length_push seen k, o.same);
  symbols = λ p j other e named. elim (get_split seen k j p e) [
    | inl old ↦ get_append built (cell ∷ []) p (nodes.Symbol other) (o.symbols p j other old named)
    | inr last ↦ subst (λ (p : ℕ). slice_get (built ++ cell ∷ []) p ≡ Some (nodes.Symbol other)) (sym (last.0 ∙ sym o.same))
        (get_last built cell ∙ ap (λ (c : Node). Some c) (symbol other (subst (λ (j : ℕ). IsNamed graph j other) (sym last.1) named)))
  ];
  names = λ p other e. elim (get_split built cell (nodes.Symbol other) p e) [
    | inl old ↦ let n = o.names p other old in (n.0, get_append seen (k ∷ []) p n.0 n.1, n.2)
    | inr last ↦ (k, subst (λ (p : ℕ). slice_get (seen ++ k ∷ []) p ≡ Some k) (sym (last.0 ∙ o.same)) (get_last seen k), name other last.1)
  ];
  apart = λ p q j first second. elim (get_split seen k j p first) [
    | inl old ↦ elim (get_split seen k j q second) [
      | inl also ↦ o.apart p q j old also
      | inr last ↦ absurd (fresh p (old ∙ ap (λ (x : ℕ). Some x) (sym last.1)))
    ]
    | inr last ↦ elim (get_split seen k j q second) [
      | inl old ↦ absurd (fresh q (old ∙ ap (λ (x : ℕ). Some x) (sym last.1)))
      | inr also ↦ last.0 ∙ sym also.0
    ]
  ];
  there = λ p j e. elim (get_split seen k j p e) [
    | inl old ↦ o.there p j old
    | inr last ↦ subst (λ (j : ℕ). j < length graph) last.1 inside
  ];
}

-- there is room for one more
pub room_left : (graph : List Node) (seen : List ℕ) (built : List Node) (k : ℕ) (cell : Node) → length graph ≤ 65535 → Order graph (seen ++ k ∷ []) (built ++ cell ∷ []) → length built < 131072
room_left graph seen built k cell limit o =
    let n : length (seen ++ k ∷ []) ≤ length graph = few (seen ++ k ∷ []) (length graph) o.apart o.there in
    omega (arith, n, limit, o.same, length_push built cell)

-- ---- a node that is filled

pub order_filled : (graph : List Node) (seen : List ℕ) (built : List Node) (n k : ℕ) (node : Node) → Order graph seen built → slice_get seen n ≡ Some k → ((name : List ℕ) → IsNamed graph k name → ⊥)
    → ((name : List ℕ) → node ≡ nodes.Symbol name → ⊥) → Order graph seen (set built n node)
order_filled graph seen built n k node o here no_name no_node = record {
  same = rw length-set o.same;
  symbols = λ p j name e named.
      get_kept built n node (nodes.Symbol name) p (λ same. no_name name (subst (λ (j : ℕ). IsNamed graph j name) (let f : Some j ≡ Some k = sym e ∙ ap (slice_get seen) same ∙ here in cc) named)) (o.symbols p j name e named);
  names = λ p name e. elim (get_set built n node (nodes.Symbol name) p e) [
    | inl old ↦ o.names p name old
    | inr new ↦ absurd (no_node name new.1)
  ];
  apart = o.apart;
  there = o.there;
}
