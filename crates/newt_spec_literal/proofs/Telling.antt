-- A graph in normal form is walked so: what stands at each place, and a label for each object that
-- is met again.
use Rattle.std.proofs.Common.{◌≡◌, ℕ, zero, suc, ◌+◌, ◌-◌, ◌<◌, ◌≤◌, Bool, true, false, cond, eqb, ltb, List, [], ◌∷◌, ◌++◌, length, map, Option, Some, None, refl, sym, ap, ◌∙◌, subst, arith, inl, inr, add-zero}
use Rattle.std.specs.Prelude.{slice_get, flat_map}
use Rattle.std.proofs.lemmas.Bool.{lt-ltb, ltb-true, ltb-false, eqb-true, eqb-false}
use Rattle.std.proofs.lemmas.List.{length-append}
use Rattle.std.proofs.lemmas.Option.{slice_get_cases}
use Rattle.newt_graph.specs.declared.node.Node.{Node}
use Rattle.newt_graph.specs.declared.node.Node.TheVariants as nodes
use Rattle.newt_graph.specs.declared.node.Ref.{Ref}
use Rattle.newt_graph.specs.declared.node.Ref.TheVariants as refs
use Rattle.newt_graph.specs.Graph.{IsNamed, IsSymbol, WalkLabel, WalkLabels, Walk, Walks, IsNode}
use Rattle.newt_spec_literal.specs.Printed.{is_symbol, label_of}
use Rattle.newt_spec_literal.proofs.Lists.{get_right, get_either}
use Rattle.newt_graph.proofs.Options.{some_is}
use Rattle.newt_graph.proofs.Elements.{get_append}
use Rattle.newt_spec_literal.proofs.Walked.{Between, Told, Full, ToldAll, parts, count, count_cons, count_flat, count_full, count_same, named}

-- nodes that meet their rules, and a label for each object that is named more than once
pub record AreLabelled (graph : List Node) (labels : List (Option ℕ)) (total : ℕ → ℕ) : Type 0 where
  pub each : (k : ℕ) (node : Node) → slice_get graph k ≡ Some node → IsNode graph node
  pub label : (k : ℕ) (node : Node) → slice_get graph k ≡ Some node → is_symbol node ≡ false → 1 < total k → (l : ℕ) × (label_of labels k ≡ Some l)

abbrev below : ℕ → ℕ → ℕ
below k met = cond (ltb k met) 1 0

-- These nodes are what the walk meets anew from these references. An object that was met before is
-- named more often than in them.
pub record Placed (graph : List Node) (total : ℕ → ℕ) (met : ℕ) (rs : List Ref) (new : List Node) : Type 0 where
  pub here : (i : ℕ) (node : Node) → slice_get new i ≡ Some node → slice_get graph (met + i) ≡ Some node
  pub whole : met + length new ≤ length graph
  pub spare : (k : ℕ) (node : Node) → slice_get graph k ≡ Some node → is_symbol node ≡ false → below k met + (count k rs + count k (flat_map parts new)) ≤ total k

-- ---- symbols

pub symbol_is : (node : Node) → is_symbol node ≡ true → (name : List ℕ) × (node ≡ nodes.Symbol name)
symbol_is (nodes.Symbol name) e = (name, refl)
symbol_is (nodes.Str units) e = absurd cc
symbol_is (nodes.Binary class bytes) e = absurd cc
symbol_is (nodes.Large class bytes) e = absurd cc
symbol_is (nodes.Array class values) e = absurd cc
symbol_is (nodes.Frame tags values) e = absurd cc

AreSymbols : List Node → Type 0
AreSymbols new = (i : ℕ) (node : Node) → slice_get new i ≡ Some node → (name : List ℕ) × (node ≡ nodes.Symbol name)

label_symbols : {met c : ℕ} {new : List Node} → WalkLabel met c new → AreSymbols new
unfolding AreSymbols
label_symbols (WalkLabel.again lt) i node e = absurd cc
label_symbols (WalkLabel.symbol {name = name}) zero node e = (name, cc)
label_symbols (WalkLabel.symbol {name = name}) (suc i) node e = absurd cc

labels_symbols : {met : ℕ} {ks : List ℕ} {new : List Node} → WalkLabels met ks new → AreSymbols new
unfolding AreSymbols
labels_symbols WalkLabels.none i node e = absurd cc
labels_symbols (WalkLabels.more {first = first} {others = others} one rest) i node e = elim (get_either first others i node e) [
  | inl h ↦ label_symbols one i node h
  | inr h ↦ labels_symbols rest h.0 node h.2
]

between : (graph : List Node) (from : ℕ) (new : List Node) → AreSymbols new → ((i : ℕ) (node : Node) → slice_get new i ≡ Some node → slice_get graph (from + i) ≡ Some node) → Between graph from (from + length new)
unfolding AreSymbols
between graph from new symbols here = record {
  le = omega arith;
  symbols = λ k le lt.
      let there = (slice_get_cases new (k - from)).1 in
      elim there [
        | inl h ↦
            let s = symbols (k - from) h.0 h.2 in
            let place : from + (k - from) ≡ k = omega (arith, le) in
            (s.0, subst (λ (j : ℕ). slice_get graph j ≡ Some (nodes.Symbol s.0)) place (here (k - from) (nodes.Symbol s.0) (h.2 ∙ ap (λ (x : Node). Some x) s.1)))
        | inr h ↦ absurd (omega (arith, h.0, le, lt))
      ];
}

not_symbol : (graph : List Node) (k : ℕ) (node : Node) → slice_get graph k ≡ Some node → is_symbol node ≡ false → IsSymbol graph k → ⊥
not_symbol graph k node here object named = let same : node ≡ nodes.Symbol named.0 = cc in let wrong : true ≡ false = sym (ap is_symbol same) ∙ object in absurd cc

shifted : (graph : List Node) (met i : ℕ) (x : Node) → slice_get graph (met + suc i) ≡ Some x → slice_get graph (suc met + i) ≡ Some x
shifted graph met i x h = let place : met + suc i ≡ suc met + i = omega arith in subst (λ (j : ℕ). slice_get graph j ≡ Some x) place h

-- ---- parts of the walk

-- an object without values, and its class
record Leaf (graph : List Node) (met : ℕ) (node : Node) (after : ℕ) : Type 0 where
  here : slice_get graph met ≡ Some node
  class : Between graph (met + 1) after

leaf : (graph : List Node) (total : ℕ → ℕ) (met : ℕ) (node : Node) (new : List Node) → AreSymbols new → Placed graph total met (refs.Node met ∷ []) (node ∷ new) → (after : ℕ) → after ≡ met + length (node ∷ new) → Leaf graph met node after
leaf graph total met node new symbols p after e =
    let b = between graph (suc met) new symbols (λ i x h. shifted graph met i x (p.here (suc i) x h)) in
    let one : suc met ≡ met + 1 = omega arith in
    let end : suc met + length new ≡ after = omega (arith, e) in
    record {
      here = subst (λ (j : ℕ). slice_get graph j ≡ Some node) (add-zero met) (p.here 0 node refl);
      class = subst (λ (j : ℕ). Between graph j after) one (subst (λ (j : ℕ). Between graph (suc met) j) end b);
    }

-- what a container holds
record Inside (graph : List Node) (total : ℕ → ℕ) (met : ℕ) (node : Node) (first : List Node) (values : List Ref) (others : List Node) : Type 0 where
  here : slice_get graph met ≡ Some node
  tags : Between graph (met + 1) (suc met + length first)
  rest : Placed graph total (suc met + length first) values others

-- where each number between is named
below_le : (k met then c : ℕ) → (met ≤ k → k < then → 1 ≤ c) → below k then ≤ below k met + c
below_le k met then c named = go (ltb k then) refl
  where
    inner : k < then → (b : Bool) → ltb k met ≡ b → 1 ≤ below k met + c
    inner lt true e = rw e (omega arith)
    inner lt false e = omega (arith, named (ltb-false k met e) lt)

    go : (b : Bool) → ltb k then ≡ b → below k then ≤ below k met + c
    go true e = rw e (inner (ltb-true k then e) (ltb k met) refl)
    go false e = rw e (omega arith)

inside : (graph : List Node) (total : ℕ → ℕ) (met : ℕ) (node : Node) (labels values : List Ref) (first others : List Node) → parts node ≡ labels ++ values → AreSymbols first
    → Placed graph total met (refs.Node met ∷ []) (node ∷ (first ++ others)) → Inside graph total met node first values others
inside graph total met node labels values first others e symbols p =
    let here : slice_get graph met ≡ Some node = subst (λ (j : ℕ). slice_get graph j ≡ Some node) (add-zero met) (p.here 0 node refl) in
    let tags : Between graph (suc met) (suc met + length first) = symbols_there in
    record {
      here = here;
      tags = let one : suc met ≡ met + 1 = omega arith in subst (λ (j : ℕ). Between graph j (suc met + length first)) one tags;
      rest = record {
        here = λ i x h.
            let place : met + suc (length first + i) ≡ suc met + length first + i = omega arith in
            subst (λ (j : ℕ). slice_get graph j ≡ Some x) place (p.here (suc (length first + i)) x (get_right first others i ∙ h));
        whole = omega (arith, p.whole, length-append first others);
        spare = λ k x there object.
            let all = count_full k node labels values first others e in
            let more : below k (suc met + length first) ≤ below k met + count k (refs.Node met ∷ []) = below_le k met (suc met + length first) (count k (refs.Node met ∷ [])) (λ le lt. step k x there object le lt (eqb met k) refl) in
            omega (arith, all, more, p.spare k x there object);
      };
    }
  where
    symbols_there : Between graph (suc met) (suc met + length first)
    symbols_there = between graph (suc met) first symbols (λ i x h. shifted graph met i x (p.here (suc i) x (get_append first others i x h)))

    step : (k : ℕ) (x : Node) → slice_get graph k ≡ Some x → is_symbol x ≡ false → met ≤ k → k < suc met + length first → (b : Bool) → eqb met k ≡ b → 1 ≤ count k (refs.Node met ∷ [])
    step k x there object le lt true e = let same : met ≡ k = eqb-true met k e in rw same (omega (arith, count_same k))
    step k x there object le lt false e = let other : met ≡ k → ⊥ = eqb-false met k e in absurd (not_symbol graph k x there object (symbols_there.symbols k (omega (arith, le, other)) lt))

-- a row of values
record Row (graph : List Node) (total : ℕ → ℕ) (met : ℕ) (value : Ref) (values : List Ref) (first others : List Node) : Type 0 where
  one : Placed graph total met (value ∷ []) first
  rest : Placed graph total (met + length first) values others

row : (graph : List Node) (total : ℕ → ℕ) (room met : ℕ) (value : Ref) (values : List Ref) (first others : List Node) → Walk room met value first
    → Placed graph total met (value ∷ values) (first ++ others) → Row graph total met value values first others
row graph total room met value values first others walk p = record {
  one = record {
    here = λ i x h. p.here i x (get_append first others i x h);
    whole = omega (arith, p.whole, length-append first others);
    spare = λ k x there object. omega (arith, p.spare k x there object, count_cons k value values, count_flat k first others);
  };
  rest = record {
    here = λ i x h.
        let place : met + (length first + i) ≡ met + length first + i = omega arith in
        subst (λ (j : ℕ). slice_get graph j ≡ Some x) place (p.here (length first + i) x (get_right first others i ∙ h));
    whole = omega (arith, p.whole, length-append first others);
    spare = λ k x there object.
        let more : below k (met + length first) ≤ below k met + (count k (value ∷ []) + count k (flat_map parts first)) =
        below_le k met (met + length first) (count k (value ∷ []) + count k (flat_map parts first)) (λ le lt. named k walk le lt) in
        omega (arith, more, p.spare k x there object, count_cons k value values, count_flat k first others);
  };
}

-- ---- the walk told

module _ (graph : List Node) (labels : List (Option ℕ)) (total : ℕ → ℕ) (is : AreLabelled graph labels total) where
  -- a node that was met before
  met_again : (room met k : ℕ) → k < met → Placed graph total met (refs.Node k ∷ []) [] → Told graph labels room met (refs.Node k) met
  met_again room met k lt p = elim (slice_get_cases graph k).1 [
    | inl h ↦ go h.0 h.2 (is_symbol h.0) refl
    | inr h ↦ absurd (omega (arith, h.0, lt, p.whole))
  ]
    where
      none_between : Between graph met met
      none_between = record { le = omega arith; symbols = λ j le lt. absurd (omega (arith, le, lt)) }

      go : (node : Node) → slice_get graph k ≡ Some node → (b : Bool) → is_symbol node ≡ b → Told graph labels room met (refs.Node k) met
      go node here true e = let s = symbol_is node e in Told.symbol (here ∙ ap (λ (x : Node). Some x) s.1) none_between
      go node here false e =
          let before : below k met ≡ 1 = rw (lt-ltb k met lt) refl in
          let often : 1 < total k = omega (arith, p.spare k node here e, before, count_same k) in
          let l = is.label k node here e often in
          Told.again lt here e l.1

  mutual
    pub told : {room met : ℕ} {r : Ref} {new : List Node} → Walk room met r new → Placed graph total met (r ∷ []) new → (after : ℕ) → after ≡ met + length new → Told graph labels room met r after
    told {room = room} {met = met} (Walk.word {w = w} word) p after e = subst (λ (n : ℕ). Told graph labels room met (refs.Imm w) n) (sym (e ∙ add-zero met)) (Told.word word)
    told {room = room} {met = met} (Walk.again {k = k} lt) p after e = subst (λ (n : ℕ). Told graph labels room met (refs.Node k) n) (sym (e ∙ add-zero met)) (met_again room met k lt p)
    told {room = room} {met = met} (Walk.symbol {name = name}) p after e =
        let b = between graph met (nodes.Symbol name ∷ []) (label_symbols (WalkLabel.symbol {met = met})) p.here in
        Told.symbol (subst (λ (j : ℕ). IsNamed graph j name) (add-zero met) (p.here 0 (nodes.Symbol name) refl)) (subst (λ (n : ℕ). Between graph met n) (sym e) b)
    told {room = room} {met = met} (Walk.string {units = units}) p after e =
        let here : slice_get graph met ≡ Some (nodes.Str units) = subst (λ (j : ℕ). slice_get graph j ≡ Some (nodes.Str units)) (add-zero met) (p.here 0 (nodes.Str units) refl) in
        Told.object here (Full.string (is.each met (nodes.Str units) here) e)
    told {room = room} {met = met} (Walk.binary {class = class} {bytes = bytes} {new = new} label) p after e =
        let l = leaf graph total met (nodes.Binary class bytes) new (label_symbols label) p after e in
        let rules = is.each met (nodes.Binary class bytes) l.here in
        Told.object l.here (Full.binary rules.0 rules.1 l.class)
    told {room = room} {met = met} (Walk.large {class = class} {bytes = bytes} {new = new} label) p after e =
        let l = leaf graph total met (nodes.Large class bytes) new (label_symbols label) p after e in
        let rules = is.each met (nodes.Large class bytes) l.here in
        Told.object l.here (Full.large rules.0 rules.1 l.class)
    told {met = met} (Walk.frame {room = room} {tags = tags} {values = values} {tagged = tagged} {valued = valued} walked walks) p after e =
        let i = inside graph total met (nodes.Frame tags values) (map refs.Node tags) values tagged valued refl (labels_symbols walked) p in
        Told.object i.here (Full.frame (suc met + length tagged) (is.each met (nodes.Frame tags values) i.here) i.tags (told_all walks i.rest after (omega (arith, e, length-append tagged valued))))
    told {met = met} (Walk.plain_array {room = room} {values = values} {valued = valued} walks) p after e =
        let i = inside graph total met (nodes.Array None values) [] values [] valued refl (labels_symbols (WalkLabels.none {met = met})) p in
        let mid : suc met + 0 ≡ suc met = add-zero (suc met) in
        Told.object i.here (Full.array (suc met) (λ k same. absurd cc) (is.each met (nodes.Array None values) i.here) (subst (λ (n : ℕ). Between graph (met + 1) n) mid i.tags)
        (told_all walks (subst (λ (n : ℕ). Placed graph total n values valued) mid i.rest) after (omega (arith, e))))
    told {met = met} (Walk.array {room = room} {class = class} {values = values} {first = first} {valued = valued} label walks) p after e =
        let i = inside graph total met (nodes.Array (Some class) values) (refs.Node class ∷ []) values first valued refl (label_symbols label) p in
        let rules = is.each met (nodes.Array (Some class) values) i.here in
        Told.object i.here (Full.array (suc met + length first) (λ k same. subst (λ (j : ℕ). IsSymbol graph j) (some_is same) rules.0) rules.1 i.tags (told_all walks i.rest after (omega (arith, e, length-append first valued))))

    told_all : {room met : ℕ} {rs : List Ref} {new : List Node} → Walks room met rs new → Placed graph total met rs new → (after : ℕ) → after ≡ met + length new → ToldAll graph labels room met rs after
    told_all {room = room} {met = met} Walks.none p after e = subst (λ (n : ℕ). ToldAll graph labels room met [] n) (sym (e ∙ add-zero met)) ToldAll.none
    told_all {room = room} {met = met} (Walks.more {value = value} {values = values} {first = first} {others = others} one rest) p after e =
        let r = row graph total room met value values first others one p in
        ToldAll.more (met + length first) (told one r.one (met + length first) refl) (told_all rest r.rest after (omega (arith, e, length-append first others)))
