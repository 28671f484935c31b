-- The symbol of a name among the nodes of a graph: one that is there, or a new one after them.
use Rattle.std.proofs.Common.{◌≡◌, ℕ, suc, ◌+◌, ◌≤◌, List, [], ◌∷◌, ◌++◌, length, map, Bool, true, false, Option, Some, None, refl, sym, ap, subst, ◌∙◌, arith, cond, eqb, append_assoc, inl, inr, ◌⊎◌}
use Rattle.std.specs.Prelude.{slice_get}
use Rattle.std.specs.List.{position_from, sum_by}
use Rattle.std.proofs.lemmas.Iterator.Adapters.{position_from-zero}
use Rattle.std.proofs.lemmas.Bool.{eq-eqb, ne_eqb, lt-ltb, false_from_ne_true}
use Rattle.std.proofs.lemmas.List.{append-nil, length_push}
use Rattle.std.proofs.lemmas.List.Sums.{sum_by_push}
use Rattle.std.proofs.lemmas.Option.{slice_get_within}
use Rattle.newt_graph.specs.declared.node.Node.{Node}
use Rattle.newt_graph.specs.declared.node.Node.TheVariants.{Symbol}
use Rattle.newt_graph.specs.Graph.{IsAlike, AreFoldedOnce, payload}
use Rattle.newt_graph.specs.Draft.{find_alike, known, with_symbol}
use Rattle.newt_spec_graph.specs.Slots.{is_named, symbol_number, new_nodes}
use Rattle.newt_graph.proofs.Options.{some_is}
use Rattle.newt_graph.proofs.Elements.{get_seam}
use Rattle.newt_graph.proofs.Drafts.{none_alike}
use Rattle.newt_path.proofs.Numbers.{found_is_number, alike_named, alike_from_named, number_alike}

-- the nodes with the symbol of this name
abbrev pub named : List Node → List ℕ → List Node
named nodes name = nodes ++ map (λ k. k.1) (new_nodes nodes (Symbol name ∷ []))

-- what is known of them and of the symbol's number
pub record IsNamedBy (nodes : List Node) (name : List ℕ) (tag : ℕ) : Type 0 where
  pub made : with_symbol nodes name ≡ Some (tag, named nodes name)
  pub all : (named nodes name ≡ nodes) ⊎ (named nodes name ≡ nodes ++ Symbol name ∷ [])
  pub alike : IsAlike (named nodes name) tag name
  pub first : (later : List Node) → symbol_number (named nodes name ++ later) name ≡ Some tag
  pub only : (t : ℕ) (other : List ℕ) → slice_get nodes t ≡ Some (Symbol other) → is_named name (Some (Symbol other)) ≡ eqb t tag

abbrev bears : List ℕ → Node → Bool
bears name node = is_named name (Some node)

found_before : {X : Type 0} (p : X → Bool) (i k : ℕ) (xs ys : List X) → position_from p i xs ≡ Some k → position_from p i (xs ++ ys) ≡ Some k
found_before p i k [] ys e = absurd cc
found_before p i k (x ∷ xs) ys e = by (λ e. found_before p (i + 1) k xs ys e) (p x) refl e
  where
    by : (position_from p (i + 1) xs ≡ Some k → position_from p (i + 1) (xs ++ ys) ≡ Some k)
        → (b : Bool) → p x ≡ b → cond b (Some i) (position_from p (i + 1) xs) ≡ Some k → position_from p i (x ∷ (xs ++ ys)) ≡ Some k
    by rest true is e = rw is e
    by rest false is e = rw is (rest e)

found_after : {X : Type 0} (p : X → Bool) (i : ℕ) (xs : List X) (y : X) (ys : List X) → position_from p i xs ≡ None → p y ≡ true → position_from p i (xs ++ y ∷ ys) ≡ Some (i + length xs)
found_after p i [] y ys e is = let sum : i ≡ i + 0 = omega arith in rw is (ap (λ (m : ℕ). Some m) sum)
found_after p i (x ∷ xs) y ys e is = by (λ e. found_after p (i + 1) xs y ys e is) (p x) refl e
  where
    sum : i + 1 + length xs ≡ i + suc (length xs)
    sum = omega arith

    by : (position_from p (i + 1) xs ≡ None → position_from p (i + 1) (xs ++ y ∷ ys) ≡ Some (i + 1 + length xs))
        → (b : Bool) → p x ≡ b → cond b (Some i) (position_from p (i + 1) xs) ≡ None → position_from p i (x ∷ (xs ++ y ∷ ys)) ≡ Some (i + suc (length xs))
    by rest true at e = absurd cc
    by rest false at e = rw at (rest e ∙ ap (λ (m : ℕ). Some m) sum)

number_from : (nodes : List Node) (name : List ℕ) → symbol_number nodes name ≡ position_from (bears name) 0 nodes
number_from nodes name = position_from-zero (bears name) nodes

self_named : (name : List ℕ) → bears name (Symbol name) ≡ true
self_named name = alike_named name name refl

named_old : (nodes : List Node) (name : List ℕ) (k : ℕ) → AreFoldedOnce nodes → symbol_number nodes name ≡ Some k → IsNamedBy nodes name k
unfolding with_symbol
named_old nodes name k once e =
    let found : find_alike name nodes ≡ Some k = found_is_number name nodes ∙ e in
    let none : map (λ m. m.1) (new_nodes nodes (Symbol name ∷ [])) ≡ [] = rw found refl in
    let same : named nodes name ≡ nodes = ap (λ (ns : List Node). nodes ++ ns) none ∙ append-nil nodes in
    let here : IsAlike nodes k name = number_alike nodes name k e in
    record {
      made = ap (known nodes name) found ∙ ap (λ (ns : List Node). Some (k, ns)) (sym same);
      all = inl same;
      alike = subst (λ (ns : List Node). IsAlike ns k name) (sym same) here;
      first = λ later. subst (λ (ns : List Node). symbol_number (ns ++ later) name ≡ Some k) (sym same)
          (number_from (nodes ++ later) name ∙ found_before (bears name) 0 k nodes later (sym (number_from nodes name) ∙ e));
      only = λ t other at. only here t other at (bears name (Symbol other)) refl;
    }
  where
    only : IsAlike nodes k name → (t : ℕ) (other : List ℕ) → slice_get nodes t ≡ Some (Symbol other) → (b : Bool) → bears name (Symbol other) ≡ b → bears name (Symbol other) ≡ eqb t k
    only here t other at true is =
        let a = alike_from_named nodes t name (Symbol other) at is in
        is ∙ sym (eq-eqb t k (sym (once k t here.0 here.1 (a.0, a.1, a.2 ∙ sym here.2))))
    only here t other at false is = is ∙ sym (ne_eqb t k (λ same. clash (sym is ∙ bears_it same)))
      where
        bears_it : t ≡ k → bears name (Symbol other) ≡ true
        bears_it same =
            let one : Symbol other ≡ Symbol here.0 = some_is (sym at ∙ (ap (λ (m : ℕ). slice_get nodes m) same ∙ here.1)) in
            ap (bears name) one ∙ alike_named name here.0 here.2

        clash : false ≡ true → ⊥
        clash e = absurd cc

named_new : (nodes : List Node) (name : List ℕ) → length nodes ≤ 65535 → symbol_number nodes name ≡ None → IsNamedBy nodes name (length nodes)
unfolding with_symbol
named_new nodes name few e =
    let found : find_alike name nodes ≡ None = found_is_number name nodes ∙ e in
    let new : map (λ m. m.1) (new_nodes nodes (Symbol name ∷ [])) ≡ Symbol name ∷ [] = rw found refl in
    let all : named nodes name ≡ nodes ++ Symbol name ∷ [] = ap (λ (ns : List Node). nodes ++ ns) new in
    let sum : 0 + length nodes ≡ length nodes = omega arith in
    let room : known nodes name None ≡ Some (length nodes, nodes ++ Symbol name ∷ []) = rw (lt-ltb (length nodes) 131072 (omega (arith, few))) refl in
    record {
      made = ap (known nodes name) found ∙ (room ∙ ap (λ (ns : List Node). Some (length nodes, ns)) (sym all));
      all = inr all;
      alike = subst (λ (ns : List Node). IsAlike ns (length nodes) name) (sym all) (name, get_seam nodes (Symbol name) [], refl);
      first = λ later. subst (λ (ns : List Node). symbol_number (ns ++ later) name ≡ Some (length nodes)) (sym all)
          (subst (λ (ns : List Node). symbol_number ns name ≡ Some (length nodes)) (sym (append_assoc nodes (Symbol name ∷ []) later))
          (number_from (nodes ++ Symbol name ∷ later) name ∙ found_after (bears name) 0 nodes (Symbol name) later (sym (number_from nodes name) ∙ e) (self_named name) ∙ ap (λ (m : ℕ). Some m) sum));
      only = λ t other at.
          false_from_ne_true (bears name (Symbol other)) (λ is. none_alike nodes name found t (alike_from_named nodes t name (Symbol other) at is))
          ∙ sym (ne_eqb t (length nodes) (λ same. omega (arith, same, slice_get_within nodes t (Symbol other) at)));
    }

pub named_is : (nodes : List Node) (name : List ℕ) → length nodes ≤ 65535 → AreFoldedOnce nodes → (tag : ℕ) × IsNamedBy nodes name tag
named_is nodes name few once = by (symbol_number nodes name) refl
  where
    by : (o : Option ℕ) → symbol_number nodes name ≡ o → (tag : ℕ) × IsNamedBy nodes name tag
    by (Some k) e = (k, named_old nodes name k once e)
    by None e = (length nodes, named_new nodes name few e)

pub record IsSmallMore (nodes more : List Node) : Type 0 where
  pub few : length more ≤ length nodes + 1
  pub light : sum_by payload more ≤ sum_by payload nodes

pub named_small : (nodes : List Node) (name : List ℕ) (tag : ℕ) → IsNamedBy nodes name tag → IsSmallMore nodes (named nodes name)
named_small nodes name tag by = elim by.all [
  | inl same ↦ subst (IsSmallMore nodes) (sym same) (record { few = omega arith; light = omega arith })
  | inr more ↦ subst (IsSmallMore nodes) (sym more) (record {
    few = omega (arith, length_push nodes (Symbol name));
    light = omega (arith, sum_by_push payload nodes (Symbol name));
  })
]
