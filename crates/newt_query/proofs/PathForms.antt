-- The two forms of a path, and that the names of a graph's symbols are a path.
use Rattle.std.proofs.Common.{◌≡◌, ℕ, suc, ◌<◌, ◌≤◌, List, [], ◌∷◌, length, map, All, Option, Some, None, refl, sym, ap, subst, arith, cond}
use Rattle.std.specs.Prelude.{◌&&◌, codes, option_map, option_and_then, slice_get}
use Rattle.std.proofs.lemmas.List.Elements.{All-nil, All-cons}
use Rattle.newt_base.specs.Names.{same_name}
use Rattle.newt_graph.specs.declared.node.Ref.{Ref}
use Rattle.newt_graph.specs.declared.node.Ref.TheVariants.{Imm, Node as At}
use Rattle.newt_graph.specs.declared.node.Node.{Node}
use Rattle.newt_graph.specs.declared.node.Node.TheVariants.{Symbol, Str, Binary, Large, Array, Frame}
use Rattle.newt_graph.specs.Graph.{RawGraph, IsGraph, IsName, IsNode}
use Rattle.newt_graph.proofs.Elements.{all_at}
use Rattle.newt_spec_graph.specs.Graph.{object, every}
use Rattle.newt_spec_query.specs.Tags.{symbol_name, if_given}
use Rattle.newt_spec_query.specs.Spec.{path_values, path_of, or_else, within}
use Rattle.newt_path.specs.Names.{IsPath}
use Rattle.newt_tags.proofs.Looked.{name_of}

no_symbol : (nodes : List Node) (r : Ref) (vs : List Ref) → path_values nodes r ≡ Some vs → symbol_name nodes r ≡ None
no_symbol nodes r vs e = by (object nodes r) e
  where
    by : (o : Option Node)
        → (let values : Option (List Ref) = elim o [
          | Some (Array (Some class) values) ↦ cond (if_given (same_name (codes "pathExpr")) (symbol_name nodes (At class)) && within 8 values) (Some values) None
          | _ ↦ None
        ] in values ≡ Some vs)
        → name_of o ≡ None
    by None e = refl
    by (Some (Symbol name)) e = absurd cc
    by (Some (Str u)) e = refl
    by (Some (Binary c u)) e = refl
    by (Some (Large c u)) e = refl
    by (Some (Array c u)) e = refl
    by (Some (Frame c u)) e = refl

pub path_there : (nodes : List Node) (r : Ref) (vs : List Ref) → Some vs ≡ path_values nodes r → path_of nodes r ≡ every (map (symbol_name nodes) vs)
path_there nodes r vs e =
    let none : symbol_name nodes r ≡ None = no_symbol nodes r vs (sym e) in
    rw (none, ← e) refl

pub path_else : (nodes : List Node) (r : Ref) → None ≡ path_values nodes r → path_of nodes r ≡ every (map (symbol_name nodes) (r ∷ []))
path_else nodes r e = rw (← e) (by (symbol_name nodes r))
  where
    by : (o : Option (List ℕ)) → or_else (option_map (λ name. name ∷ []) o) (option_and_then (λ vs. every (map (symbol_name nodes) vs)) None) ≡ every (o ∷ [])
    by None = refl
    by (Some name) = refl

-- ---- the names of symbols

-- the symbols of a graph have names
pub symbol_is_name : (g : RawGraph) → IsGraph g → (r : Ref) (name : List ℕ) → symbol_name g.nodes r ≡ Some name → IsName name
symbol_is_name g graph (Imm w) name e = absurd cc
symbol_is_name g graph (At n) name e = by (slice_get g.nodes n) refl e
  where
    by : (o : Option Node) → slice_get g.nodes n ≡ o → name_of o ≡ Some name → IsName name
    by None at e = absurd cc
    by (Some (Symbol other)) at e = let same : other ≡ name = cc in subst IsName same (all_at (IsNode g.nodes) g.nodes n (Symbol other) graph.each at)
    by (Some (Str u)) at e = absurd cc
    by (Some (Binary c u)) at e = absurd cc
    by (Some (Large c u)) at e = absurd cc
    by (Some (Array c u)) at e = absurd cc
    by (Some (Frame c u)) at e = absurd cc

record AreNames (count : ℕ) (names : List (List ℕ)) : Type 0 where
  pub size : length names ≡ count
  pub each : All IsName names

every_is_name : (g : RawGraph) → IsGraph g → (values : List Ref) (names : List (List ℕ)) → every (map (symbol_name g.nodes) values) ≡ Some names → AreNames (length values) names
every_is_name g graph [] names e = let none : [] ≡ names = cc in subst (AreNames 0) none (record { size = refl; each = All-nil IsName })
every_is_name g graph (v ∷ vs) names e = by (symbol_name g.nodes v) (every (map (symbol_name g.nodes) vs)) refl (every_is_name g graph vs) refl e
  where
    by : (o : Option (List ℕ)) (os : Option (List (List ℕ))) → symbol_name g.nodes v ≡ o
        → ((later : List (List ℕ)) → every (map (symbol_name g.nodes) vs) ≡ Some later → AreNames (length vs) later)
        → every (map (symbol_name g.nodes) vs) ≡ os → every (o ∷ map (symbol_name g.nodes) vs) ≡ Some names → AreNames (suc (length vs)) names
    by None os here rest at e = absurd cc
    by (Some name) None here rest at e = absurd (let none : every (Some name ∷ map (symbol_name g.nodes) vs) ≡ None = rw at refl in cc)
    by (Some name) (Some later) here rest at e =
        let are = rest later at in
        let all : every (Some name ∷ map (symbol_name g.nodes) vs) ≡ Some (name ∷ later) = rw at refl in
        let same : name ∷ later ≡ names = cc in
        subst (AreNames (suc (length vs))) same (record {
          size = ap suc are.size;
          each = All-cons IsName name later (symbol_is_name g graph v name here) are.each;
        })

pub symbols_are_path : (g : RawGraph) → IsGraph g → (values : List Ref) (names : List (List ℕ)) → 0 < length values → length values ≤ 8
    → Some names ≡ every (map (symbol_name g.nodes) values) → IsPath names
symbols_are_path g graph values names some few e =
    let are = every_is_name g graph values names (sym e) in
    record { some = omega (arith, are.size, some); few = omega (arith, are.size, few); each = are.each }
