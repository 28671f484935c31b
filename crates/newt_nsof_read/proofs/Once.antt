-- Symbols that stand once, as nodes are added and filled.
use Rattle.std.proofs.Common.{◌≡◌, ℕ, List, ◌∷◌, [], ◌++◌, Option, Some, None, subst, sym, inl, inr}
use Rattle.std.specs.Prelude.{set, IfSome}
use Rattle.newt_graph.specs.declared.node.Node.{Node}
use Rattle.newt_graph.specs.declared.node.Node.TheVariants.{Symbol}
use Rattle.newt_graph.specs.Graph.{AreFoldedOnce}
use Rattle.newt_graph.specs.Draft.{find_alike}
use Rattle.newt_graph.proofs.Drafts.{once_push, none_alike, get_set}

-- a node that is no symbol
pub once_other : (nodes items : List Node) (node : Node) → items ≡ nodes ++ node ∷ [] → ((name : List ℕ) → node ≡ Symbol name → ⊥) → AreFoldedOnce nodes → AreFoldedOnce items
once_other nodes items node all none once = subst AreFoldedOnce (sym all) (once_push nodes node once (λ name e k alike. absurd (none name e)))

-- a symbol that none is alike
pub once_symbol : (nodes items : List Node) (name : List ℕ) → items ≡ nodes ++ Symbol name ∷ [] → find_alike name nodes ≡ None → AreFoldedOnce nodes → AreFoldedOnce items
once_symbol nodes items name all none once =
    subst AreFoldedOnce (sym all) (once_push nodes (Symbol name) once (λ other e k alike. none_alike nodes other (subst (λ (n : List ℕ). find_alike n nodes ≡ None) (one_name e) none) k alike))
  where
    one_name : {a b : List ℕ} → Symbol a ≡ Symbol b → a ≡ b
    one_name e = cc

-- a node that is no symbol in the place of another
pub once_filled : (nodes : List Node) (n : ℕ) (node : Node) → ((name : List ℕ) → node ≡ Symbol name → ⊥) → AreFoldedOnce nodes → AreFoldedOnce (set nodes n node)
once_filled nodes n node none once i k name h alike =
    elim (get_set nodes n node i (Symbol name) h) [
      | inl new ↦ absurd (none name new.1)
      | inr old ↦ elim (get_set nodes n node k (Symbol alike.0) alike.1) [
        | inl new ↦ absurd (none alike.0 new.1)
        | inr older ↦ once i k name old (alike.0, older, alike.2)
      ]
    ]

-- what holds of a value that may be missing
pub if_still : {A : Type 0} {P Q : A → Type 0} (o : Option A) → ((a : A) → P a → Q a) → IfSome o P → IfSome o Q
if_still None f h = h
if_still (Some a) f h = f a h

pub if_of : {A : Type 0} (P : A → Type 0) (o : Option A) (a : A) → o ≡ Some a → IfSome o P → P a
if_of P o a is h = subst (λ x. IfSome x P) is h
