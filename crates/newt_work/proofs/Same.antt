-- The test of two graphs is true exactly where they are one.
use Rattle.std.proofs.Common.{◌≡◌, refl, ap, subst, ◌↔◌, arith, IsTrue, ℕ, Bool, true, List, [], ◌∷◌, length, Option, Some, None}
use Rattle.std.specs.Prelude.{◌==◌, ◌&&◌, nat_eq}
use Rattle.std.specs.Bool.{Decides}
use Rattle.std.specs.List.{list_all, zip}
use Rattle.std.specs.Option.{option_eq}
use Rattle.std.proofs.lemmas.Bool.Decides.{Decides-at, Decides-eqb, Decides-int_eq, Decides-and, Decides-like}
use Rattle.std.proofs.lemmas.Slice.Eq.{bytes_eq-Decides}
use Rattle.newt_graph.specs.declared.node.Ref.{Ref}
use Rattle.newt_graph.specs.declared.node.Ref.TheVariants.{Imm, Node as At}
use Rattle.newt_graph.specs.declared.node.Node.{Node}
use Rattle.newt_graph.specs.declared.node.Node.TheVariants.{Symbol, Str, Binary, Large, Array, Frame}
use Rattle.newt_graph.specs.Graph.{RawGraph}
use Rattle.newt_work.specs.Same.{same_ref, same_refs, same_node, same_nodes, same_graph}

is_true : (r : Bool) → Decides r (r ≡ true)
is_true r = ((λ e. e), (λ e. e))

-- ---- lists, by a test of their items

module _ {X : Type 0} (same : X → X → Bool) (decides : (x y : X) → Decides (same x y) (x ≡ y)) where
  zip_sound : (xs ys : List X) → length xs ≡ length ys → list_all (λ p. same p.0 p.1) (zip xs ys) ≡ true → xs ≡ ys
  zip_sound [] [] l h = refl
  zip_sound [] (y ∷ ys) l h = absurd (omega (arith, l))
  zip_sound (x ∷ xs) [] l h = absurd (omega (arith, l))
  zip_sound (x ∷ xs) (y ∷ ys) l h =
      let both = (Decides-and _ _ (decides x y) (is_true (list_all (λ p. same p.0 p.1) (zip xs ys)))).0 h in
      let rest = zip_sound xs ys (omega (arith, l)) both.1 in λ i. both.0 i ∷ rest i

  zip_same : (xs : List X) → list_all (λ p. same p.0 p.1) (zip xs xs) ≡ true
  zip_same [] = refl
  zip_same (x ∷ xs) = (Decides-and _ _ (decides x x) (is_true (list_all (λ p. same p.0 p.1) (zip xs xs)))).1 (refl, zip_same xs)

  list_decides : (xs ys : List X) → Decides ((length xs == length ys) && list_all (λ p. same p.0 p.1) (zip xs ys)) (xs ≡ ys)
  list_decides xs ys = (
    (λ h. let both = (Decides-and _ _ (Decides-eqb (length xs) (length ys)) (is_true (list_all (λ p. same p.0 p.1) (zip xs ys)))).0 h in zip_sound xs ys both.0 both.1),
    (λ e. subst (λ zs. ((length xs == length zs) && list_all (λ p. same p.0 p.1) (zip xs zs)) ≡ true) e
        ((Decides-and _ _ (Decides-eqb (length xs) (length xs)) (is_true (list_all (λ p. same p.0 p.1) (zip xs xs)))).1 (refl, zip_same xs))),
  )

-- ---- values, nodes, graphs

ref_decides : (v w : Ref) → Decides (same_ref v w) (v ≡ w)
ref_decides (Imm v) (Imm w) = Decides-like _ (ap (λ x. Imm x)) (λ e. cc) (Decides-int_eq v w)
ref_decides (At m) (At n) = Decides-like _ (ap (λ x. At x)) (λ e. cc) (Decides-eqb m n)
ref_decides (Imm v) (At n) = ((λ e. cc), (λ e. cc))
ref_decides (At m) (Imm w) = ((λ e. cc), (λ e. cc))

refs_decide : (vs ws : List Ref) → Decides (same_refs vs ws) (vs ≡ ws)
refs_decide vs ws = list_decides same_ref ref_decides vs ws

class_decides : (c d : Option ℕ) → Decides (option_eq nat_eq c d) (c ≡ d)
class_decides None None = ((λ e. refl), (λ e. refl))
class_decides (Some c) (Some d) = Decides-like _ (ap (λ x. Some x)) (λ e. cc) (Decides-eqb c d)
class_decides None (Some d) = ((λ e. cc), (λ e. cc))
class_decides (Some c) None = ((λ e. cc), (λ e. cc))

node_sound : (a b : Node) → same_node a b ≡ true → a ≡ b
node_sound (Symbol x) (Symbol y) h = ap (λ z. Symbol z) ((bytes_eq-Decides x y).0 h)
node_sound (Str x) (Str y) h = ap (λ z. Str z) ((bytes_eq-Decides x y).0 h)
node_sound (Binary c x) (Binary d y) h = let p = (Decides-and _ _ (Decides-eqb c d) (bytes_eq-Decides x y)).0 h in λ i. Binary (p.0 i) (p.1 i)
node_sound (Large c x) (Large d y) h = let p = (Decides-and _ _ (Decides-eqb c d) (bytes_eq-Decides x y)).0 h in λ i. Large (p.0 i) (p.1 i)
node_sound (Array c x) (Array d y) h = let p = (Decides-and _ _ (class_decides c d) (refs_decide x y)).0 h in λ i. Array (p.0 i) (p.1 i)
node_sound (Frame s x) (Frame t y) h = let p = (Decides-and _ _ (bytes_eq-Decides s t) (refs_decide x y)).0 h in λ i. Frame (p.0 i) (p.1 i)
node_sound _ _ h = cc

node_same : (a : Node) → same_node a a ≡ true
node_same (Symbol x) = (bytes_eq-Decides x x).1 refl
node_same (Str x) = (bytes_eq-Decides x x).1 refl
node_same (Binary c x) = (Decides-and _ _ (Decides-eqb c c) (bytes_eq-Decides x x)).1 (refl, refl)
node_same (Large c x) = (Decides-and _ _ (Decides-eqb c c) (bytes_eq-Decides x x)).1 (refl, refl)
node_same (Array c x) = (Decides-and _ _ (class_decides c c) (refs_decide x x)).1 (refl, refl)
node_same (Frame s x) = (Decides-and _ _ (bytes_eq-Decides s s) (refs_decide x x)).1 (refl, refl)

node_decides : (a b : Node) → Decides (same_node a b) (a ≡ b)
node_decides a b = (node_sound a b, λ e. subst (λ c. same_node a c ≡ true) e (node_same a))

nodes_decide : (ms ns : List Node) → Decides (same_nodes ms ns) (ms ≡ ns)
nodes_decide ms ns = list_decides same_node node_decides ms ns

pub graph_decides : (g h : RawGraph) → Decides (same_graph g h) (g ≡ h)
graph_decides g h =
    Decides-like _ (λ p. λ i. record { nodes = p.1 i; root = p.0 i }) (λ e. (ap (λ (k : RawGraph). k.root) e, ap (λ (k : RawGraph). k.nodes) e))
    (Decides-and _ _ (ref_decides g.root h.root) (nodes_decide g.nodes h.nodes))

-- what is the test is true exactly where two graphs are one
pub same_exactly : (r : Bool) (g h : RawGraph) → r ≡ same_graph g h → IsTrue r ↔ (g ≡ h)
same_exactly r g h e = Decides-at r (same_graph g h) e (graph_decides g h)
