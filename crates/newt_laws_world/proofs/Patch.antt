-- Bytes written over a large binary change nothing else.
use Rattle.std.proofs.Common.{arith, ◌≡◌, refl, ap, subst, ℕ, zero, suc, ◌+◌, ◌≤◌, List, [], ◌∷◌, ◌++◌, Option, Some, map, take, drop, flat_map, length}
use Rattle.std.specs.Prelude.{slice_get}
use lib.ListN.{length-append, length-take, length-drop}
use Rattle.newt_graph.specs.declared.node.Node.{Node}
use Rattle.newt_graph.specs.declared.node.Node.TheVariants.{Large}
use Rattle.newt_graph.specs.Graph.{RawGraph}
use Rattle.newt_spec_graph.specs.Graph.{change_nth, object, is_frame}
use Rattle.newt_spec_graph.specs.Limits.{within_limits}
use Rattle.newt_spec_nsof.specs.Lengths.{skeleton, bare as bare_node}
use Rattle.newt_spec_store.specs.Cost.{large_lengths, large_length}
use Rattle.newt_spec_graph.specs.Larges.{bytes_of_large}
use Rattle.newt_spec_world.specs.Changed.{patch_node, patched_at, overwritten}
use Rattle.newt_laws_images.proofs.Alike.{Alike, same-node, same-large, alike-limits, alike-frame}
use Rattle.newt_laws_images.proofs.Both.{Both}

overwritten-length : (at : ℕ) (new old : List ℕ) → at + length new ≤ length old → length (overwritten at new old) ≡ length old
overwritten-length at new old h = grind (
  arith,
  length-append (take at old ++ new) (drop (at + length new) old),
  length-append (take at old) new,
  length-take at old,
  length-drop (at + length new) old,
)

-- ---- a list with its n-th changed

pub nth-map : {X Y : Type 0} (g : X → Y) (n : ℕ) (f : X → X) (xs : List X) → ((x : X) → slice_get xs n ≡ Some x → g (f x) ≡ g x) → map g (change_nth n f xs) ≡ map g xs
nth-map g n f [] h = refl
nth-map g zero f (x ∷ xs) h = ap (λ y. y ∷ map g xs) (h x refl)
nth-map g (suc n) f (x ∷ xs) h = ap (λ ys. g x ∷ ys) (nth-map g n f xs h)

pub nth-flat : {X Y : Type 0} (g : X → List Y) (n : ℕ) (f : X → X) (xs : List X) → ((x : X) → slice_get xs n ≡ Some x → g (f x) ≡ g x) → flat_map g (change_nth n f xs) ≡ flat_map g xs
nth-flat g n f [] h = refl
nth-flat g zero f (x ∷ xs) h = ap (λ y. y ++ flat_map g xs) (h x refl)
nth-flat g (suc n) f (x ∷ xs) h = ap (λ ys. g x ++ ys) (nth-flat g n f xs h)

-- what is seen of each element is as before
pub nth-nth : {X Y : Type 0} (g : Option X → Y) (n k : ℕ) (f : X → X) (xs : List X) → ((x : X) → g (Some (f x)) ≡ g (Some x)) → g (slice_get (change_nth n f xs) k) ≡ g (slice_get xs k)
nth-nth g n k f [] h = refl
nth-nth g zero zero f (x ∷ xs) h = h x
nth-nth g zero (suc k) f (x ∷ xs) h = refl
nth-nth g (suc n) zero f (x ∷ xs) h = refl
nth-nth g (suc n) (suc k) f (x ∷ xs) h = nth-nth g n k f xs h

nth-alike : (n : ℕ) (f : Node → Node) (xs : List Node) → ((x : Node) → slice_get xs n ≡ Some x → Alike (f x) x) → Both Alike (change_nth n f xs) xs
nth-alike n f [] h = tt
nth-alike zero f (x ∷ xs) h = (h x refl, same xs)
  where
    same : (xs : List Node) → Both Alike xs xs
    same [] = tt
    same (x ∷ xs) = (same-node x, same xs)
nth-alike (suc n) f (x ∷ xs) h = (same-node x, nth-alike n f xs h)

-- ---- a patched graph

patch-alike : (at : ℕ) (new : List ℕ) (node : Node) → at + length new ≤ length (bytes_of_large (Some node)) → Alike (patch_node at new node) node
patch-alike at new (Large c old) h = same-large c (overwritten at new old) old (overwritten-length at new old h)
patch-alike at new node h = same-node node

patch-without : (at : ℕ) (new : List ℕ) (node : Node) → bare_node (patch_node at new node) ≡ bare_node node
patch-without at new (Large c old) = refl
patch-without at new node = refl

patch-large : (at : ℕ) (new : List ℕ) (node : Node) → at + length new ≤ length (bytes_of_large (Some node)) → large_length (patch_node at new node) ≡ large_length node
patch-large at new (Large c old) h = ap (λ n. n ∷ []) (overwritten-length at new old h)
patch-large at new node h = refl

module _ (at : ℕ) (new : List ℕ) (g : RawGraph) (n : ℕ) (room : at + length new ≤ length (bytes_of_large (slice_get g.nodes n))) where
  abbrev pub after : RawGraph
  after = patched_at (Some n) at new g

  in-room : (x : Node) → slice_get g.nodes n ≡ Some x → at + length new ≤ length (bytes_of_large (Some x))
  in-room x e = subst (λ o. at + length new ≤ length (bytes_of_large o)) e room

  pub at-skeleton : skeleton after ≡ skeleton g
  at-skeleton = ap {A = List Node} {B = RawGraph} (λ ns. record { nodes = ns; root = g.root }) (nth-map bare_node n (patch_node at new) g.nodes (λ x _. patch-without at new x))

  pub at-lengths : large_lengths after ≡ large_lengths g
  at-lengths = nth-flat large_length n (patch_node at new) g.nodes (λ x e. patch-large at new x (in-room x e))

  at-alike : Both Alike after.nodes g.nodes
  at-alike = nth-alike n (patch_node at new) g.nodes (λ x e. patch-alike at new x (in-room x e))

  pub at-limits : within_limits after ≡ within_limits g
  at-limits = alike-limits after g refl at-alike

  pub at-frame : is_frame (object after.nodes after.root) ≡ is_frame (object g.nodes g.root)
  at-frame = alike-frame after g refl at-alike
