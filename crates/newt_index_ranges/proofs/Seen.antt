-- What is seen of an entry's graph without the bytes of its large binaries: the values at its paths, its keys, and its masks.
use Rattle.std.proofs.Common.{◌≡◌, ℕ, zero, suc, List, [], ◌∷◌, map, filter_map, Option, Some, None, option_and_then, refl, sym, ◌∙◌, ap}
use Rattle.std.specs.Prelude.{slice_get}
use Rattle.std.specs.List.{position}
use Rattle.newt_graph.specs.declared.node.Ref.{Ref}
use Rattle.newt_graph.specs.declared.node.Ref.TheVariants.{Imm, Node as At}
use Rattle.newt_graph.specs.declared.node.Node.{Node}
use Rattle.newt_graph.specs.declared.node.Node.TheVariants.{Symbol, Str, Binary, Large, Array, Frame}
use Rattle.newt_graph.specs.Graph.{RawGraph}
use Rattle.newt_spec_graph.specs.Graph.{change_nth, object}
use Rattle.newt_spec_graph.specs.Slots.{is_named, slot_number, slot_value, value_below, value_at}
use Rattle.newt_spec_store.specs.declared.Kind.{Kind}
use Rattle.newt_spec_store.specs.declared.Kind.TheVariants as kind
use Rattle.newt_spec_store.specs.Keys.{IndexSpec, object_part, part_of, if_first_is_there, key}
use Rattle.newt_spec_store.specs.Store.{TagTable}
use Rattle.newt_spec_store.specs.StoreOf.{with_bytes, fill}
use Rattle.newt_spec_query.specs.Tags.{symbol_name, symbols_at, is_among}
use Rattle.newt_laws_images.proofs.Both.{Both}
use Rattle.newt_laws_images.proofs.Skeletons.{Like}
use Rattle.newt_tags.specs.Masks.{symbols_of, number, mask_of}

-- two graphs are one but for the bytes of their large binaries
pub record AreLike (g h : RawGraph) : Type 0 where
  pub root : g.root ≡ h.root
  pub nodes : Both Like g.nodes h.nodes

-- ---- nodes and lists of nodes

pub like-self : (x : Node) → Like x x
like-self (Symbol s) = refl
like-self (Str s) = refl
like-self (Binary c b) = refl
like-self (Large c b) = (b, refl)
like-self (Array c v) = refl
like-self (Frame t v) = refl

-- what sees no bytes of a large binary
abbrev IsBlind : {Y : Type 0} → (Node → Y) → Type 0
IsBlind see = (c : ℕ) (a b : List ℕ) → see (Large c a) ≡ see (Large c b)

like-node : {Y : Type 0} (see : Node → Y) → IsBlind see → (x y : Node) → Like x y → see x ≡ see y
like-node see blind (Symbol s) y l = ap see (sym l)
like-node see blind (Str s) y l = ap see (sym l)
like-node see blind (Binary c b) y l = ap see (sym l)
like-node see blind (Large c b) y l = blind c b l.0 ∙ ap see (sym l.1)
like-node see blind (Array c v) y l = ap see (sym l)
like-node see blind (Frame t v) y l = ap see (sym l)

both-seen : {Y : Type 0} (see : Option Node → Y) → IsBlind (λ x. see (Some x)) → (xs ys : List Node) → Both Like xs ys → (k : ℕ) → see (slice_get xs k) ≡ see (slice_get ys k)
both-seen see blind [] [] both k = refl
both-seen see blind [] (y ∷ ys) both k = absurd both
both-seen see blind (x ∷ xs) [] both k = absurd both
both-seen see blind (x ∷ xs) (y ∷ ys) both zero = like-node (λ z. see (Some z)) blind x y both.0
both-seen see blind (x ∷ xs) (y ∷ ys) both (suc k) = both-seen see blind xs ys both.1 k

like-nodes : (xs : List Node) → Both Like xs xs
like-nodes [] = tt
like-nodes (x ∷ xs) = (like-self x, like-nodes xs)

nth-like : (n : ℕ) (change : Node → Node) → ((x : Node) → Like x (change x)) → (xs : List Node) → Both Like xs (change_nth n change xs)
nth-like n change like [] = tt
nth-like zero change like (x ∷ xs) = (like x, like-nodes xs)
nth-like (suc n) change like (x ∷ xs) = (like-self x, nth-like n change like xs)

-- a graph of which one node is changed so
pub change-like : (n : ℕ) (change : Node → Node) → ((x : Node) → Like x (change x)) → (g : RawGraph) → AreLike g (record g { nodes = change_nth n change g.nodes })
change-like n change like g = record { root = refl; nodes = nth-like n change like g.nodes }

-- a graph with other bytes in a large binary
pub filled-like : (g : RawGraph) (n : ℕ) (bytes : List ℕ) → AreLike g (fill g (n, bytes))
filled-like g n bytes = change-like n (with_bytes bytes) like g
  where
    like : (x : Node) → Like x (with_bytes bytes x)
    like (Symbol s) = refl
    like (Str s) = refl
    like (Binary c b) = refl
    like (Large c b) = (bytes, refl)
    like (Array c v) = refl
    like (Frame t v) = refl

-- ---- what is seen of a graph

module _ (g h : RawGraph) (like : AreLike g h) where
  seen-at : {Y : Type 0} (see : Option Node → Y) → IsBlind (λ x. see (Some x)) → (r : Ref) → see (object g.nodes r) ≡ see (object h.nodes r)
  seen-at see blind (Imm w) = refl
  seen-at see blind (At k) = both-seen see blind g.nodes h.nodes like.nodes k

  same-slot : (name : List ℕ) (tags : List ℕ) → slot_number g.nodes name tags ≡ slot_number h.nodes name tags
  same-slot name tags = λ i. position (λ t. both-seen (is_named name) (λ c a b. refl) g.nodes h.nodes like.nodes t i) tags

  same-slots : (name : List ℕ) (o : Option Node) → slot_value g.nodes name o ≡ slot_value h.nodes name o
  same-slots name None = refl
  same-slots name (Some (Symbol s)) = refl
  same-slots name (Some (Str s)) = refl
  same-slots name (Some (Binary c b)) = refl
  same-slots name (Some (Large c b)) = refl
  same-slots name (Some (Array c v)) = refl
  same-slots name (Some (Frame tags values)) = ap (option_and_then (slice_get values)) (same-slot name tags)

  same-value : (name : List ℕ) (r : Ref) → slot_value g.nodes name (object g.nodes r) ≡ slot_value h.nodes name (object h.nodes r)
  same-value name r = same-slots name (object g.nodes r) ∙ seen-at (slot_value h.nodes name) (λ c a b. refl) r

  same-below : (path : List (List ℕ)) (r : Ref) → value_below g.nodes r path ≡ value_below h.nodes r path
  same-below [] r = refl
  same-below (name ∷ path) r = λ i. option_and_then (λ v. same-below path v i) (same-value name r i)

  -- a path reaches the same
  pub like-value : (path : List (List ℕ)) → value_at g path ≡ value_at h path
  like-value path = ap (λ (r : Ref). value_below g.nodes r path) like.root ∙ same-below path h.root

  -- ---- keys

  blind-part : (k : Kind) → IsBlind (λ x. object_part k (Some x))
  blind-part kind.Text c a b = refl
  blind-part kind.Int c a b = refl
  blind-part kind.Char c a b = refl
  blind-part kind.Symbol c a b = refl

  same-part : (k : Kind) (o : Option Ref) → part_of g.nodes k o ≡ part_of h.nodes k o
  same-part k None = refl
  same-part k (Some (Imm w)) = refl
  same-part k (Some (At n)) = both-seen (object_part k) (blind-part k) g.nodes h.nodes like.nodes n

  same-parts : (spec : IndexSpec) → map (λ p. part_of g.nodes p.kind (value_at g p.path)) spec ≡ map (λ p. part_of h.nodes p.kind (value_at h p.path)) spec
  same-parts [] = refl
  same-parts (p ∷ spec) = λ i. (same-part p.kind (value_at g p.path) ∙ ap (part_of h.nodes p.kind) (like-value p.path)) i ∷ same-parts spec i

  -- it has the same key
  pub like-key : (spec : IndexSpec) → key g spec ≡ key h spec
  like-key spec = ap if_first_is_there (same-parts spec)

  -- ---- symbols

  abbrev name_in : Option Node → Option (List ℕ)
  name_in o = elim o [ Some (Symbol name) ↦ Some name | _ ↦ None ]

  same-name : (r : Ref) → symbol_name g.nodes r ≡ symbol_name h.nodes r
  same-name r = seen-at name_in (λ c a b. refl) r

  same-names : (o : Option Node) → symbols_of g.nodes o ≡ symbols_of h.nodes o
  same-names None = refl
  same-names (Some (Symbol s)) = refl
  same-names (Some (Str s)) = refl
  same-names (Some (Binary c b)) = refl
  same-names (Some (Large c b)) = refl
  same-names (Some (Array c values)) = λ i. filter_map (λ v. same-name v i) values
  same-names (Some (Frame t v)) = refl

  same-symbols : (o : Option Ref) → symbols_at g o ≡ symbols_at h o
  same-symbols None = refl
  same-symbols (Some r) = same-names (object g.nodes r) ∙ seen-at (symbols_of h.nodes) (λ c a b. refl) r

  -- it has the same symbols at a path
  pub like-symbols : (path : List (List ℕ)) → symbols_at g (value_at g path) ≡ symbols_at h (value_at h path)
  like-symbols path = same-symbols (value_at g path) ∙ ap (symbols_at h) (like-value path)

-- it has the same mask
pub like-mask : (g h : RawGraph) → AreLike g h → (t : TagTable) → mask_of t g ≡ mask_of t h
unfolding mask_of
like-mask g h like t = ap (λ (names : List (List ℕ)). number (map (is_among names) t.symbols)) (like-symbols g h like t.path)
