-- The large binaries of a graph are filled: which bytes they have then, and that nothing else is changed.
use Rattle.std.proofs.Common.{arith, ◌≡◌, refl, ap, sym, ◌∙◌, ℕ, ◌+◌, List, [], ◌∷◌, ◌++◌, true, Bool, length, fold, map, zip, ◌==◌}
use Rattle.std.specs.List.{list_all}
use Rattle.std.proofs.lemmas.Bool.{eqb-true, and_parts}
use Rattle.std.proofs.lemmas.List.{append_assoc}
use Rattle.newt_graph.specs.declared.node.Node.{Node}
use Rattle.newt_graph.specs.declared.node.Node.TheVariants.{Symbol, Str, Binary, Large, Array, Frame}
use Rattle.newt_graph.specs.Graph.{RawGraph}
use Rattle.newt_spec_nsof.specs.Lengths.{skeleton, bare as bare_node}
use Rattle.newt_spec_store.specs.Image.{larges}
use Rattle.newt_spec_store.specs.StoreOf.{with_bytes, fill}
use Rattle.newt_spec_graph.specs.Graph.{object, is_frame}
use Rattle.newt_spec_graph.specs.Limits.{within_limits}
use Rattle.newt_laws_images.proofs.Alike.{Alike, same-node, same-large, alike-limits, alike-frame}
use Rattle.newt_laws_images.proofs.Both.{Both}
use Rattle.newt_laws_images.proofs.Records.{larges_from, at-length, push-length, fill_nodes, fold-fill}

-- the nodes with these bytes in their large binaries, in order
abbrev put_in : List Node → List (List ℕ) → List Node
put_in [] bs = []
put_in (Large c old ∷ nodes) [] = Large c old ∷ nodes
put_in (Large c old ∷ nodes) (b ∷ bs) = Large c b ∷ put_in nodes bs
put_in (Symbol s ∷ nodes) bs = Symbol s ∷ put_in nodes bs
put_in (Str s ∷ nodes) bs = Str s ∷ put_in nodes bs
put_in (Binary c b ∷ nodes) bs = Binary c b ∷ put_in nodes bs
put_in (Array c v ∷ nodes) bs = Array c v ∷ put_in nodes bs
put_in (Frame t v ∷ nodes) bs = Frame t v ∷ put_in nodes bs

abbrev pub numbers_from : ℕ → List Node → List ℕ
numbers_from k nodes = map (λ (l : ℕ × List ℕ). l.0) (larges_from k nodes)

-- a node is before those that are filled
pub step : (pre : List Node) (x : Node) (nodes rest : List Node) (bs : List (List ℕ))
    → fold fill_nodes ((pre ++ x ∷ []) ++ nodes) (zip (numbers_from (length (pre ++ x ∷ [])) nodes) bs) ≡ (pre ++ x ∷ []) ++ rest
    → fold fill_nodes (pre ++ (x ∷ nodes)) (zip (numbers_from (length pre + 1) nodes) bs) ≡ pre ++ (x ∷ rest)
step pre x nodes rest bs h = ap (λ ns. fold fill_nodes ns (zip (numbers_from (length pre + 1) nodes) bs)) (sym (append_assoc pre (x ∷ []) nodes))
    ∙ ap (λ k. fold fill_nodes ((pre ++ x ∷ []) ++ nodes) (zip (numbers_from k nodes) bs)) (sym (push-length pre x)) ∙ h ∙ append_assoc pre (x ∷ []) rest

-- the nodes before these are filled already
put-fills : (pre nodes : List Node) (bs : List (List ℕ)) → fold fill_nodes (pre ++ nodes) (zip (numbers_from (length pre) nodes) bs) ≡ pre ++ put_in nodes bs
put-fills pre [] bs = refl
put-fills pre (Large c old ∷ nodes) [] = refl
put-fills pre (Large c old ∷ nodes) (b ∷ bs) =
    ap (λ ns. fold fill_nodes ns (zip (numbers_from (length pre + 1) nodes) bs)) (at-length (with_bytes b) pre (Large c old) nodes)
    ∙ step pre (Large c b) nodes (put_in nodes bs) bs (put-fills (pre ++ Large c b ∷ []) nodes bs)
put-fills pre (Symbol s ∷ nodes) bs = step pre (Symbol s) nodes (put_in nodes bs) bs (put-fills (pre ++ Symbol s ∷ []) nodes bs)
put-fills pre (Str s ∷ nodes) bs = step pre (Str s) nodes (put_in nodes bs) bs (put-fills (pre ++ Str s ∷ []) nodes bs)
put-fills pre (Binary c b ∷ nodes) bs = step pre (Binary c b) nodes (put_in nodes bs) bs (put-fills (pre ++ Binary c b ∷ []) nodes bs)
put-fills pre (Array c v ∷ nodes) bs = step pre (Array c v) nodes (put_in nodes bs) bs (put-fills (pre ++ Array c v ∷ []) nodes bs)
put-fills pre (Frame t v ∷ nodes) bs = step pre (Frame t v) nodes (put_in nodes bs) bs (put-fills (pre ++ Frame t v ∷ []) nodes bs)

put-bare : (nodes : List Node) (bs : List (List ℕ)) → map bare_node (put_in nodes bs) ≡ map bare_node nodes
put-bare [] bs = refl
put-bare (Large c old ∷ nodes) [] = refl
put-bare (Large c old ∷ nodes) (b ∷ bs) = ap (λ ns. Large c [] ∷ ns) (put-bare nodes bs)
put-bare (Symbol s ∷ nodes) bs = ap (λ ns. Symbol s ∷ ns) (put-bare nodes bs)
put-bare (Str s ∷ nodes) bs = ap (λ ns. Str s ∷ ns) (put-bare nodes bs)
put-bare (Binary c b ∷ nodes) bs = ap (λ ns. Binary c b ∷ ns) (put-bare nodes bs)
put-bare (Array c v ∷ nodes) bs = ap (λ ns. Array c v ∷ ns) (put-bare nodes bs)
put-bare (Frame t v ∷ nodes) bs = ap (λ ns. Frame t v ∷ ns) (put-bare nodes bs)

put-larges : (k : ℕ) (nodes : List Node) (bs : List (List ℕ)) → length (larges_from k nodes) ≡ length bs → larges_from k (put_in nodes bs) ≡ zip (numbers_from k nodes) bs
put-larges k [] bs h = refl
put-larges k (Large c old ∷ nodes) [] h = absurd (omega (arith, h))
put-larges k (Large c old ∷ nodes) (b ∷ bs) h = ap (λ ls. (k, b) ∷ ls) (put-larges (k + 1) nodes bs (omega (arith, h)))
put-larges k (Symbol s ∷ nodes) bs h = put-larges (k + 1) nodes bs h
put-larges k (Str s ∷ nodes) bs h = put-larges (k + 1) nodes bs h
put-larges k (Binary c b ∷ nodes) bs h = put-larges (k + 1) nodes bs h
put-larges k (Array c v ∷ nodes) bs h = put-larges (k + 1) nodes bs h
put-larges k (Frame t v ∷ nodes) bs h = put-larges (k + 1) nodes bs h

-- a graph with these bytes in its large binaries
abbrev pub filled_with : RawGraph → List (List ℕ) → RawGraph
filled_with g bs = fold fill g (zip (map (λ (l : ℕ × List ℕ). l.0) (larges g)) bs)

filled-is : (g : RawGraph) (bs : List (List ℕ)) → ◌≡◌ {A = RawGraph} (filled_with g bs) (record { nodes = put_in g.nodes bs; root = g.root })
filled-is g bs = fold-fill g.root g.nodes (zip (map (λ (l : ℕ × List ℕ). l.0) (larges g)) bs) ∙ ap {A = List Node} {B = RawGraph} (λ ns. record { nodes = ns; root = g.root }) (put-fills [] g.nodes bs)

pub filled-skeleton : (g : RawGraph) (bs : List (List ℕ)) → skeleton (filled_with g bs) ≡ skeleton g
filled-skeleton g bs = ap skeleton (filled-is g bs) ∙ ap {A = List Node} {B = RawGraph} (λ ns. record { nodes = ns; root = g.root }) (put-bare g.nodes bs)

pub filled-larges : (g : RawGraph) (bs : List (List ℕ)) → length (larges g) ≡ length bs → larges (filled_with g bs) ≡ zip (map (λ (l : ℕ × List ℕ). l.0) (larges g)) bs
filled-larges g bs h = ap larges (filled-is g bs) ∙ put-larges 0 g.nodes bs h

-- a graph whose large binaries are empty is its own skeleton
no-bytes : (b : List ℕ) → (length b == 0) ≡ true → b ≡ []
no-bytes [] h = refl
no-bytes (x ∷ b) h = absurd (omega (arith, eqb-true (length (x ∷ b)) 0 h))

all-bare : (k : ℕ) (nodes : List Node) → list_all (λ (l : ℕ × List ℕ). length l.1 == 0) (larges_from k nodes) ≡ true → map bare_node nodes ≡ nodes
all-bare k [] h = refl
all-bare k (Large c bytes ∷ nodes) h = let r = and_parts _ _ h in λ i. Large c (sym (no-bytes bytes r.0) i) ∷ all-bare (k + 1) nodes r.1 i
all-bare k (Symbol n ∷ nodes) h = ap (λ ns. Symbol n ∷ ns) (all-bare (k + 1) nodes h)
all-bare k (Str n ∷ nodes) h = ap (λ ns. Str n ∷ ns) (all-bare (k + 1) nodes h)
all-bare k (Binary c b ∷ nodes) h = ap (λ ns. Binary c b ∷ ns) (all-bare (k + 1) nodes h)
all-bare k (Array c v ∷ nodes) h = ap (λ ns. Array c v ∷ ns) (all-bare (k + 1) nodes h)
all-bare k (Frame t v ∷ nodes) h = ap (λ ns. Frame t v ∷ ns) (all-bare (k + 1) nodes h)

pub own-skeleton : (g : RawGraph) → list_all (λ (l : ℕ × List ℕ). length l.1 == 0) (larges g) ≡ true → skeleton g ≡ g
own-skeleton g h = ap {A = List Node} {B = RawGraph} (λ ns. record { nodes = ns; root = g.root }) (all-bare 0 g.nodes h)

-- ---- graphs with bytes of the same lengths

abbrev pub AsLong : List ℕ → List ℕ → Type 0
AsLong a b = length a ≡ length b

pub same-nodes : (nodes : List Node) → Both Alike nodes nodes
same-nodes [] = tt
same-nodes (x ∷ nodes) = (same-node x, same-nodes nodes)

put-alike : (nodes : List Node) (bs cs : List (List ℕ)) → Both AsLong bs cs → Both Alike (put_in nodes bs) (put_in nodes cs)
put-alike [] bs cs h = tt
put-alike (Large c old ∷ nodes) [] [] h = (same-node (Large c old), same-nodes nodes)
put-alike (Large c old ∷ nodes) [] (y ∷ cs) h = absurd h
put-alike (Large c old ∷ nodes) (x ∷ bs) [] h = absurd h
put-alike (Large c old ∷ nodes) (x ∷ bs) (y ∷ cs) h = (same-large c x y h.0, put-alike nodes bs cs h.1)
put-alike (Symbol s ∷ nodes) bs cs h = (same-node (Symbol s), put-alike nodes bs cs h)
put-alike (Str s ∷ nodes) bs cs h = (same-node (Str s), put-alike nodes bs cs h)
put-alike (Binary c b ∷ nodes) bs cs h = (same-node (Binary c b), put-alike nodes bs cs h)
put-alike (Array c v ∷ nodes) bs cs h = (same-node (Array c v), put-alike nodes bs cs h)
put-alike (Frame t v ∷ nodes) bs cs h = (same-node (Frame t v), put-alike nodes bs cs h)

-- such graphs may be entries alike
pub filled-limits : (g : RawGraph) (bs cs : List (List ℕ)) → Both AsLong bs cs → within_limits (filled_with g bs) ≡ within_limits (filled_with g cs)
filled-limits g bs cs h = ap within_limits (filled-is g bs) ∙ alike-limits (record { nodes = put_in g.nodes bs; root = g.root }) (record { nodes = put_in g.nodes cs; root = g.root }) refl (put-alike g.nodes bs cs h)
    ∙ sym (ap within_limits (filled-is g cs))

pub filled-frame : (g : RawGraph) (bs cs : List (List ℕ)) → Both AsLong bs cs → is_frame (object (filled_with g bs).nodes (filled_with g bs).root) ≡ is_frame (object (filled_with g cs).nodes (filled_with g cs).root)
filled-frame g bs cs h = ap framed (filled-is g bs) ∙ alike-frame (record { nodes = put_in g.nodes bs; root = g.root }) (record { nodes = put_in g.nodes cs; root = g.root }) refl (put-alike g.nodes bs cs h)
    ∙ sym (ap framed (filled-is g cs))
  where
    framed : RawGraph → Bool
    framed k = is_frame (object k.nodes k.root)
