-- A graph stays in normal form where other bytes stand in its large binaries; so the skeleton of a graph is one.
use Rattle.std.proofs.Common.{arith, ◌≡◌, refl, ap, sym, ◌∙◌, subst, ℕ, zero, suc, ◌+◌, ◌<◌, ◌≤◌, List, [], ◌∷◌, ◌++◌, Some, None, map, length, sum_by}
use Rattle.std.specs.Prelude.{All}
use Rattle.std.proofs.lemmas.List.Elements.{All-nil, All-cons, All-head, All-tail}
use Rattle.std.proofs.lemmas.List.Sums.{sum_by-cons}
use Rattle.newt_graph.specs.declared.node.Ref.{Ref}
use Rattle.newt_graph.specs.declared.node.Ref.TheVariants as refs
use Rattle.newt_graph.specs.declared.node.Node.{Node}
use Rattle.newt_graph.specs.declared.node.Node.TheVariants.{Symbol, Str, Binary, Large, Array, Frame}
use Rattle.newt_graph.specs.Graph.{RawGraph, WalkLabel, WalkLabels, Walk, Walks, IsNamed, IsSymbol, AreLight, IsData, IsNode, IsGraph, payload}
use Rattle.newt_spec_nsof.specs.Lengths.{skeleton, bare as bare_node}
use Rattle.newt_laws_images.proofs.Both.{Both}

-- the same node, but for the bytes of a large binary
abbrev pub Like : Node → Node → Type 0
Like (Symbol s) y = y ≡ Symbol s
Like (Str s) y = y ≡ Str s
Like (Binary c b) y = y ≡ Binary c b
Like (Large c b) y = (other : List ℕ) × (y ≡ Large c other)
Like (Array c v) y = y ≡ Array c v
Like (Frame t v) y = y ≡ Frame t v

both-split : (xs ys zs : List Node) → Both Like (xs ++ ys) zs → (us : List Node) × (vs : List Node) × (zs ≡ us ++ vs) × Both Like xs us × Both Like ys vs
both-split [] ys zs h = ([], zs, refl, tt, h)
both-split (x ∷ xs) ys [] h = absurd h
both-split (x ∷ xs) ys (z ∷ zs) h = let r = both-split xs ys zs h.1 in (z ∷ r.0, r.1, ap (λ ns. z ∷ ns) r.2, (h.0, r.3), r.4)

both-size : (xs ys : List Node) → Both Like xs ys → length xs ≡ length ys
both-size [] [] h = refl
both-size [] (y ∷ ys) h = absurd h
both-size (x ∷ xs) [] h = absurd h
both-size (x ∷ xs) (y ∷ ys) h = ap suc (both-size xs ys h.1)

-- ---- the walk

label-like : {met k : ℕ} {xs : List Node} → WalkLabel met k xs → (ys : List Node) → Both Like xs ys → WalkLabel met k ys
label-like (WalkLabel.again lt) [] h = WalkLabel.again lt
label-like (WalkLabel.again lt) (y ∷ ys) h = absurd h
label-like WalkLabel.symbol [] h = absurd h
label-like (WalkLabel.symbol {met} {name}) (y ∷ []) h = subst (λ (z : Node). WalkLabel met met (z ∷ [])) (sym h.0) WalkLabel.symbol
label-like WalkLabel.symbol (y ∷ z ∷ ys) h = absurd h.1

labels-like : {met : ℕ} {ks : List ℕ} {xs : List Node} → WalkLabels met ks xs → (ys : List Node) → Both Like xs ys → WalkLabels met ks ys
labels-like WalkLabels.none [] h = WalkLabels.none
labels-like WalkLabels.none (y ∷ ys) h = absurd h
labels-like (WalkLabels.more {met} {k} {ks} {first} {others} l ls) ys h =
    let r = both-split first others ys h in
    let size : met + length first ≡ met + length r.0 = ap (λ n. met + n) (both-size first r.0 r.3) in
    subst (λ (zs : List Node). WalkLabels met (k ∷ ks) zs) (sym r.2) (WalkLabels.more (label-like l r.0 r.3) (subst (λ (n : ℕ). WalkLabels n ks r.1) size (labels-like ls r.1 r.4)))

mutual
  walk-like : {room met : ℕ} {value : Ref} {xs : List Node} → Walk room met value xs → (ys : List Node) → Both Like xs ys → Walk room met value ys
  walk-like (Walk.word is) [] h = Walk.word is
  walk-like (Walk.word is) (y ∷ ys) h = absurd h
  walk-like (Walk.again lt) [] h = Walk.again lt
  walk-like (Walk.again lt) (y ∷ ys) h = absurd h
  walk-like Walk.symbol [] h = absurd h
  walk-like (Walk.symbol {room} {met} {name}) (y ∷ []) h = subst (λ (z : Node). Walk room met (refs.Node met) (z ∷ [])) (sym h.0) Walk.symbol
  walk-like Walk.symbol (y ∷ z ∷ ys) h = absurd h.1
  walk-like Walk.string [] h = absurd h
  walk-like (Walk.string {room} {met} {units}) (y ∷ []) h = subst (λ (z : Node). Walk room met (refs.Node met) (z ∷ [])) (sym h.0) Walk.string
  walk-like Walk.string (y ∷ z ∷ ys) h = absurd h.1
  walk-like (Walk.binary l) [] h = absurd h
  walk-like (Walk.binary {room} {met} {class} {bytes} {new} l) (y ∷ ys) h = subst (λ (z : Node). Walk room met (refs.Node met) (z ∷ ys)) (sym h.0) (Walk.binary (label-like l ys h.1))
  walk-like (Walk.large l) [] h = absurd h
  walk-like (Walk.large {room} {met} {class} {bytes} {new} l) (y ∷ ys) h = subst (λ (z : Node). Walk room met (refs.Node met) (z ∷ ys)) (sym h.0.1) (Walk.large (label-like l ys h.1))
  walk-like (Walk.frame ls ws) [] h = absurd h
  walk-like (Walk.frame {room} {met} {tags} {values} {tagged} {valued} ls ws) (y ∷ ys) h =
      let r = both-split tagged valued ys h.1 in
      let size : suc met + length tagged ≡ suc met + length r.0 = ap (λ n. suc met + n) (both-size tagged r.0 r.3) in
      subst (λ (z : Node). Walk (suc room) met (refs.Node met) (z ∷ ys)) (sym h.0)
      (subst (λ (zs : List Node). Walk (suc room) met (refs.Node met) (Frame tags values ∷ zs)) (sym r.2)
      (Walk.frame (labels-like ls r.0 r.3) (subst (λ (n : ℕ). Walks room n values r.1) size (walks-like ws r.1 r.4))))
  walk-like (Walk.plain_array ws) [] h = absurd h
  walk-like (Walk.plain_array {room} {met} {values} {valued} ws) (y ∷ ys) h = subst (λ (z : Node). Walk (suc room) met (refs.Node met) (z ∷ ys)) (sym h.0) (Walk.plain_array (walks-like ws ys h.1))
  walk-like (Walk.array l ws) [] h = absurd h
  walk-like (Walk.array {room} {met} {class} {values} {first} {valued} l ws) (y ∷ ys) h =
      let r = both-split first valued ys h.1 in
      let size : suc met + length first ≡ suc met + length r.0 = ap (λ n. suc met + n) (both-size first r.0 r.3) in
      subst (λ (z : Node). Walk (suc room) met (refs.Node met) (z ∷ ys)) (sym h.0)
      (subst (λ (zs : List Node). Walk (suc room) met (refs.Node met) (Array (Some class) values ∷ zs)) (sym r.2)
      (Walk.array (label-like l r.0 r.3) (subst (λ (n : ℕ). Walks room n values r.1) size (walks-like ws r.1 r.4))))

  walks-like : {room met : ℕ} {values : List Ref} {xs : List Node} → Walks room met values xs → (ys : List Node) → Both Like xs ys → Walks room met values ys
  walks-like Walks.none [] h = Walks.none
  walks-like Walks.none (y ∷ ys) h = absurd h
  walks-like (Walks.more {room} {met} {value} {values} {first} {others} w ws) ys h =
      let r = both-split first others ys h in
      let size : met + length first ≡ met + length r.0 = ap (λ n. met + n) (both-size first r.0 r.3) in
      subst (λ (zs : List Node). Walks room met (value ∷ values) zs) (sym r.2) (Walks.more (walk-like w r.0 r.3) (subst (λ (n : ℕ). Walks room n values r.1) size (walks-like ws r.1 r.4)))

-- ---- symbols

symbol-there : (xs ys : List Node) (k : ℕ) (name : List ℕ) → Both Like xs ys → IsNamed xs k name → IsNamed ys k name
symbol-there [] [] k name h e = e
symbol-there [] (y ∷ ys) k name h e = absurd h
symbol-there (x ∷ xs) [] k name h e = absurd h
symbol-there (x ∷ xs) (y ∷ ys) zero name h e = go x h.0 e
  where
    go : (x : Node) → Like x y → Some x ≡ Some (Symbol name) → Some y ≡ Some (Symbol name)
    go (Symbol s) l e = ap Some l ∙ e
    go (Str s) l e = cc
    go (Binary c b) l e = cc
    go (Large c b) l e = cc
    go (Array c v) l e = cc
    go (Frame t v) l e = cc
symbol-there (x ∷ xs) (y ∷ ys) (suc k) name h e = symbol-there xs ys k name h.1 e

symbol-back : (xs ys : List Node) (k : ℕ) (name : List ℕ) → Both Like xs ys → IsNamed ys k name → IsNamed xs k name
symbol-back [] [] k name h e = e
symbol-back [] (y ∷ ys) k name h e = absurd h
symbol-back (x ∷ xs) [] k name h e = absurd h
symbol-back (x ∷ xs) (y ∷ ys) zero name h e = go x h.0 e
  where
    go : (x : Node) → Like x y → Some y ≡ Some (Symbol name) → Some x ≡ Some (Symbol name)
    go (Symbol s) l e = ap Some (sym l) ∙ e
    go (Str s) l e = let k : Some (Str s) ≡ Some (Symbol name) = ap Some (sym l) ∙ e in cc
    go (Binary c b) l e = let k : Some (Binary c b) ≡ Some (Symbol name) = ap Some (sym l) ∙ e in cc
    go (Large c b) l e = let k : Some (Large c l.0) ≡ Some (Symbol name) = ap Some (sym l.1) ∙ e in cc
    go (Array c v) l e = let k : Some (Array c v) ≡ Some (Symbol name) = ap Some (sym l) ∙ e in cc
    go (Frame t v) l e = let k : Some (Frame t v) ≡ Some (Symbol name) = ap Some (sym l) ∙ e in cc
symbol-back (x ∷ xs) (y ∷ ys) (suc k) name h e = symbol-back xs ys k name h.1 e

-- ---- a graph with other bytes in its large binaries

-- the bytes of a large binary are data
abbrev pub HasData : Node → Type 0
HasData (Large c b) = IsData b
HasData _ = Unit {0}

module _ (all others : List Node) (both : Both Like all others) where
  is-symbol : (k : ℕ) → IsSymbol all k → IsSymbol others k
  is-symbol k s = (s.0, symbol-there all others k s.0 both s.1)

  tags-are : (tags : List ℕ) → All (IsSymbol all) tags → All (IsSymbol others) tags
  tags-are tags h k d lt = is-symbol _ (h k d lt)

  node-like : (x y : Node) → Like x y → HasData y → IsNode all x → IsNode others y
  node-like (Symbol s) y l d is = subst (IsNode others) (sym l) is
  node-like (Str s) y l d is = subst (IsNode others) (sym l) is
  node-like (Binary c b) y l d is = subst (IsNode others) (sym l) (is-symbol c is.0, is.1)
  node-like (Large c b) y l d is = subst (IsNode others) (sym l.1) (is-symbol c is.0, subst HasData l.1 d)
  node-like (Array None v) y l d is = subst (IsNode others) (sym l) is
  node-like (Array (Some c) v) y l d is = subst (IsNode others) (sym l) (is-symbol c is.0, is.1)
  node-like (Frame t v) y l d is = subst (IsNode others) (sym l) (record { are_tags = is.are_tags; paired = is.paired; symbols = tags-are t is.symbols })

  nodes-like : (xs ys : List Node) → Both Like xs ys → All HasData ys → All (IsNode all) xs → All (IsNode others) ys
  nodes-like [] [] h d is = All-nil (IsNode others)
  nodes-like [] (y ∷ ys) h d is = absurd h
  nodes-like (x ∷ xs) [] h d is = absurd h
  nodes-like (x ∷ xs) (y ∷ ys) h d is = All-cons (IsNode others) y ys (node-like x y h.0 (All-head HasData y ys d) (All-head (IsNode all) x xs is)) (nodes-like xs ys h.1 (All-tail HasData y ys d) (All-tail (IsNode all) x xs is))

pub graph-like : (g h : RawGraph) → g.root ≡ h.root → Both Like g.nodes h.nodes → All HasData h.nodes → AreLight h.nodes → IsGraph g → IsGraph h
graph-like g h root both bytes light is = record {
  walk = subst (λ (r : Ref). Walk 200 0 r h.nodes) root (walk-like is.walk h.nodes both);
  few = subst (λ n. n ≤ 65535) (both-size g.nodes h.nodes both) is.few;
  light = light;
  each = nodes-like g.nodes h.nodes both g.nodes h.nodes both bytes is.each;
  folded_once = λ i k name a b. is.folded_once i k name (symbol-back g.nodes h.nodes i name both a) (b.0, symbol-back g.nodes h.nodes k b.0 both b.1, b.2);
}

-- ---- skeletons

bare-like : (nodes : List Node) → Both Like nodes (map bare_node nodes)
bare-like [] = tt
bare-like (Symbol s ∷ nodes) = (refl, bare-like nodes)
bare-like (Str s ∷ nodes) = (refl, bare-like nodes)
bare-like (Binary c b ∷ nodes) = (refl, bare-like nodes)
bare-like (Large c b ∷ nodes) = (([], refl), bare-like nodes)
bare-like (Array c v ∷ nodes) = (refl, bare-like nodes)
bare-like (Frame t v ∷ nodes) = (refl, bare-like nodes)

bare-data : (nodes : List Node) → All HasData (map bare_node nodes)
bare-data [] = All-nil HasData
bare-data (Symbol s ∷ nodes) = All-cons HasData (Symbol s) (map bare_node nodes) tt (bare-data nodes)
bare-data (Str s ∷ nodes) = All-cons HasData (Str s) (map bare_node nodes) tt (bare-data nodes)
bare-data (Binary c b ∷ nodes) = All-cons HasData (Binary c b) (map bare_node nodes) tt (bare-data nodes)
bare-data (Large c b ∷ nodes) = All-cons HasData (Large c []) (map bare_node nodes) (record { few = omega arith; each = All-nil (λ b. b < 256) }) (bare-data nodes)
bare-data (Array c v ∷ nodes) = All-cons HasData (Array c v) (map bare_node nodes) tt (bare-data nodes)
bare-data (Frame t v ∷ nodes) = All-cons HasData (Frame t v) (map bare_node nodes) tt (bare-data nodes)

bare-payload : (x : Node) → payload (bare_node x) ≤ payload x
bare-payload (Symbol s) = omega arith
bare-payload (Str s) = omega arith
bare-payload (Binary c b) = omega arith
bare-payload (Large c b) = omega arith
bare-payload (Array c v) = omega arith
bare-payload (Frame t v) = omega arith

bare-light : (nodes : List Node) → sum_by payload (map bare_node nodes) ≤ sum_by payload nodes
bare-light [] = omega arith
bare-light (x ∷ nodes) = omega (arith, sum_by-cons payload (bare_node x) (map bare_node nodes), sum_by-cons payload x nodes, bare-payload x, bare-light nodes)

pub skeleton-graph : (g : RawGraph) → IsGraph g → IsGraph (skeleton g)
skeleton-graph g is = graph-like g (skeleton g) refl (bare-like g.nodes) (bare-data g.nodes) (light-of (sum_by payload (map bare_node g.nodes)) (sum_by payload g.nodes) (bare-light g.nodes) is.light) is
  where
    light-of : (a b : ℕ) → a ≤ b → b ≤ 16777216 → a ≤ 16777216
    light-of a b h k = omega (arith, h, k)
