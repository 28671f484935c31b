-- A graph with other bytes, as many, in one of its large binaries: its skeleton, its rows, its limits and its pages are the same.
use Rattle.std.proofs.Common.{arith, ◌≡◌, ◌≢◌, refl, ap, sym, ◌∙◌, subst, ℕ, zero, suc, ◌+◌, ◌*◌, ◌≤◌, List, [], ◌∷◌, ◌++◌, ◌&&◌, Some, map, flat_map, zip, length, nat_le, sum}
use Rattle.std.specs.Prelude.{slice_get}
use Rattle.std.specs.FinMap as map
use Rattle.newt_base.specs.Text.{be16, be32}
use Rattle.newt_graph.specs.declared.node.Node.{Node}
use Rattle.newt_graph.specs.declared.node.Node.TheVariants.{Symbol, Str, Binary, Large, Array, Frame}
use Rattle.newt_graph.specs.Graph.{RawGraph}
use Rattle.newt_spec_image.specs.Objects.{Objects, pages_for}
use Rattle.newt_spec_nsof.specs.Flat.{flat}
use Rattle.newt_spec_nsof.specs.Lengths.{skeleton, bare as bare_node}
use Rattle.newt_spec_graph.specs.Graph.{change_nth}
use Rattle.newt_spec_graph.specs.Lists.{Each, Pairs}
use Rattle.newt_spec_graph.proofs.Lists.{each-at, each-more, get-among, some-same}
use Rattle.newt_spec_store.specs.Cost.{large_length, entry_pages}
use Rattle.newt_spec_store.specs.Image.{larges, large_row, entry_bytes}
use Rattle.newt_spec_store.specs.Lies.{HasLarge, AreLarges}
use Rattle.newt_spec_store.specs.Store.{Entry}
use Rattle.newt_spec_store.specs.StoreOf.{with_bytes, fill}
use Rattle.newt_spec_store.specs.Valid.{valid_entry}
use Rattle.newt_laws_images.proofs.Alike.{Alike, same-node, same-large, alike-limits, alike-frame}
use Rattle.newt_laws_images.proofs.Both.{Both}
use Rattle.newt_laws_images.proofs.Filled.{same-nodes}
use Rattle.newt_laws_images.proofs.Records.{larges_from}

-- ---- lists

nth-length : {X : Type 0} (n : ℕ) (f : X → X) (xs : List X) → length (change_nth n f xs) ≡ length xs
nth-length n f [] = refl
nth-length zero f (x ∷ xs) = refl
nth-length (suc n) f (x ∷ xs) = ap suc (nth-length n f xs)

-- ---- the nodes

bare-bytes : (b : List ℕ) (node : Node) → bare_node (with_bytes b node) ≡ bare_node node
bare-bytes b (Large c old) = refl
bare-bytes b node = refl

nth-bare : (n : ℕ) (b : List ℕ) (nodes : List Node) → map bare_node (change_nth n (with_bytes b) nodes) ≡ map bare_node nodes
nth-bare n b [] = refl
nth-bare zero b (x ∷ nodes) = ap (λ y. y ∷ map bare_node nodes) (bare-bytes b x)
nth-bare (suc n) b (x ∷ nodes) = ap (λ ys. bare_node x ∷ ys) (nth-bare n b nodes)

pub patched-skeleton : (g : RawGraph) (n : ℕ) (b : List ℕ) → skeleton (fill g (n, b)) ≡ skeleton g
patched-skeleton g n b = ap {A = List Node} {B = RawGraph} (λ ns. record { nodes = ns; root = g.root }) (nth-bare n b g.nodes)

nth-alike : (n c : ℕ) (old b : List ℕ) (nodes : List Node) → slice_get nodes n ≡ Some (Large c old) → length b ≡ length old → Both Alike (change_nth n (with_bytes b) nodes) nodes
nth-alike n c old b [] h same = tt
nth-alike zero c old b (x ∷ nodes) h same = (subst (λ (y : Node). Alike (with_bytes b y) y) (sym (some-same x (Large c old) h)) (same-large c b old same), same-nodes nodes)
nth-alike (suc n) c old b (x ∷ nodes) h same = (same-node x, nth-alike n c old b nodes h same)

nth-lengths : (n c : ℕ) (old b : List ℕ) (nodes : List Node) → slice_get nodes n ≡ Some (Large c old) → length b ≡ length old
    → flat_map large_length (change_nth n (with_bytes b) nodes) ≡ flat_map large_length nodes
nth-lengths n c old b [] h same = refl
nth-lengths zero c old b (x ∷ nodes) h same =
    ap (λ ls. ls ++ flat_map large_length nodes)
    (subst (λ (y : Node). large_length (with_bytes b y) ≡ large_length y) (sym (some-same x (Large c old) h)) (ap (λ m. m ∷ []) same))
nth-lengths (suc n) c old b (x ∷ nodes) h same = ap (λ ls. large_length x ++ ls) (nth-lengths n c old b nodes h same)

-- ---- an entry with such a graph

abbrev pub with_patch : Entry → ℕ → List ℕ → Entry
with_patch e n b = record e { graph = fill e.graph (n, b) }

pub patched-valid : (e : Entry) (n c : ℕ) (old b : List ℕ) → slice_get e.graph.nodes n ≡ Some (Large c old) → length b ≡ length old → valid_entry (with_patch e n b) ≡ valid_entry e
patched-valid e n c old b h same =
    let both = nth-alike n c old b e.graph.nodes h same in
    let framed = alike-frame (fill e.graph (n, b)) e.graph refl both in
    let limits = alike-limits (fill e.graph (n, b)) e.graph refl both in
    let long = ap (λ (k : RawGraph). length (flat k)) (patched-skeleton e.graph n b) in
    λ i. framed i && limits i && nat_le (long i) 64_000

pub patched-pages : (e : Entry) (n c : ℕ) (old b : List ℕ) → slice_get e.graph.nodes n ≡ Some (Large c old) → length b ≡ length old → entry_pages (with_patch e n b) ≡ entry_pages e
patched-pages e n c old b h same =
    let lengths = nth-lengths n c old b e.graph.nodes h same in
    let long = ap (λ (k : RawGraph). length (flat k)) (patched-skeleton e.graph n b) in
    λ i. pages_for (12 + long i + 12 * length (lengths i)) + sum (map pages_for (lengths i))

-- ---- the large binaries

numbers-above : (k : ℕ) (nodes : List Node) → Each (λ (l : ℕ × List ℕ). k ≤ l.0) (larges_from k nodes)
numbers-above k [] = tt
numbers-above k (Large c x ∷ nodes) = (omega arith, each-more (λ (l : ℕ × List ℕ). k + 1 ≤ l.0) (λ (l : ℕ × List ℕ). k ≤ l.0) (larges_from (k + 1) nodes) (λ l p. omega (arith, p)) (numbers-above (k + 1) nodes))
numbers-above k (Symbol s ∷ nodes) = each-more (λ (l : ℕ × List ℕ). k + 1 ≤ l.0) (λ (l : ℕ × List ℕ). k ≤ l.0) (larges_from (k + 1) nodes) (λ l p. omega (arith, p)) (numbers-above (k + 1) nodes)
numbers-above k (Str s ∷ nodes) = each-more (λ (l : ℕ × List ℕ). k + 1 ≤ l.0) (λ (l : ℕ × List ℕ). k ≤ l.0) (larges_from (k + 1) nodes) (λ l p. omega (arith, p)) (numbers-above (k + 1) nodes)
numbers-above k (Binary c x ∷ nodes) = each-more (λ (l : ℕ × List ℕ). k + 1 ≤ l.0) (λ (l : ℕ × List ℕ). k ≤ l.0) (larges_from (k + 1) nodes) (λ l p. omega (arith, p)) (numbers-above (k + 1) nodes)
numbers-above k (Array c v ∷ nodes) = each-more (λ (l : ℕ × List ℕ). k + 1 ≤ l.0) (λ (l : ℕ × List ℕ). k ≤ l.0) (larges_from (k + 1) nodes) (λ l p. omega (arith, p)) (numbers-above (k + 1) nodes)
numbers-above k (Frame t v ∷ nodes) = each-more (λ (l : ℕ × List ℕ). k + 1 ≤ l.0) (λ (l : ℕ × List ℕ). k ≤ l.0) (larges_from (k + 1) nodes) (λ l p. omega (arith, p)) (numbers-above (k + 1) nodes)

-- the first number is no later one's
not-later : (k j at : ℕ) (old : List ℕ) (nodes : List Node) → j ≡ k → slice_get (larges_from (k + 1) nodes) at ≡ Some (j, old) → ⊥
not-later k j at old nodes e h =
    let above = each-at (λ (l : ℕ × List ℕ). k + 1 ≤ l.0) (larges_from (k + 1) nodes) (j, old) (numbers-above (k + 1) nodes) (get-among (larges_from (k + 1) nodes) at (j, old) h) in
    omega (arith, above, e)

abbrev put : List ℕ → ℕ × List ℕ → ℕ × List ℕ
put b l = (l.0, b)

larges-patched : (k n j at : ℕ) (old b : List ℕ) (nodes : List Node) → j ≡ k + n → slice_get (larges_from k nodes) at ≡ Some (j, old)
    → larges_from k (change_nth n (with_bytes b) nodes) ≡ change_nth at (put b) (larges_from k nodes)
larges-patched k n j at old b [] e h = refl
larges-patched k zero j zero old b (Large c x ∷ nodes) e h = refl
larges-patched k zero j (suc at) old b (Large c x ∷ nodes) e h = absurd (not-later k j at old nodes (omega (arith, e)) h)
larges-patched k (suc n) j zero old b (Large c x ∷ nodes) e h = absurd (omega (arith, e, ap (λ (l : ℕ × List ℕ). l.0) (some-same {X = ℕ × List ℕ} (k, x) (j, old) h)))
larges-patched k (suc n) j (suc at) old b (Large c x ∷ nodes) e h = ap (λ ls. (k, x) ∷ ls) (larges-patched (k + 1) n j at old b nodes (omega (arith, e)) h)
larges-patched k zero j at old b (Symbol s ∷ nodes) e h = absurd (not-later k j at old nodes (omega (arith, e)) h)
larges-patched k zero j at old b (Str s ∷ nodes) e h = absurd (not-later k j at old nodes (omega (arith, e)) h)
larges-patched k zero j at old b (Binary c x ∷ nodes) e h = absurd (not-later k j at old nodes (omega (arith, e)) h)
larges-patched k zero j at old b (Array c v ∷ nodes) e h = absurd (not-later k j at old nodes (omega (arith, e)) h)
larges-patched k zero j at old b (Frame t v ∷ nodes) e h = absurd (not-later k j at old nodes (omega (arith, e)) h)
larges-patched k (suc n) j at old b (Symbol s ∷ nodes) e h = larges-patched (k + 1) n j at old b nodes (omega (arith, e)) h
larges-patched k (suc n) j at old b (Str s ∷ nodes) e h = larges-patched (k + 1) n j at old b nodes (omega (arith, e)) h
larges-patched k (suc n) j at old b (Binary c x ∷ nodes) e h = larges-patched (k + 1) n j at old b nodes (omega (arith, e)) h
larges-patched k (suc n) j at old b (Array c v ∷ nodes) e h = larges-patched (k + 1) n j at old b nodes (omega (arith, e)) h
larges-patched k (suc n) j at old b (Frame t v ∷ nodes) e h = larges-patched (k + 1) n j at old b nodes (omega (arith, e)) h

-- ---- the rows

rows-same : (at n : ℕ) (old b : List ℕ) (ls : List (ℕ × List ℕ)) (ids : List ℕ) → slice_get ls at ≡ Some (n, old) → length b ≡ length old
    → flat_map large_row (zip (change_nth at (put b) ls) ids) ≡ flat_map large_row (zip ls ids)
rows-same at n old b [] ids h same = refl
rows-same zero n old b (l ∷ ls) [] h same = refl
rows-same (suc at) n old b (l ∷ ls) [] h same = refl
rows-same zero n old b (l ∷ ls) (i ∷ ids) h same =
    ap (λ m. be32 l.0 ++ be32 i ++ be32 m ++ flat_map large_row (zip ls ids)) (same ∙ ap (λ (k : ℕ × List ℕ). length k.1) (sym (some-same {X = ℕ × List ℕ} l (n, old) h)))
rows-same (suc at) n old b (l ∷ ls) (i ∷ ids) h same = ap (λ bs. large_row (l, i) ++ bs) (rows-same at n old b ls ids h same)

pub patched-bytes : (sig : ℕ) (e : Entry) (ids : List ℕ) (at n : ℕ) (old b : List ℕ) → slice_get (larges e.graph) at ≡ Some (n, old) → length b ≡ length old
    → entry_bytes sig (with_patch e n b) ids ≡ entry_bytes sig e ids
patched-bytes sig e ids at n old b h same =
    let rows = ap (λ (ls : List (ℕ × List ℕ)). flat_map large_row (zip ls ids)) (larges-patched 0 n n at old b e.graph.nodes (omega arith) h) ∙ rows-same at n old b (larges e.graph) ids h same in
    λ i. be16 sig ++ be16 (length ids) ++ be32 e.uid ++ be32 e.time ++ flat (patched-skeleton e.graph n b i) ++ rows i

-- ---- the objects

there-still : (objects objects' : Objects) (o : ℕ) (ls : List (ℕ × List ℕ)) (ids : List ℕ) → ((q : ℕ) → q ≢ o → map.get objects' q ≡ map.get objects q) → Each (λ i. o ≢ i) ids
    → Each (HasLarge objects) (zip ls ids) → Each (HasLarge objects') (zip ls ids)
there-still objects objects' o [] ids others apart h = tt
there-still objects objects' o (l ∷ ls) [] others apart h = tt
there-still objects objects' o (l ∷ ls) (i ∷ ids) others apart h =
    ((h.0.0, h.0.1, h.0.2, others i (λ e. apart.0 (sym e)) ∙ h.0.3), there-still objects objects' o ls ids others apart.1 h.1)

there-patched : (objects objects' : Objects) (at o : ℕ) (b : List ℕ) (ls : List (ℕ × List ℕ)) (ids : List ℕ) → slice_get ids at ≡ Some o → map.get objects' o ≡ Some b
    → ((q : ℕ) → q ≢ o → map.get objects' q ≡ map.get objects q) → Pairs (λ i k. i ≢ k) ids → Each (HasLarge objects) (zip ls ids) → Each (HasLarge objects') (zip (change_nth at (put b) ls) ids)
there-patched objects objects' at o b [] ids is there others apart h = tt
there-patched objects objects' zero o b (l ∷ ls) [] is there others apart h = tt
there-patched objects objects' (suc at) o b (l ∷ ls) [] is there others apart h = tt
there-patched objects objects' zero o b (l ∷ ls) (i ∷ ids) is there others apart h =
    let same = some-same i o is in (
      (h.0.0, h.0.1, h.0.2, ap (map.get objects') same ∙ there),
      there-still objects objects' i ls ids (λ q n. others q (λ e. n (e ∙ sym same))) apart.0 h.1,
    )
there-patched objects objects' (suc at) o b (l ∷ ls) (i ∷ ids) is there others apart h = (
  (h.0.0, h.0.1, h.0.2, others i (each-at (λ k. i ≢ k) ids o apart.0 (get-among ids at o is)) ∙ h.0.3),
  there-patched objects objects' at o b ls ids is there others apart.1 h.1,
)

pub patched-there : (objects objects' : Objects) (g : RawGraph) (ids : List ℕ) (at n o : ℕ) (old b : List ℕ) → slice_get (larges g) at ≡ Some (n, old) → slice_get ids at ≡ Some o
    → map.get objects' o ≡ Some b → ((q : ℕ) → q ≢ o → map.get objects' q ≡ map.get objects q) → AreLarges objects g ids → AreLarges objects' (fill g (n, b)) ids
patched-there objects objects' g ids at n o old b h is there others are =
    let ls : larges (fill g (n, b)) ≡ change_nth at (put b) (larges g) = larges-patched 0 n n at old b g.nodes (omega arith) h in
    record {
      each_named = ap length ls ∙ nth-length at (put b) (larges g) ∙ are.each_named;
      there = subst (λ (ks : List (ℕ × List ℕ)). Each (HasLarge objects') (zip ks ids)) (sym ls) (there-patched objects objects' at o b (larges g) ids is there others are.apart are.there);
      apart = are.apart;
    }
