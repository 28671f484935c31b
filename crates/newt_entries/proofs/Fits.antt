-- Whether a skeleton and its rows may be those of an entry, test by test.
use Rattle.std.proofs.Common.{arith, ◌≡◌, refl, ap, sym, subst, ◌∙◌, ℕ, zero, suc, ◌+◌, ◌<◌, ◌≤◌, List, [], ◌∷◌, true, false, Bool, ◌&&◌, length, fold, map, sum_by, nat_le, leb-true, Vec, Global}
use Rattle.std.specs.Prelude.{slice_get, All, replicate}
use Rattle.std.specs.List.{list_all, sum}
use Rattle.std.proofs.lemmas.Bool.{and_parts}
use Rattle.std.proofs.lemmas.List.{length-map, length-replicate}
use Rattle.std.proofs.lemmas.List.Elements.{All-nil, All-cons}
use Rattle.std.proofs.lemmas.List.Folds.{list_all-map}
use Rattle.std.proofs.lemmas.List.Sums.{sum-map, sum_by-cons}
use Rattle.newt_graph.specs.declared.node.Ref.{Ref}
use Rattle.newt_graph.specs.declared.node.Ref.TheVariants as refs
use Rattle.newt_graph.specs.declared.node.Node.{Node}
use Rattle.newt_graph.specs.declared.node.Node.TheVariants.{Large}
use Rattle.newt_graph.specs.Graph.{RawGraph, IsGraph, payload}
use Rattle.newt_spec_nsof.specs.Lengths.{skeleton, bare as bare_node}
use Rattle.newt_spec_nsof.specs.Flat.{flat}
use Rattle.newt_spec_graph.specs.Graph.{object, is_frame}
use Rattle.newt_spec_graph.specs.Limits.{within_limits}
use Rattle.newt_spec_store.specs.Lies.{may_be_large, stretched}
use Rattle.newt_spec_store.specs.StoreOf.{LargeRow, fill}
use Rattle.newt_spec_store.specs.Valid.{valid_entry}
use Rattle.newt_laws_images.proofs.Alone.{zeros, zipped}
use Rattle.newt_entries.specs.declared.row.LargeAt.{LargeAt}
use Rattle.newt_entries.specs.Entry.{row_at, names_from, fits, filled}
use Rattle.newt_entries.specs.Filling.{next_of, put_node, put_in, HasBytes}
use Rattle.newt_entries.proofs.Putting.{named-empty, named-count, named-few, put_graph, filled-is, put-limits, put-is_graph}

-- ---- what a skeleton has that is filled

put-get : (nodes : List Node) (bs : List (List ℕ)) (k : ℕ) → is_frame (slice_get (put_in nodes bs) k) ≡ is_frame (slice_get nodes k)
put-get [] bs k = refl
put-get (Large c old ∷ nodes) bs zero = refl
put-get (x ∷ nodes) bs zero = refl
put-get (x ∷ nodes) bs (suc k) = put-get nodes (put_node x bs).1 k

put-frame : (nodes : List Node) (bs : List (List ℕ)) (r : Ref) → is_frame (object (put_in nodes bs) r) ≡ is_frame (object nodes r)
put-frame nodes bs (refs.Imm w) = refl
put-frame nodes bs (refs.Node k) = put-get nodes bs k

put-bare : (nodes : List Node) (bs : List (List ℕ)) → map bare_node (put_in nodes bs) ≡ map bare_node nodes
put-bare [] bs = refl
put-bare (Large c old ∷ nodes) bs = ap (λ ns. Large c [] ∷ ns) (put-bare nodes (next_of bs).1)
put-bare (x ∷ nodes) bs = ap (λ ns. bare_node x ∷ ns) (put-bare nodes (put_node x bs).1)

-- ---- as many zeros as the rows say

zeros-sum : (rows : List LargeAt) → sum_by (λ (b : List ℕ). length b) (zeros (map row_at rows)) ≡ sum_by (λ (l : LargeAt). l.length) rows
zeros-sum [] = refl
zeros-sum (l ∷ rows) =
    omega (arith, sum_by-cons (λ (b : List ℕ). length b) (replicate l.length 0) (zeros (map row_at rows)), sum_by-cons (λ (l : LargeAt). l.length) l rows, length-replicate {A = ℕ} l.length 0, zeros-sum rows)

zeros-short : (rows : List LargeAt) → list_all (λ (b : List ℕ). nat_le (length b) 1000000) (zeros (map row_at rows)) ≡ list_all (λ (l : LargeAt). nat_le l.length 1000000) rows
zeros-short [] = refl
zeros-short (l ∷ rows) = λ i. nat_le (length-replicate {A = ℕ} l.length 0 i) 1000000 && zeros-short rows i

zeros-count : (rows : List LargeAt) → length (map row_at rows) ≡ length (zeros (map row_at rows))
zeros-count rows = sym (length-map (map row_at rows) (λ (l : LargeRow). replicate l.2 0))

stretched-is : (rows : List LargeAt) (g : RawGraph) → names_from 0 g.nodes (map row_at rows) ≡ true → stretched (map row_at rows) g ≡ put_graph g (zeros (map row_at rows))
stretched-is rows g named =
    ap {A = List (ℕ × List ℕ)} {B = RawGraph} (fold fill g) (sym (zipped (map row_at rows))) ∙ filled-is (map row_at rows) g (zeros (map row_at rows)) named (zeros-count rows)

-- ---- the tests

pub within-is : (rows : List LargeAt) (g : RawGraph) → IsGraph g → names_from 0 g.nodes (map row_at rows) ≡ true
    → within_limits (stretched (map row_at rows) g) ≡ (nat_le (sum_by payload g.nodes + sum_by (λ (l : LargeAt). l.length) rows) 16777216 && list_all (λ (l : LargeAt). nat_le l.length 1000000) rows)
within-is rows g is named =
    ap within_limits (stretched-is rows g named)
    ∙ put-limits g (zeros (map row_at rows)) is (named-empty 0 g.nodes (map row_at rows) named) (named-count 0 g.nodes (map row_at rows) named ∙ zeros-count rows)
    ∙ (λ i. nat_le (sum_by payload g.nodes + zeros-sum rows i) 16777216 && zeros-short rows i)

keep : (t s : Bool) → s ≡ true → t ≡ (t && s)
keep true s h = sym h
keep false s h = refl

drop-it : (t s : Bool) → s ≡ false → (t && s) ≡ false
drop-it true s h = h
drop-it false s h = refl

pub within-short : (rows : List LargeAt) (g : RawGraph) (a b : ℕ) → IsGraph g → names_from 0 g.nodes (map row_at rows) ≡ true → a ≡ sum_by payload g.nodes → b ≡ sum_by (λ (l : LargeAt). l.length) rows
    → list_all (λ (l : LargeAt). nat_le l.length 1000000) rows ≡ true → nat_le (a + b) 16777216 ≡ within_limits (stretched (map row_at rows) g)
within-short rows g a b is named of_nodes of_rows short =
    (λ i. nat_le (of_nodes i + of_rows i) 16777216) ∙ keep (nat_le (sum_by payload g.nodes + sum_by (λ (l : LargeAt). l.length) rows) 16777216) (list_all (λ (l : LargeAt). nat_le l.length 1000000) rows) short
    ∙ sym (within-is rows g is named)

pub within-long : (rows : List LargeAt) (g : RawGraph) → IsGraph g → names_from 0 g.nodes (map row_at rows) ≡ true → list_all (λ (l : LargeAt). nat_le l.length 1000000) rows ≡ false
    → within_limits (stretched (map row_at rows) g) ≡ false
within-long rows g is named long =
    within-is rows g is named ∙ drop-it (nat_le (sum_by payload g.nodes + sum_by (λ (l : LargeAt). l.length) rows) 16777216) (list_all (λ (l : LargeAt). nat_le l.length 1000000) rows) long

abbrev pub all_may : List LargeAt → Bool
all_may rows = list_all (λ (l : LargeAt). may_be_large (row_at l)) rows

pub fits-is : (rows : List LargeAt) (g : RawGraph) → names_from 0 g.nodes (map row_at rows) ≡ true
    → fits (map row_at rows) g ≡ (all_may rows && (is_frame (object g.nodes g.root) && within_limits (stretched (map row_at rows) g) && nat_le (length (flat (skeleton g))) 64_000))
fits-is rows g named = λ i. (named i && may i) && (framed i && within_limits (stretched (map row_at rows) g) && nat_le (length (flat (bare i))) 64_000)
  where
    zs : List (List ℕ)
    zs = zeros (map row_at rows)

    may : list_all may_be_large (map row_at rows) ≡ all_may rows
    may = list_all-map may_be_large row_at rows

    framed : is_frame (object (stretched (map row_at rows) g).nodes (stretched (map row_at rows) g).root) ≡ is_frame (object g.nodes g.root)
    framed = ap (λ (k : RawGraph). is_frame (object k.nodes k.root)) (stretched-is rows g named) ∙ put-frame g.nodes zs g.root

    bare : skeleton (stretched (map row_at rows) g) ≡ skeleton g
    bare = ap skeleton (stretched-is rows g named) ∙ ap {A = List Node} {B = RawGraph} (λ ns. record { nodes = ns; root = g.root }) (put-bare g.nodes zs)

pub unfit-named : (rows : List LargeRow) (g : RawGraph) → names_from 0 g.nodes rows ≡ false → fits rows g ≡ false
unfit-named rows g named = λ i. (named i && list_all may_be_large rows) && (is_frame (object (stretched rows g).nodes (stretched rows g).root) && within_limits (stretched rows g) && nat_le (length (flat (skeleton (stretched rows g)))) 64_000)

-- ---- what fitting rows have

fit-named : (rows : List LargeRow) (g : RawGraph) → fits rows g ≡ true → names_from 0 g.nodes rows ≡ true
fit-named rows g h =
    let valid : Bool = is_frame (object (stretched rows g).nodes (stretched rows g).root) && within_limits (stretched rows g) && nat_le (length (flat (skeleton (stretched rows g)))) 64_000 in
    let p = and_parts (names_from 0 g.nodes rows && list_all may_be_large rows) valid h in
    (and_parts (names_from 0 g.nodes rows) (list_all may_be_large rows) p.0).0

fit-within : (rows : List LargeRow) (g : RawGraph) → fits rows g ≡ true → within_limits (stretched rows g) ≡ true
fit-within rows g h =
    let framed : Bool = is_frame (object (stretched rows g).nodes (stretched rows g).root) in
    let short : Bool = nat_le (length (flat (skeleton (stretched rows g)))) 64_000 in
    let p = and_parts (names_from 0 g.nodes rows && list_all may_be_large rows) (framed && within_limits (stretched rows g) && short) h in
    let q = and_parts (framed && within_limits (stretched rows g)) short p.1 in
    (and_parts framed (within_limits (stretched rows g)) q.0).1

-- no large binary of such rows is too long
pub fit-short : (rows : List LargeAt) (g : RawGraph) → IsGraph g → fits (map row_at rows) g ≡ true → All (λ (l : LargeAt). l.length ≤ 1000000) rows
fit-short rows g is h =
    let within = sym (within-is rows g is (fit-named (map row_at rows) g h)) ∙ fit-within (map row_at rows) g h in
    go rows (and_parts (nat_le (sum_by payload g.nodes + sum_by (λ (l : LargeAt). l.length) rows) 16777216) (list_all (λ (l : LargeAt). nat_le l.length 1000000) rows) within).1
  where
    go : (rows : List LargeAt) → list_all (λ (l : LargeAt). nat_le l.length 1000000) rows ≡ true → All (λ (l : LargeAt). l.length ≤ 1000000) rows
    go [] h = All-nil (λ (l : LargeAt). l.length ≤ 1000000)
    go (l ∷ rows) h =
        let p = and_parts (nat_le l.length 1000000) (list_all (λ (l : LargeAt). nat_le l.length 1000000) rows) h in
        All-cons (λ (l : LargeAt). l.length ≤ 1000000) l rows (leb-true l.length 1000000 p.0) (go rows p.1)

pub fit-few : (rows : List LargeAt) (g : RawGraph) → IsGraph g → fits (map row_at rows) g ≡ true → length rows < 65536
fit-few rows g is h =
    let few = is.few in
    let named = named-few 0 g.nodes (map row_at rows) (fit-named (map row_at rows) g h) in
    let size = length-map rows row_at in
    omega (arith, few, named, size)

-- ---- filled with bytes of the rows' lengths

abbrev AsLong : List (List ℕ) → List LargeAt → Type 0
AsLong bs rows = map (λ (b : List ℕ). length b) bs ≡ map (λ (l : LargeAt). l.length) rows

as-many : (bs : List (List ℕ)) (rows : List LargeAt) → AsLong bs rows → length (map row_at rows) ≡ length bs
as-many bs rows h = length-map rows row_at ∙ sym (length-map rows (λ (l : LargeAt). l.length)) ∙ sym (ap length h) ∙ length-map bs (λ (b : List ℕ). length b)

lengths-sum : (bs : List (List ℕ)) (rows : List LargeAt) → AsLong bs rows → sum_by (λ (b : List ℕ). length b) bs ≡ sum_by (λ (l : LargeAt). l.length) rows
lengths-sum bs rows h = sym (sum-map (λ (b : List ℕ). length b) bs) ∙ ap sum h ∙ sum-map (λ (l : LargeAt). l.length) rows

lengths-short : (bs : List (List ℕ)) (rows : List LargeAt) → AsLong bs rows
    → list_all (λ (b : List ℕ). nat_le (length b) 1000000) bs ≡ list_all (λ (l : LargeAt). nat_le l.length 1000000) rows
lengths-short bs rows h = sym (list_all-map (λ n. nat_le n 1000000) (λ (b : List ℕ). length b) bs) ∙ ap (list_all (λ n. nat_le n 1000000)) h ∙ list_all-map (λ n. nat_le n 1000000) (λ (l : LargeAt). l.length) rows

pub filled-nodes : (rows : List LargeAt) (g : RawGraph) (bs : List (List ℕ)) → fits (map row_at rows) g ≡ true → AsLong bs rows → filled (map row_at rows) g bs ≡ put_graph g bs
filled-nodes rows g bs h long = filled-is (map row_at rows) g bs (fit-named (map row_at rows) g h) (as-many bs rows long)

within-filled : (rows : List LargeAt) (g : RawGraph) (bs : List (List ℕ)) → IsGraph g → fits (map row_at rows) g ≡ true → AsLong bs rows → within_limits (put_graph g bs) ≡ true
within-filled rows g bs is h long =
    let named = fit-named (map row_at rows) g h in
    put-limits g bs is (named-empty 0 g.nodes (map row_at rows) named) (named-count 0 g.nodes (map row_at rows) named ∙ as-many bs rows long)
    ∙ (λ i. nat_le (sum_by payload g.nodes + lengths-sum bs rows long i) 16777216 && lengths-short bs rows long i) ∙ sym (within-is rows g is named) ∙ fit-within (map row_at rows) g h

-- it may be an entry's
pub filled-valid : (rows : List LargeAt) (g : RawGraph) (bs : List (List ℕ)) (uid time : ℕ) → IsGraph g → fits (map row_at rows) g ≡ true → AsLong bs rows
    → valid_entry (record { uid = uid; time = time; graph = filled (map row_at rows) g bs }) ≡ true
filled-valid rows g bs uid time is h long = ap (λ (k : RawGraph). valid_entry (record { uid = uid; time = time; graph = k })) (filled-nodes rows g bs h long) ∙ test
  where
    passed : (all_may rows && (is_frame (object g.nodes g.root) && within_limits (stretched (map row_at rows) g) && nat_le (length (flat (skeleton g))) 64_000)) ≡ true
    passed = sym (fits-is rows g (fit-named (map row_at rows) g h)) ∙ h

    parts : (is_frame (object g.nodes g.root) ≡ true) × (nat_le (length (flat (skeleton g))) 64_000 ≡ true)
    parts =
        let within : Bool = within_limits (stretched (map row_at rows) g) in
        let framed : Bool = is_frame (object g.nodes g.root) in
        let short : Bool = nat_le (length (flat (skeleton g))) 64_000 in
        let p = (and_parts (all_may rows) (framed && within && short) passed).1 in
        let q = and_parts (framed && within) short p in
        ((and_parts framed within q.0).0, q.1)

    bare : skeleton (put_graph g bs) ≡ skeleton g
    bare = ap {A = List Node} {B = RawGraph} (λ ns. record { nodes = ns; root = g.root }) (put-bare g.nodes bs)

    test : (is_frame (object (put_in g.nodes bs) g.root) && within_limits (put_graph g bs) && nat_le (length (flat (skeleton (put_graph g bs)))) 64_000) ≡ true
    test = (λ i. put-frame g.nodes bs g.root i && within-filled rows g bs is h long i && nat_le (length (flat (bare i))) 64_000) ∙ (λ i. parts.0 i && true && parts.1 i)

pub filled-is_graph : (rows : List LargeAt) (g : RawGraph) (bs : List (List ℕ)) → IsGraph g → fits (map row_at rows) g ≡ true → AsLong bs rows → All HasBytes (put_in g.nodes bs) → IsGraph (put_graph g bs)
filled-is_graph rows g bs is h long bytes =
    let named = fit-named (map row_at rows) g h in
    put-is_graph g bs is (named-empty 0 g.nodes (map row_at rows) named) (named-count 0 g.nodes (map row_at rows) named ∙ as-many bs rows long) bytes (within-filled rows g bs is h long)

-- the same of nodes and a root that were made so
pub made-is_graph : (rows : List LargeAt) (g : RawGraph) (bs : List (List ℕ)) (nodes : List Node) (root : Ref) → IsGraph g → fits (map row_at rows) g ≡ true → AsLong bs rows → nodes ≡ put_in g.nodes bs → All HasBytes nodes
    → root ≡ g.root → ◌≡◌ {A = RawGraph} (record { nodes = nodes; root = root }) (filled (map row_at rows) g bs) × IsGraph (record { nodes = nodes; root = root })
made-is_graph rows g bs nodes root is h long of_nodes bytes of_root =
    let same : ◌≡◌ {A = RawGraph} (record { nodes = nodes; root = root }) (put_graph g bs) = λ i. record { nodes = of_nodes i; root = of_root i } in (
      same ∙ sym (filled-nodes rows g bs h long),
      subst IsGraph (sym same) (filled-is_graph rows g bs is h long (subst (All HasBytes) of_nodes bytes)),
    )

-- without large binaries a skeleton is the graph itself
pub nothing-filled : (rows : List LargeRow) (g : RawGraph) (larges : List (Vec ℕ Global)) → length larges ≡ 0 → g ≡ filled rows g (map (λ bytes. bytes.items) larges)
nothing-filled [] g [] e = refl
nothing-filled (r ∷ rows) g [] e = refl
nothing-filled rows g (b ∷ bs) e = absurd (omega (arith, e))
