-- The nodes of a skeleton with bytes in its large binaries: what is filled in, and that it is a graph where it is within the limits.
use Rattle.std.proofs.Common.{arith, ◌≡◌, refl, ap, sym, ◌∙◌, subst, ℕ, suc, ◌+◌, ◌≤◌, List, [], ◌∷◌, ◌++◌, true, false, Bool, ◌&&◌, cond, Some, None, is_some, length, fold, map, zip, sum_by, nat_le, ◌==◌, leb-true}
use Rattle.std.specs.Prelude.{All, bytes_eq}
use Rattle.std.specs.List.{list_all}
use Rattle.std.proofs.lemmas.Bool.{eqb-true, and_parts, le-leb}
use Rattle.std.proofs.lemmas.List.{length-map}
use Rattle.std.proofs.lemmas.List.Elements.{All-nil, All-cons, All-head, All-tail}
use Rattle.std.proofs.lemmas.List.Sums.{sum_by-cons}
use Rattle.newt_graph.specs.Draft.{is_small}
use Rattle.newt_graph.specs.declared.node.Ref.{Ref}
use Rattle.newt_graph.specs.declared.node.Ref.TheVariants as refs
use Rattle.newt_graph.specs.declared.node.Node.{Node}
use Rattle.newt_graph.specs.declared.node.Node.TheVariants.{Large, Array, Frame}
use Rattle.newt_graph.specs.Graph.{RawGraph, WalkLabel, WalkLabels, Walk, Walks, IsNode, IsGraph, payload}
use Rattle.newt_graph.specs.Meeting.{normal_form, limited}
use Rattle.newt_graph.proofs.Follows.{walked_form}
use Rattle.newt_spec_graph.specs.Limits.{within_limits}
use Rattle.newt_spec_store.specs.StoreOf.{LargeRow, fill, with_bytes}
use Rattle.newt_laws_images.proofs.Both.{Both}
use Rattle.newt_laws_images.proofs.Records.{larges_from, at-length, push-length, fill_nodes, fold-fill}
use Rattle.newt_laws_images.proofs.Rows.{text-same}
use Rattle.newt_laws_images.proofs.Skeletons.{Like, graph-like, HasData}
use Rattle.newt_laws_images.proofs.Filled.{numbers_from, step}
use Rattle.newt_entries.specs.Entry.{names_from, filled}
use Rattle.newt_entries.specs.Filling.{next_of, put_node, put_in, HasBytes}
use Rattle.newt_laws_images.proofs.Within.{node-within}

-- the large binaries have no bytes
abbrev pub AreEmpty : ℕ → List Node → Type 0
AreEmpty k nodes = list_all (λ (l : ℕ × List ℕ). length l.1 == 0) (larges_from k nodes) ≡ true

-- the nodes before these are filled already
put-fills : (pre nodes : List Node) (bs : List (List ℕ)) → length (larges_from (length pre) nodes) ≡ length bs → fold fill_nodes (pre ++ nodes) (zip (numbers_from (length pre) nodes) bs) ≡ pre ++ put_in nodes bs
put-fills pre [] bs e = refl
put-fills pre (Large c old ∷ nodes) [] e = absurd (omega (arith, e))
put-fills pre (Large c old ∷ nodes) (b ∷ bs) e =
    ap (λ ns. fold fill_nodes ns (zip (numbers_from (length pre + 1) nodes) bs)) (at-length (with_bytes b) pre (Large c old) nodes)
    ∙ step pre (Large c b) nodes (put_in nodes bs) bs
    (put-fills (pre ++ Large c b ∷ []) nodes bs (ap (λ k. length (larges_from k nodes)) (push-length pre (Large c b)) ∙ omega (arith, e)))
put-fills pre (x ∷ nodes) bs e =
    step pre x nodes (put_in nodes bs) bs (put-fills (pre ++ x ∷ []) nodes bs (ap (λ k. length (larges_from k nodes)) (push-length pre x) ∙ e))

put-like : (nodes : List Node) (bs : List (List ℕ)) → Both Like nodes (put_in nodes bs)
put-like [] bs = tt
put-like (Large c old ∷ nodes) [] = (([], refl), put-like nodes [])
put-like (Large c old ∷ nodes) (b ∷ bs) = ((b, refl), put-like nodes bs)
put-like (x ∷ nodes) bs = (refl, put-like nodes bs)

put-weight : (k : ℕ) (nodes : List Node) (bs : List (List ℕ)) → AreEmpty k nodes → length (larges_from k nodes) ≡ length bs
    → sum_by payload (put_in nodes bs) ≡ sum_by payload nodes + sum_by (λ (b : List ℕ). length b) bs
put-weight k [] [] h e = refl
put-weight k [] (b ∷ bs) h e = absurd (omega (arith, e))
put-weight k (Large c old ∷ nodes) [] h e = absurd (omega (arith, e))
put-weight k (Large c old ∷ nodes) (b ∷ bs) h e =
    let p = and_parts (length old == 0) (list_all (λ (l : ℕ × List ℕ). length l.1 == 0) (larges_from (k + 1) nodes)) h in
    let none : length old ≡ 0 = eqb-true (length old) 0 p.0 in
    let more = put-weight (k + 1) nodes bs p.1 (omega (arith, e)) in
    omega (arith, sum_by-cons payload (Large c b) (put_in nodes bs), sum_by-cons payload (Large c old) nodes, sum_by-cons (λ (b : List ℕ). length b) b bs, more, none)
put-weight k (x ∷ nodes) bs h e =
    let more = put-weight (k + 1) nodes bs h e in
    omega (arith, sum_by-cons payload x (put_in nodes bs), sum_by-cons payload x nodes, more)

put-within : (k : ℕ) (nodes : List Node) (bs : List (List ℕ)) → list_all is_small nodes ≡ true → length (larges_from k nodes) ≡ length bs
    → list_all is_small (put_in nodes bs) ≡ list_all (λ (b : List ℕ). nat_le (length b) 1000000) bs
put-within k [] [] w e = refl
put-within k [] (b ∷ bs) w e = absurd (omega (arith, e))
put-within k (Large c old ∷ nodes) [] w e = absurd (omega (arith, e))
put-within k (Large c old ∷ nodes) (b ∷ bs) w e =
    let p = and_parts (is_small (Large c old)) (list_all is_small nodes) w in
    ap (λ t. nat_le (length b) 1000000 && t) (put-within (k + 1) nodes bs p.1 (omega (arith, e)))
put-within k (x ∷ nodes) bs w e =
    let p = and_parts (is_small x) (list_all is_small nodes) w in
    ap (λ t. t && list_all is_small (put_in nodes bs)) p.0 ∙ put-within (k + 1) nodes bs p.1 e

pub larges-few : (k : ℕ) (nodes : List Node) → length (larges_from k nodes) ≤ length nodes
larges-few k [] = omega arith
larges-few k (Large c b ∷ nodes) = omega (arith, larges-few (k + 1) nodes)
larges-few k (x ∷ nodes) = omega (arith, larges-few (k + 1) nodes)

-- ---- rows that name the large binaries

named-parts : (k : ℕ) (nodes : List Node) (rows : List LargeRow) → names_from k nodes rows ≡ true → (numbers_from k nodes ≡ map (λ (l : LargeRow). l.0) rows) × AreEmpty k nodes
named-parts k nodes rows h =
    let p = and_parts (bytes_eq (numbers_from k nodes) (map (λ (l : LargeRow). l.0) rows)) (list_all (λ (l : ℕ × List ℕ). length l.1 == 0) (larges_from k nodes)) h in
    (text-same (numbers_from k nodes) (map (λ (l : LargeRow). l.0) rows) p.0, p.1)

pub named-empty : (k : ℕ) (nodes : List Node) (rows : List LargeRow) → names_from k nodes rows ≡ true → AreEmpty k nodes
named-empty k nodes rows h = (named-parts k nodes rows h).1

pub named-count : (k : ℕ) (nodes : List Node) (rows : List LargeRow) → names_from k nodes rows ≡ true → length (larges_from k nodes) ≡ length rows
named-count k nodes rows h = sym (length-map (larges_from k nodes) (λ (l : ℕ × List ℕ). l.0)) ∙ ap length (named-parts k nodes rows h).0 ∙ length-map rows (λ (l : LargeRow). l.0)

pub named-few : (k : ℕ) (nodes : List Node) (rows : List LargeRow) → names_from k nodes rows ≡ true → length rows ≤ length nodes
named-few k nodes rows h = omega (arith, named-count k nodes rows h, larges-few k nodes)

-- the nodes and the root of a skeleton that is filled
abbrev pub put_graph : RawGraph → List (List ℕ) → RawGraph
put_graph g bs = record { nodes = put_in g.nodes bs; root = g.root }

pub filled-is : (rows : List LargeRow) (g : RawGraph) (bs : List (List ℕ)) → names_from 0 g.nodes rows ≡ true → length rows ≡ length bs → filled rows g bs ≡ put_graph g bs
filled-is rows g bs h e =
    let count : length (larges_from 0 g.nodes) ≡ length bs = named-count 0 g.nodes rows h ∙ e in
    ap {A = List ℕ} {B = RawGraph} (λ ns. fold fill g (zip ns bs)) (sym (named-parts 0 g.nodes rows h).0)
    ∙ fold-fill g.root g.nodes (zip (numbers_from 0 g.nodes) bs)
    ∙ ap {A = List Node} {B = RawGraph} (λ ns. record { nodes = ns; root = g.root }) (put-fills [] g.nodes bs count)

-- ---- the limits

limited-some : (g : RawGraph) → is_some (limited g) ≡ (nat_le (length g.nodes) 65535 && nat_le (sum_by payload g.nodes) 16777216)
limited-some g = go (nat_le (length g.nodes) 65535 && nat_le (sum_by payload g.nodes) 16777216)
  where
    go : (b : Bool) → is_some (cond b (Some g) None) ≡ b
    go true = refl
    go false = refl

all-within : (g : RawGraph) → IsGraph g → list_all is_small g.nodes ≡ true
all-within g is = go g.nodes is.each
  where
    go : (nodes : List Node) → All (IsNode g.nodes) nodes → list_all is_small nodes ≡ true
    go [] h = refl
    go (x ∷ nodes) h = ap (λ t. t && list_all is_small nodes) (node-within g.nodes x (All-head (IsNode g.nodes) x nodes h)) ∙ go nodes (All-tail (IsNode g.nodes) x nodes h)

-- ---- the walk

-- the bytes that are left after nodes
abbrev left_of : List Node → List (List ℕ) → List (List ℕ)
left_of [] bs = bs
left_of (x ∷ xs) bs = left_of xs (put_node x bs).1

put-append : (xs ys : List Node) (bs : List (List ℕ)) → put_in (xs ++ ys) bs ≡ put_in xs bs ++ put_in ys (left_of xs bs)
put-append [] ys bs = refl
put-append (x ∷ xs) ys bs = ap (λ ns. (put_node x bs).0 ∷ ns) (put-append xs ys (put_node x bs).1)

put-size : (xs : List Node) (bs : List (List ℕ)) → length xs ≡ length (put_in xs bs)
put-size [] bs = refl
put-size (x ∷ xs) bs = ap suc (put-size xs (put_node x bs).1)

label-put : {met k : ℕ} {xs : List Node} → WalkLabel met k xs → (bs : List (List ℕ)) → WalkLabel met k (put_in xs bs)
label-put (WalkLabel.again lt) bs = WalkLabel.again lt
label-put WalkLabel.symbol bs = WalkLabel.symbol

labels-put : {met : ℕ} {ks : List ℕ} {xs : List Node} → WalkLabels met ks xs → (bs : List (List ℕ)) → WalkLabels met ks (put_in xs bs)
labels-put WalkLabels.none bs = WalkLabels.none
labels-put (WalkLabels.more {met} {k} {ks} {first} {others} l ls) bs =
    let size : met + length first ≡ met + length (put_in first bs) = ap (λ n. met + n) (put-size first bs) in
    subst (λ (zs : List Node). WalkLabels met (k ∷ ks) zs) (sym (put-append first others bs))
    (WalkLabels.more (label-put l bs) (subst (λ (n : ℕ). WalkLabels n ks (put_in others (left_of first bs))) size (labels-put ls (left_of first bs))))

mutual
  walk-put : {room met : ℕ} {value : Ref} {xs : List Node} → Walk room met value xs → (bs : List (List ℕ)) → Walk room met value (put_in xs bs)
  walk-put (Walk.word is) bs = Walk.word is
  walk-put (Walk.again lt) bs = Walk.again lt
  walk-put Walk.symbol bs = Walk.symbol
  walk-put Walk.string bs = Walk.string
  walk-put (Walk.binary l) bs = Walk.binary (label-put l bs)
  walk-put (Walk.large l) bs = Walk.large (label-put l (next_of bs).1)
  walk-put (Walk.frame {room} {met} {tags} {values} {tagged} {valued} ls ws) bs =
      let size : suc met + length tagged ≡ suc met + length (put_in tagged bs) = ap (λ n. suc met + n) (put-size tagged bs) in
      subst (λ (zs : List Node). Walk (suc room) met (refs.Node met) (Frame tags values ∷ zs)) (sym (put-append tagged valued bs))
      (Walk.frame (labels-put ls bs) (subst (λ (n : ℕ). Walks room n values (put_in valued (left_of tagged bs))) size (walks-put ws (left_of tagged bs))))
  walk-put (Walk.plain_array ws) bs = Walk.plain_array (walks-put ws bs)
  walk-put (Walk.array {room} {met} {class} {values} {first} {valued} l ws) bs =
      let size : suc met + length first ≡ suc met + length (put_in first bs) = ap (λ n. suc met + n) (put-size first bs) in
      subst (λ (zs : List Node). Walk (suc room) met (refs.Node met) (Array (Some class) values ∷ zs)) (sym (put-append first valued bs))
      (Walk.array (label-put l bs) (subst (λ (n : ℕ). Walks room n values (put_in valued (left_of first bs))) size (walks-put ws (left_of first bs))))

  walks-put : {room met : ℕ} {values : List Ref} {xs : List Node} → Walks room met values xs → (bs : List (List ℕ)) → Walks room met values (put_in xs bs)
  walks-put Walks.none bs = Walks.none
  walks-put (Walks.more {room} {met} {value} {values} {first} {others} w ws) bs =
      let size : met + length first ≡ met + length (put_in first bs) = ap (λ n. met + n) (put-size first bs) in
      subst (λ (zs : List Node). Walks room met (value ∷ values) zs) (sym (put-append first others bs))
      (Walks.more (walk-put w bs) (subst (λ (n : ℕ). Walks room n values (put_in others (left_of first bs))) size (walks-put ws (left_of first bs))))

-- ---- within the limits

-- a skeleton that is filled is within the limits where no large binary is too long, and all bytes together are few enough
pub put-limits : (g : RawGraph) (bs : List (List ℕ)) → IsGraph g → AreEmpty 0 g.nodes → length (larges_from 0 g.nodes) ≡ length bs
    → within_limits (put_graph g bs) ≡ (nat_le (sum_by payload g.nodes + sum_by (λ (b : List ℕ). length b) bs) 16777216 && list_all (λ (b : List ℕ). nat_le (length b) 1000000) bs)
put-limits g bs is empty count = λ i. some i && put-within 0 g.nodes bs (all-within g is) count i
  where
    few : nat_le (length (put_in g.nodes bs)) 65535 ≡ true
    few = ap (λ n. nat_le n 65535) (sym (put-size g.nodes bs)) ∙ le-leb (length g.nodes) 65535 is.few

    some : is_some (normal_form (put_graph g bs)) ≡ nat_le (sum_by payload g.nodes + sum_by (λ (b : List ℕ). length b) bs) 16777216
    some = ap is_some (walked_form (put_graph g bs) (walk-put is.walk bs)) ∙ limited-some (put_graph g bs)
        ∙ ap (λ t. t && nat_le (sum_by payload (put_in g.nodes bs)) 16777216) few
        ∙ ap (λ n. nat_le n 16777216) (put-weight 0 g.nodes bs empty count)

-- a skeleton that is filled and within the limits is a graph
data-of : (x : Node) → HasBytes x → is_small x ≡ true → HasData x
data-of (Large c b) h w = record { few = leb-true (length b) 1000000 w; each = h }
data-of x h w = tt

datas-of : (xs : List Node) → All HasBytes xs → list_all is_small xs ≡ true → All HasData xs
datas-of [] h w = All-nil HasData
datas-of (x ∷ xs) h w =
    let p = and_parts (is_small x) (list_all is_small xs) w in
    All-cons HasData x xs (data-of x (All-head HasBytes x xs h) p.0) (datas-of xs (All-tail HasBytes x xs h) p.1)

pub put-is_graph : (g : RawGraph) (bs : List (List ℕ)) → IsGraph g → AreEmpty 0 g.nodes → length (larges_from 0 g.nodes) ≡ length bs → All HasBytes (put_in g.nodes bs) → within_limits (put_graph g bs) ≡ true
    → IsGraph (put_graph g bs)
put-is_graph g bs is empty count bytes within =
    let p = and_parts (is_some (normal_form (put_graph g bs))) (list_all is_small (put_in g.nodes bs)) within in
    let q = and_parts (nat_le (sum_by payload g.nodes + sum_by (λ (b : List ℕ). length b) bs) 16777216) (list_all (λ (b : List ℕ). nat_le (length b) 1000000) bs) (sym (put-limits g bs is empty count) ∙ within) in
    let heavy = put-weight 0 g.nodes bs empty count in
    let most = leb-true (sum_by payload g.nodes + sum_by (λ (b : List ℕ). length b) bs) 16777216 q.0 in
    graph-like g (put_graph g bs) refl (put-like g.nodes bs) (datas-of (put_in g.nodes bs) bytes p.1) (omega (arith, heavy, most)) is
