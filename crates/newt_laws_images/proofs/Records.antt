-- What is written is read back: the records of entries, and their large binaries.
use Rattle.std.proofs.Common.{arith, ◌≡◌, refl, ap, sym, ◌∙◌, subst, ℕ, suc, ◌+◌, ◌-◌, ◌*◌, ◌%◌, List, [], ◌∷◌, ◌++◌, true, Bool, ◌&&◌, cond, Option, Some, None, option_and_then, option_map, length, flat_map, fold, map, zip, nat_lt, ◌==◌}
use Rattle.std.specs.List.{enumerate_from, list_all}
use Rattle.std.specs.Prelude.{bytes_eq}
use Rattle.std.proofs.lemmas.List.{append_assoc}
use Rattle.std.proofs.lemmas.Bool.{eq-eqb, lt-ltb}
use lib.ListN.{length-append}
use Rattle.newt_base.specs.Text.{be16, be32}
use Rattle.newt_graph.specs.declared.node.Node.{Node}
use Rattle.newt_graph.specs.declared.node.Node.TheVariants.{Symbol, Str, Binary, Large, Array, Frame}
use Rattle.newt_graph.specs.Graph.{RawGraph}
use Rattle.newt_spec_graph.specs.Graph.{change_nth}
use Rattle.newt_spec_nsof.specs.Flat.{flat}
use Rattle.newt_spec_nsof.specs.Lengths.{skeleton, bare as bare_node}
use Rattle.newt_spec_store.specs.Store.{Entry}
use Rattle.newt_spec_store.specs.Image as image
use Rattle.newt_spec_store.specs.Image.{ObjectList, larges, large_in, entry_bytes}
use Rattle.newt_spec_store.specs.Reading.{◌>>=◌, give, some_bytes, number, times}
use Rattle.newt_spec_graph.specs.Graph.{every}
use Rattle.newt_spec_store.specs.StoreOf.{LargeRow, large_row, entry_fields, entry_row, large_object, with_bytes, fill, with_larges, entry_of_row}
use Rattle.newt_spec_graph.specs.Lists.{Each}
use Rattle.newt_spec_store.specs.Laid.{Named, row_of_large, FitsRow, IsThere, row_of, FitsRecord}
pub use Rattle.newt_laws_images.proofs.Texts.{bytes-same}
use Rattle.newt_laws_images.proofs.Texts.{written-back}
use Rattle.newt_laws_images.proofs.Read.{Reads, reads-then, reads-last, reads-some, reads-be16, reads-be32, regroup, reads-whole}

three : (a b c : List ℕ) → a ++ b ++ c ≡ a ++ (b ++ c)
three a b c = append_assoc a b c

six : (a b c d e f : List ℕ) → a ++ b ++ c ++ d ++ e ++ f ≡ a ++ (b ++ (c ++ (d ++ (e ++ f))))
six a b c d e f = append_assoc (a ++ b ++ c ++ d) e f ∙ append_assoc (a ++ b ++ c) d (e ++ f) ∙ append_assoc (a ++ b) c (d ++ (e ++ f)) ∙ append_assoc a b (c ++ (d ++ (e ++ f)))

reads-large : (l : Named) → FitsRow l → Reads large_row (image.large_row l) (row_of_large l)
reads-large l h = regroup large_row (row_of_large l) (image.large_row l) _ (three (be32 l.0.0) (be32 l.1) (be32 (length l.0.1)))
    (reads-then (number 4) _ (be32 l.0.0) (be32 l.1 ++ be32 (length l.0.1)) l.0.0 (row_of_large l) (reads-be32 l.0.0 h.0)
    (reads-then (number 4) _ (be32 l.1) (be32 (length l.0.1)) l.1 (row_of_large l) (reads-be32 l.1 h.1)
    (reads-last (number 4) (λ len. (l.0.0, l.1, len)) (be32 (length l.0.1)) (length l.0.1) (reads-be32 (length l.0.1) h.2))))

reads-larges : (ls : List Named) → Each FitsRow ls → Reads (times (length ls) large_row) (flat_map image.large_row ls) (map row_of_large ls)
reads-larges [] h = λ rest. refl
reads-larges (l ∷ ls) h = reads-then large_row (λ a. times (length ls) large_row >>= λ as'. give (a ∷ as')) (image.large_row l) (flat_map image.large_row ls) (row_of_large l) (map row_of_large (l ∷ ls)) (reads-large l h.0)
    (reads-last (times (length ls) large_row) (λ as'. row_of_large l ∷ as') (flat_map image.large_row ls) (map row_of_large ls) (reads-larges ls h.1))

larges-length : (ls : List Named) → length (flat_map image.large_row ls) ≡ 12 * length ls
larges-length [] = refl
larges-length (l ∷ ls) = grind (arith, length-append (image.large_row l) (flat_map image.large_row ls), length-append (be32 l.0.0 ++ be32 l.1) (be32 (length l.0.1)), length-append (be32 l.0.0) (be32 l.1), larges-length ls)

zip-length : {X Y : Type 0} (xs : List X) (ys : List Y) → length xs ≡ length ys → length (zip xs ys) ≡ length ys
zip-length [] [] h = refl
zip-length [] (y ∷ ys) h = cc
zip-length (x ∷ xs) [] h = refl
zip-length (x ∷ xs) (y ∷ ys) h = ap suc (zip-length xs ys (omega (arith, h)))

-- the rest of the record from each field on
abbrev from_larges : Entry → List ℕ → List ℕ
from_larges e ids = flat_map image.large_row (zip (larges e.graph) ids)

abbrev from_text : Entry → List ℕ → List ℕ
from_text e ids = flat (skeleton e.graph) ++ from_larges e ids

abbrev from_time : Entry → List ℕ → List ℕ
from_time e ids = be32 e.time ++ from_text e ids

abbrev from_uid : Entry → List ℕ → List ℕ
from_uid e ids = be32 e.uid ++ from_time e ids

abbrev from_count : Entry → List ℕ → List ℕ
from_count e ids = be16 (length ids) ++ from_uid e ids

reads-entry : (soup : ℕ) (e : Entry) (ids : List ℕ) (size : ℕ) → FitsRecord soup e ids → size - 12 * length ids ≡ length (flat (skeleton e.graph)) → Reads (entry_fields size) (entry_bytes soup e ids) (row_of soup e ids)
reads-entry soup e ids size f is = regroup (entry_fields size) (row_of soup e ids) (entry_bytes soup e ids) (be16 soup ++ from_count e ids)
    (six (be16 soup) (be16 (length ids)) (be32 e.uid) (be32 e.time) (flat (skeleton e.graph)) (flat_map image.large_row (zip (larges e.graph) ids)))
    (reads-then (number 2) _ (be16 soup) (from_count e ids) soup (row_of soup e ids) (reads-be16 soup f.soup_fits)
    (reads-then (number 2) _ (be16 (length ids)) (from_uid e ids) (length ids) (row_of soup e ids) (reads-be16 (length ids) f.count_fits)
    (reads-then (number 4) _ (be32 e.uid) (from_time e ids) e.uid (row_of soup e ids) (reads-be32 e.uid f.uid_fits)
    (reads-then (number 4) _ (be32 e.time) (from_text e ids) e.time (row_of soup e ids) (reads-be32 e.time f.time_fits)
    (reads-then (some_bytes (size - 12 * length ids)) _ (flat (skeleton e.graph)) (from_larges e ids) (flat (skeleton e.graph)) (row_of soup e ids)
    (subst (λ n. Reads (some_bytes n) (flat (skeleton e.graph)) (flat (skeleton e.graph))) (sym is) (reads-some (flat (skeleton e.graph))))
    (reads-last (times (length ids) large_row) (λ ls. record { soup = soup; uid = e.uid; time = e.time; text = flat (skeleton e.graph); larges = ls })
    (flat_map image.large_row (zip (larges e.graph) ids)) (map row_of_large (zip (larges e.graph) ids))
    (subst (λ n. Reads (times n large_row) (flat_map image.large_row (zip (larges e.graph) ids)) (map row_of_large (zip (larges e.graph) ids))) (zip-length (larges e.graph) ids f.each_named)
    (reads-larges (zip (larges e.graph) ids) f.rows_fit))))))))

pub entry-length : (soup : ℕ) (e : Entry) (ids : List ℕ) → length (larges e.graph) ≡ length ids → length (entry_bytes soup e ids) ≡ 12 + length (flat (skeleton e.graph)) + 12 * length ids
entry-length soup e ids h = grind (
  arith,
  length-append (be16 soup ++ be16 (length ids) ++ be32 e.uid ++ be32 e.time ++ flat (skeleton e.graph)) (flat_map image.large_row (zip (larges e.graph) ids)),
  length-append (be16 soup ++ be16 (length ids) ++ be32 e.uid ++ be32 e.time) (flat (skeleton e.graph)),
  length-append (be16 soup ++ be16 (length ids) ++ be32 e.uid) (be32 e.time),
  length-append (be16 soup ++ be16 (length ids)) (be32 e.uid),
  length-append (be16 soup) (be16 (length ids)),
  larges-length (zip (larges e.graph) ids),
  zip-length (larges e.graph) ids h,
)

pub record-back : (soup : ℕ) (e : Entry) (ids : List ℕ) → FitsRecord soup e ids → entry_row (entry_bytes soup e ids) ≡ Some (row_of soup e ids)
record-back soup e ids f = reads-whole (entry_fields (length (entry_bytes soup e ids) - 12)) (entry_bytes soup e ids) (row_of soup e ids)
    (reads-entry soup e ids (length (entry_bytes soup e ids) - 12) f (size (length (entry_bytes soup e ids)) (length (flat (skeleton e.graph))) (length ids) (entry-length soup e ids f.each_named)))
  where
    size : (a b n : ℕ) → a ≡ 12 + b + 12 * n → a - 12 - 12 * n ≡ b
    size a b n e = omega (arith, e)

-- ---- large binaries

abbrev pub larges_from : ℕ → List Node → List (ℕ × List ℕ)
larges_from k nodes = flat_map large_in (enumerate_from k nodes)

same-numbers : (k : ℕ) (nodes : List Node) → map (λ (l : ℕ × List ℕ). l.0) (flat_map large_in (enumerate_from k (map bare_node nodes))) ≡ map (λ (l : ℕ × List ℕ). l.0) (flat_map large_in (enumerate_from k nodes))
same-numbers k [] = refl
same-numbers k (Large c bytes ∷ nodes) = ap (λ ns. k ∷ ns) (same-numbers (k + 1) nodes)
same-numbers k (Symbol _ ∷ nodes) = same-numbers (k + 1) nodes
same-numbers k (Str _ ∷ nodes) = same-numbers (k + 1) nodes
same-numbers k (Binary _ _ ∷ nodes) = same-numbers (k + 1) nodes
same-numbers k (Array _ _ ∷ nodes) = same-numbers (k + 1) nodes
same-numbers k (Frame _ _ ∷ nodes) = same-numbers (k + 1) nodes

all-empty : (k : ℕ) (nodes : List Node) → list_all (λ (l : ℕ × List ℕ). length l.1 == 0) (flat_map large_in (enumerate_from k (map bare_node nodes))) ≡ true
all-empty k [] = refl
all-empty k (Large c bytes ∷ nodes) = all-empty (k + 1) nodes
all-empty k (Symbol _ ∷ nodes) = all-empty (k + 1) nodes
all-empty k (Str _ ∷ nodes) = all-empty (k + 1) nodes
all-empty k (Binary _ _ ∷ nodes) = all-empty (k + 1) nodes
all-empty k (Array _ _ ∷ nodes) = all-empty (k + 1) nodes
all-empty k (Frame _ _ ∷ nodes) = all-empty (k + 1) nodes

pub at-length : {X : Type 0} (f : X → X) (pre : List X) (x : X) (xs : List X) → change_nth (length pre) f (pre ++ (x ∷ xs)) ≡ pre ++ (f x ∷ xs)
at-length f [] x xs = refl
at-length f (y ∷ pre) x xs = ap (λ zs. y ∷ zs) (at-length f pre x xs)

pub push-length : {X : Type 0} (pre : List X) (x : X) → length (pre ++ x ∷ []) ≡ length pre + 1
push-length pre x = length-append pre (x ∷ [])

pub map-length : {X Y : Type 0} (f : X → Y) (xs : List X) → length (map f xs) ≡ length xs
map-length f [] = refl
map-length f (x ∷ xs) = grind (arith, map-length f xs)

abbrev pub fill_nodes : List Node → ℕ × List ℕ → List Node
fill_nodes ns l = change_nth l.0 (with_bytes l.1) ns

other : (pre : List Node) (x : Node) (nodes : List Node) → fold fill_nodes ((pre ++ x ∷ []) ++ map bare_node nodes) (flat_map large_in (enumerate_from (length (pre ++ x ∷ [])) nodes)) ≡ (pre ++ x ∷ []) ++ nodes
    → fold fill_nodes (pre ++ (x ∷ map bare_node nodes)) (flat_map large_in (enumerate_from (length pre + 1) nodes)) ≡ pre ++ (x ∷ nodes)
other pre x nodes h = ap (λ ns. fold fill_nodes ns (flat_map large_in (enumerate_from (length pre + 1) nodes))) (sym (append_assoc pre (x ∷ []) (map bare_node nodes)))
    ∙ ap (λ k. fold fill_nodes ((pre ++ x ∷ []) ++ map bare_node nodes) (flat_map large_in (enumerate_from k nodes))) (sym (push-length pre x)) ∙ h ∙ append_assoc pre (x ∷ []) nodes

-- the nodes before these are filled already
filled : (pre nodes : List Node) → fold fill_nodes (pre ++ map bare_node nodes) (flat_map large_in (enumerate_from (length pre) nodes)) ≡ pre ++ nodes
filled pre [] = refl
filled pre (Large c bytes ∷ nodes) =
    ap (λ ns. fold fill_nodes ns (flat_map large_in (enumerate_from (length pre + 1) nodes))) (at-length (with_bytes bytes) pre (Large c []) (map bare_node nodes))
    ∙ other pre (Large c bytes) nodes (filled (pre ++ Large c bytes ∷ []) nodes)
filled pre (Symbol s ∷ nodes) = other pre (Symbol s) nodes (filled (pre ++ Symbol s ∷ []) nodes)
filled pre (Str s ∷ nodes) = other pre (Str s) nodes (filled (pre ++ Str s ∷ []) nodes)
filled pre (Binary c b ∷ nodes) = other pre (Binary c b) nodes (filled (pre ++ Binary c b ∷ []) nodes)
filled pre (Array c v ∷ nodes) = other pre (Array c v) nodes (filled (pre ++ Array c v ∷ []) nodes)
filled pre (Frame t v ∷ nodes) = other pre (Frame t v) nodes (filled (pre ++ Frame t v ∷ []) nodes)

pub fold-fill : (root : _) (ns : List Node) (ls : List (ℕ × List ℕ)) → ◌≡◌ {A = RawGraph} (fold fill (record { nodes = ns; root = root }) ls) (record { nodes = fold fill_nodes ns ls; root = root })
fold-fill root ns [] = refl
fold-fill root ns (l ∷ ls) = fold-fill root (fill_nodes ns l) ls

pub fill-back : (g : RawGraph) → fold fill (skeleton g) (larges g) ≡ g
fill-back g = fold-fill g.root (map bare_node g.nodes) (larges g) ∙ ap {A = List Node} {B = RawGraph} (λ ns. record { nodes = ns; root = g.root }) (filled [] g.nodes)

-- ---- the objects of large binaries

pub all-true : (a b c : Bool) → a ≡ true → b ≡ true → c ≡ true → (a && b && c) ≡ true
all-true a b c h k l = grind (arith, h, k, l)

pub every-back : (objects : ObjectList) (ls : List Named) → Each (IsThere objects) ls → every (map (large_object objects) (map row_of_large ls)) ≡ Some (map (λ (l : Named). l.0.1) ls)
every-back objects [] h = refl
every-back objects (l ∷ ls) h = ap (λ o. every (o ∷ map (large_object objects) (map row_of_large ls))) (found l h.0)
    ∙ ap (option_map (λ xs. l.0.1 ∷ xs)) (every-back objects ls h.1)
  where
    found : (l : Named) → IsThere objects l → large_object objects (row_of_large l) ≡ Some l.0.1
    found l t = ap (option_and_then (λ bytes. cond ((l.1 % 2 == 0) && nat_lt 0 l.1 && (length bytes == length l.0.1)) (Some bytes) None)) t.2
        ∙ ap (λ b. cond b (Some l.0.1) None) (all-true _ _ _ (eq-eqb (l.1 % 2) 0 t.0) (lt-ltb 0 l.1 t.1) (eq-eqb (length l.0.1) (length l.0.1) refl))

-- ---- an entry from its row

zip-numbers : (ls : List (ℕ × List ℕ)) (ids : List ℕ) → length ls ≡ length ids → map (λ (l : LargeRow). l.0) (map row_of_large (zip ls ids)) ≡ map (λ (l : ℕ × List ℕ). l.0) ls
zip-numbers [] [] h = refl
zip-numbers [] (i ∷ ids) h = refl
zip-numbers (l ∷ ls) [] h = absurd (omega (arith, h))
zip-numbers (l ∷ ls) (i ∷ ids) h = ap (λ ns. l.0 ∷ ns) (zip-numbers ls ids (omega (arith, h)))

zip-bytes : (ls : List (ℕ × List ℕ)) (ids : List ℕ) → length ls ≡ length ids → map (λ (l : Named). l.0.1) (zip ls ids) ≡ map (λ (l : ℕ × List ℕ). l.1) ls
zip-bytes [] [] h = refl
zip-bytes [] (i ∷ ids) h = refl
zip-bytes (l ∷ ls) [] h = absurd (omega (arith, h))
zip-bytes (l ∷ ls) (i ∷ ids) h = ap (λ bs. l.1 ∷ bs) (zip-bytes ls ids (omega (arith, h)))

zip-back : (ls : List (ℕ × List ℕ)) → zip (map (λ (l : ℕ × List ℕ). l.0) ls) (map (λ (l : ℕ × List ℕ). l.1) ls) ≡ ls
zip-back [] = refl
zip-back (l ∷ ls) = ap (λ ks. l ∷ ks) (zip-back ls)

pub larges-back : (graph_of : List ℕ → Option RawGraph) (objects : ObjectList) (soup : ℕ) (e : Entry) (ids : List ℕ) → length (larges e.graph) ≡ length ids → Each (IsThere objects) (zip (larges e.graph) ids)
    → with_larges graph_of objects (row_of soup e ids) (skeleton e.graph) ≡ Some e.graph
larges-back graph_of objects soup e ids h there =
    ap (λ b. cond b (option_map (λ bs. fold fill (skeleton e.graph) (zip (map (λ (l : LargeRow). l.0) (map row_of_large (zip (larges e.graph) ids))) bs))
    (every (map (large_object objects) (map row_of_large (zip (larges e.graph) ids))))) None) test
    ∙ ap (option_map (λ bs. fold fill (skeleton e.graph) (zip (map (λ (l : LargeRow). l.0) (map row_of_large (zip (larges e.graph) ids))) bs))) (every-back objects (zip (larges e.graph) ids) there)
    ∙ ap {A = List (ℕ × List ℕ)} {B = Option RawGraph} (λ ls. Some (fold fill (skeleton e.graph) ls)) all-of-them
    ∙ ap Some (fill-back e.graph)
  where
    all-of-them : zip (map (λ (l : LargeRow). l.0) (map row_of_large (zip (larges e.graph) ids))) (map (λ (l : Named). l.0.1) (zip (larges e.graph) ids)) ≡ larges e.graph
    all-of-them = ap (λ ns. zip ns (map (λ (l : Named). l.0.1) (zip (larges e.graph) ids))) (zip-numbers (larges e.graph) ids h)
        ∙ ap (λ bs. zip (map (λ (l : ℕ × List ℕ). l.0) (larges e.graph)) bs) (zip-bytes (larges e.graph) ids h) ∙ zip-back (larges e.graph)

    and-true : (a b : Bool) → a ≡ true → b ≡ true → (a && b) ≡ true
    and-true a b h k = grind (arith, h, k)

    test : (bytes_eq (map (λ (l : ℕ × List ℕ). l.0) (larges (skeleton e.graph))) (map (λ (l : LargeRow). l.0) (map row_of_large (zip (larges e.graph) ids))) && list_all (λ (l : ℕ × List ℕ). length l.1 == 0) (larges (skeleton e.graph))) ≡ true
    test = and-true _ _ (ap (bytes_eq (map (λ (l : ℕ × List ℕ). l.0) (larges (skeleton e.graph)))) (zip-numbers (larges e.graph) ids h ∙ sym (same-numbers 0 e.graph.nodes)) ∙ bytes-same (map (λ (l : ℕ × List ℕ). l.0) (larges (skeleton e.graph))))
        (all-empty 0 e.graph.nodes)

pub entry-back : (graph_of : List ℕ → Option RawGraph) (objects : ObjectList) (soup : ℕ) (e : Entry) (ids : List ℕ) → graph_of (flat (skeleton e.graph)) ≡ Some (skeleton e.graph)
    → length (larges e.graph) ≡ length ids → Each (IsThere objects) (zip (larges e.graph) ids) → entry_of_row graph_of objects (row_of soup e ids) ≡ Some (soup, e)
entry-back graph_of objects soup e ids reads h there =
    ap (λ o. option_map (λ g. (soup, record { uid = e.uid; time = e.time; graph = g })) (option_and_then (with_larges graph_of objects (row_of soup e ids)) o)) (written-back graph_of (skeleton e.graph) reads)
    ∙ ap {A = Option RawGraph} {B = Option (ℕ × Entry)} (option_map (λ g. (soup, record { uid = e.uid; time = e.time; graph = g }))) (larges-back graph_of objects soup e ids h there)
