-- The steps of the loops over rows and nodes.
use Rattle.std.proofs.Common.{arith, ◌≡◌, refl, ap, sym, subst, ◌∙◌, ℕ, zero, suc, ◌+◌, ◌-◌, ◌<◌, ◌≤◌, List, [], ◌∷◌, ◌++◌, Some, None, length, get_or, take, drop, map, zip, append_assoc}
use Rattle.std.specs.Prelude.{All}
use Rattle.std.specs.List.{flat_map}
use Rattle.std.proofs.lemmas.List.{map-append, length-map, length-drop, take_all, at_drop_more}
use Rattle.std.proofs.lemmas.List.Elements.{All-tail}
use Rattle.std.proofs.lemmas.Slice.Zip.{length-zip}
use Rattle.newt_base.specs.Text.{be32_at}
use Rattle.newt_graph.specs.declared.node.Node.{Node}
use Rattle.newt_graph.specs.declared.node.Node.TheVariants.{Large}
use Rattle.newt_spec_store.specs.Laid.{row_of_large}
use Rattle.newt_spec_store.specs.StoreOf.{LargeRow}
use Rattle.newt_laws_images.proofs.Records.{larges_from}
use Rattle.newt_entries.specs.declared.row.LargeAt.{LargeAt}
use Rattle.newt_entries.specs.Entry.{row_at, rows_in}
use Rattle.newt_entries.specs.Filling.{bytes_in, length_in, put_node, put_in}
use Rattle.newt_entries.proofs.Putting.{larges-few}

-- one row more after those that are there
pushed : (rows next : List LargeAt) (l : LargeAt) (rest : List LargeRow) → next ≡ rows ++ l ∷ [] → map row_at next ++ rest ≡ map row_at rows ++ (row_at l ∷ rest)
pushed rows next l rest e = ap (λ ls. map row_at ls ++ rest) e ∙ ap (λ ls. ls ++ rest) (map-append row_at rows (l ∷ [])) ∙ append_assoc (map row_at rows) (row_at l ∷ []) rest

-- ---- rows that are read

pub rows-more : (rows next : List LargeAt) (more : ℕ) (left rest : List ℕ) (l : LargeAt) (all : List LargeRow) → 0 < more → row_at l ≡ (be32_at left 0, be32_at left 4, be32_at left 8) → next ≡ rows ++ l ∷ [] → rest ≡ drop 12 left
    → map row_at rows ++ rows_in more left ≡ all → map row_at next ++ rows_in (more - 1) rest ≡ all
rows-more rows next zero left rest l all some is e r so_far = absurd (omega (arith, some))
rows-more rows next (suc m) left rest l all some is e r so_far =
    let one : suc m - 1 ≡ m = omega arith in
    pushed rows next l (rows_in (suc m - 1) rest) e
    ∙ (λ i. map row_at rows ++ (is i ∷ rows_in (one i) (r i))) ∙ so_far

-- what is after the first n
pub rest-is : {X : Type 0} (n : ℕ) (xs : List X) → take (length xs - n) (drop n xs) ≡ drop n xs
rest-is n xs = take_all (length xs - n) (drop n xs) (omega (arith, length-drop n xs))

pub rest-size : {X : Type 0} (n : ℕ) (xs : List X) → length (take (length xs - n) (drop n xs)) ≡ length xs - n
rest-size n xs = ap length (rest-is n xs) ∙ length-drop n xs

-- ---- rows that name large binaries

-- ---- rows that are made

made-large : (rows next : List LargeAt) (k n object : ℕ) (x : Node) (rest : List Node) (others : List ℕ) (l : LargeAt) (all : List LargeRow) → length_in x ≡ Some n → row_at l ≡ (k, object, n) → next ≡ rows ++ l ∷ []
    → map row_at rows ++ map row_of_large (zip (larges_from k (x ∷ rest)) (object ∷ others)) ≡ all → map row_at next ++ map row_of_large (zip (larges_from (k + 1) rest) others) ≡ all
made-large rows next k n object (Large c b) rest others l all h is e so_far =
    let same : length b ≡ n = cc in
    pushed rows next l (map row_of_large (zip (larges_from (k + 1) rest) others)) e
    ∙ (λ i. map row_at rows ++ ((is ∙ ap {A = ℕ} {B = LargeRow} (λ m. (k, object, m)) (sym same)) i ∷ map row_of_large (zip (larges_from (k + 1) rest) others))) ∙ so_far
made-large rows next k n object x rest others l all h is e so_far = absurd cc

made-other : (k : ℕ) (x : Node) (rest : List Node) → length_in x ≡ None → larges_from k (x ∷ rest) ≡ larges_from (k + 1) rest
made-other k (Large c b) rest h = absurd cc
made-other k x rest h = refl

-- the first of some nodes is a large binary
pub made-some : (rows next : List LargeAt) (k n : ℕ) (x : Node) (left : List Node) (unused others : List ℕ) (l : LargeAt) (all : List LargeRow) → 1 ≤ length left → x ≡ get_or left 0 x → 1 ≤ length unused → length_in x ≡ Some n
    → row_at l ≡ (k, get_or unused 0 0, n) → next ≡ rows ++ l ∷ [] → others ≡ take (length unused - 1) (drop 1 unused)
    → map row_at rows ++ map row_of_large (zip (larges_from k left) unused) ≡ all → map row_at next ++ map row_of_large (zip (larges_from (k + 1) (take (length left - 1) (drop 1 left))) others) ≡ all
made-some rows next k n x [] unused others l all some is objects h row e o so_far = absurd (omega (arith, some))
made-some rows next k n x (y ∷ rest) [] others l all some is objects h row e o so_far = absurd (omega (arith, objects))
made-some rows next k n x (y ∷ rest) (u ∷ unused) others l all some is objects h row e o so_far =
    ap (λ ns. map row_at next ++ map row_of_large (zip (larges_from (k + 1) ns) others)) (rest-is 1 (y ∷ rest))
    ∙ ap (λ us. map row_at next ++ map row_of_large (zip (larges_from (k + 1) rest) us)) (o ∙ rest-is 1 (u ∷ unused))
    ∙ made-large rows next k n u y rest unused l all (ap length_in (sym is) ∙ h) row e so_far

-- it is none
pub made-none : (rows next : List LargeAt) (k : ℕ) (x : Node) (left : List Node) (unused others : List ℕ) (all : List LargeRow) → 1 ≤ length left → x ≡ get_or left 0 x → length_in x ≡ None → next ≡ rows → others ≡ unused
    → map row_at rows ++ map row_of_large (zip (larges_from k left) unused) ≡ all → map row_at next ++ map row_of_large (zip (larges_from (k + 1) (take (length left - 1) (drop 1 left))) others) ≡ all
made-none rows next k x [] unused others all some is h e o so_far = absurd (omega (arith, some))
made-none rows next k x (y ∷ rest) unused others all some is h e o so_far =
    (λ i. map row_at (e i) ++ map row_of_large (zip (larges_from (k + 1) (rest-is 1 (y ∷ rest) i)) (o i)))
    ∙ ap (λ ls. map row_at rows ++ map row_of_large (zip ls unused)) (sym (made-other k y rest (ap length_in (sym is) ∙ h))) ∙ so_far

pub all-rest : {X : Type 0} (P : X → Type 0) (xs : List X) → 1 ≤ length xs → All P xs → All P (take (length xs - 1) (drop 1 xs))
all-rest P [] some h = absurd (omega (arith, some))
all-rest P (x ∷ xs) some h = subst (All P) (sym (rest-is 1 (x ∷ xs))) (All-tail P x xs h)

-- rows that are made are no more than the nodes
pub made-few : (rows : List LargeAt) (nodes : List Node) (ids : List ℕ) → map row_at rows ≡ map row_of_large (zip (larges_from 0 nodes) ids) → length rows ≤ length nodes
made-few rows nodes ids h =
    let same = sym (length-map rows row_at) ∙ ap length h ∙ length-map (zip (larges_from 0 nodes) ids) row_of_large ∙ length-zip (larges_from 0 nodes) ids in
    omega (arith, same, larges-few 0 nodes)

-- ---- nodes that are filled

pub put-more : (out next nodes : List Node) (i : ℕ) (n d : Node) (bs left : List (List ℕ)) (all : List Node) → i < length nodes → put_node (get_or nodes i d) bs ≡ (n, left) → next ≡ out ++ n ∷ []
    → out ++ put_in (drop i nodes) bs ≡ all → next ++ put_in (drop (i + 1) nodes) left ≡ all
put-more out next nodes i n d bs left all lt put e so_far =
    let more : put_in (drop i nodes) bs ≡ n ∷ put_in (drop (i + 1) nodes) left =
    at_drop_more (λ ns. put_in ns bs) nodes i d lt ∙ (λ j. (put j).0 ∷ put_in (drop (i + 1) nodes) (put j).1) in
    ap (λ ns. ns ++ put_in (drop (i + 1) nodes) left) e ∙ append_assoc out (n ∷ []) (put_in (drop (i + 1) nodes) left) ∙ ap (λ ns. out ++ ns) (sym more) ∙ so_far

-- ---- bytes of large binaries

pub bytes-larges : (k : ℕ) (nodes : List Node) → flat_map bytes_in nodes ≡ map (λ (l : ℕ × List ℕ). l.1) (larges_from k nodes)
bytes-larges k [] = refl
bytes-larges k (Large c b ∷ nodes) = ap (λ bs. b ∷ bs) (bytes-larges (k + 1) nodes)
bytes-larges k (x ∷ nodes) = bytes-larges (k + 1) nodes
