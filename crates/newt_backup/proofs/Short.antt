-- How long the written text of a backup is.
use Rattle.std.proofs.Common.{◌≡◌, ap, ℕ, zero, suc, ◌+◌, ◌*◌, ◌<◌, ◌≤◌, List, [], ◌∷◌, ◌++◌, map, length, take, drop, None, arith}
use Rattle.std.specs.Prelude.{codes}
use Rattle.std.specs.List.{sum_by}
use Rattle.std.proofs.lemmas.List.Sums.{sum_by-cons, sum_by-append}
use Rattle.newt_graph.specs.declared.node.Node.TheVariants.{Symbol, Binary, Array, Frame}
use Rattle.newt_graph.specs.declared.node.Ref.{Ref}
use Rattle.newt_graph.specs.declared.node.Ref.TheVariants.{Node as At}
use Rattle.newt_spec_nsof.specs.Written.{nsof}
use Rattle.newt_spec_nsof.specs.Lengths.{count_len, ref_len, node_len}
use Rattle.newt_spec_nsof.proofs.Lengths.{text_len}
use Rattle.newt_spec_store.specs.Store.{Store}
use Rattle.newt_spec_store.specs.Cost.{directory_bytes}
use Rattle.newt_backup.specs.Backup.{piece_count, pieces, in_a_row, cut, first_cut, cuts, cuts_at, entries_at, packed, fulls, backup, IsKept, CanPack}
use Rattle.newt_backup.proofs.Pieces.{pieces-length, pieces-sum, count-few}
use Rattle.newt_backup.proofs.Plain.{written-flat}
use Rattle.newt_backup.proofs.Graph.{packed-graph, packed-plain, count-small, left-short, head-short}
use Rattle.newt_backup.proofs.Kept.{kept-packs}

count-most : (n : ℕ) → count_len n ≤ 5
count-most n = grind arith

at-most : (n : ℕ) → ref_len (At n) ≤ 6
at-most n = omega (arith, count-most n)

row-len : (at n : ℕ) → sum_by ref_len (in_a_row at n) ≤ 6 * n
row-len at zero = omega arith
row-len at (suc n) = rw (sum_by-cons ref_len (At at) (in_a_row (at + 1) n)) (omega (arith, at-most at, row-len (at + 1) n))

array-len : (values : List Ref) (n : ℕ) → sum_by ref_len values ≤ 6 * n → node_len (Array None values) ≤ 6 + 6 * n
array-len values n h = omega (arith, count-most (length values), h)

binary-len : (bytes : List ℕ) → node_len (Binary 5 bytes) ≤ 8 + length bytes
binary-len bytes = omega (arith, count-most (length bytes))

pieces-len : (ps : List (List ℕ)) → sum_by node_len (map (Binary 5) ps) ≤ 8 * length ps + sum_by (λ piece. length piece) ps
pieces-len [] = omega arith
pieces-len (p ∷ ps) = rw (sum_by-cons node_len (Binary 5 p) (map (Binary 5) ps), sum_by-cons (λ (piece : List ℕ). length piece) p ps) (more (length ps) (node_len (Binary 5 p)) (length p) _ _ (binary-len p) (pieces-len ps))
  where
    more : (n b l s t : ℕ) → b ≤ 8 + l → s ≤ 8 * n + t → b + s ≤ 8 * suc n + (l + t)
    more n b l s t h k = omega (arith, h, k)

all-len : (bytes : List ℕ) → sum_by node_len (map (Binary 5) (pieces bytes)) ≤ 8 * piece_count bytes + length bytes
all-len bytes = omega (arith, pieces-len (pieces bytes), pieces-length (piece_count bytes) bytes, pieces-sum (piece_count bytes) bytes)

cut-len : (at : ℕ) (bytes : List ℕ) → sum_by node_len (cut at bytes) ≤ 6 + 14 * piece_count bytes + length bytes
cut-len at bytes = rw (sum_by-cons node_len (Array None (in_a_row (at + 1) (piece_count bytes))) (map (Binary 5) (pieces bytes)))
    (omega (arith, array-len (in_a_row (at + 1) (piece_count bytes)) (piece_count bytes) (row-len (at + 1) (piece_count bytes)), all-len bytes))

cuts-len : (at : ℕ) (texts : List (List ℕ)) → 500_000 * sum_by node_len (cuts at texts) ≤ 10_000_000 * length texts + 500_014 * sum_by (λ text. length text) texts
cuts-len at [] = omega arith
cuts-len at (t ∷ ts) = rw (sum_by-append node_len (cut at t) (cuts (at + (1 + piece_count t)) ts), sum_by-cons (λ (text : List ℕ). length text) t ts)
    (more (piece_count t) (sum_by node_len (cut at t)) (sum_by node_len (cuts (at + (1 + piece_count t)) ts)) (length t) (length ts) (sum_by (λ (text : List ℕ). length text) ts)
    (count-few t) (cut-len at t) (cuts-len (at + (1 + piece_count t)) ts))
  where
    more : (c a b l n s : ℕ) → 500_000 * c < l + 500_000 → a ≤ 6 + 14 * c + l → 500_000 * b ≤ 10_000_000 * n + 500_014 * s → 500_000 * (a + b) ≤ 10_000_000 * suc n + 500_014 * (l + s)
    more c a b l n s h k m = omega (arith, h, k, m)

cuts-at-len : (at : ℕ) (texts : List (List ℕ)) → sum_by ref_len (cuts_at at texts) ≤ 6 * length texts
cuts-at-len at [] = omega arith
cuts-at-len at (t ∷ ts) = rw (sum_by-cons ref_len (At at) (cuts_at (at + (1 + piece_count t)) ts)) (more (length ts) _ _ (at-most at) (cuts-at-len (at + (1 + piece_count t)) ts))
  where
    more : (n a s : ℕ) → a ≤ 6 → s ≤ 6 * n → a + s ≤ 6 * suc n
    more n a s h k = omega (arith, h, k)

first-len : (bytes : List ℕ) → length bytes ≤ 7_989_000 → sum_by node_len (first_cut bytes) ≤ 300 + length bytes
first-len bytes h =
    let others = drop 500_000 bytes in
    let head = Binary 5 (take 500_000 bytes) in
    let class = Symbol (codes "bytes") in
    let last = map (Binary 5) (pieces others) in
    let array = Array None (At 4 ∷ in_a_row 6 (piece_count others)) in
    rw (sum_by-cons node_len array (head ∷ class ∷ last), sum_by-cons node_len head (class ∷ last), sum_by-cons node_len class last)
    (sum (piece_count others) (node_len array) (node_len head) (node_len class) (sum_by node_len last) (length (take 500_000 bytes)) (length others) (length bytes)
    (count-small others (omega (arith, left-short 500_000 bytes, h)))
    (array-len (At 4 ∷ in_a_row 6 (piece_count others)) (1 + piece_count others) (rw (sum_by-cons ref_len (At 4) (in_a_row 6 (piece_count others))) (omega (arith, at-most 4, row-len 6 (piece_count others)))))
    (binary-len (take 500_000 bytes)) (omega arith) (all-len others) (head-short 500_000 bytes))
  where
    sum : (c a b k m x y n : ℕ) → c ≤ 16 → a ≤ 6 + 6 * (1 + c) → b ≤ 8 + x → k ≤ 7 → m ≤ 8 * c + y → x + y ≡ n → a + (b + (k + m)) ≤ 300 + n
    sum c a b k m x y n h i j l o p = omega (arith, h, i, j, l, o, p)

nodes-len : (d : List ℕ) (es : List (List ℕ)) → CanPack d es → sum_by node_len (packed d es).nodes ≤ 8_600_000
unfolding packed
nodes-len d es h =
    let at = entries_at d in
    let frame = Frame (1 ∷ 2 ∷ []) (At 3 ∷ At at ∷ []) in
    let array = Array None (cuts_at (at + 1) es) in
    let last = cuts (at + 1) es in
    rw (
      sum_by-cons node_len frame (Symbol (codes "directory") ∷ Symbol (codes "entries") ∷ (first_cut d ++ array ∷ last)),
      sum_by-cons node_len (Symbol (codes "directory")) (Symbol (codes "entries") ∷ (first_cut d ++ array ∷ last)),
      sum_by-cons node_len (Symbol (codes "entries")) (first_cut d ++ array ∷ last),
      sum_by-append node_len (first_cut d) (array ∷ last),
      sum_by-cons node_len array last,
    )
    (sum (node_len frame) (node_len (Symbol (codes "directory"))) (node_len (Symbol (codes "entries"))) (sum_by node_len (first_cut d)) (node_len array) (sum_by node_len last)
    (length es) (length d) (sum_by (λ (text : List ℕ). length text) es)
    (frame-len at) (omega arith) (omega arith) (first-len d (omega (arith, h.short))) (array-len (cuts_at (at + 1) es) (length es) (cuts-at-len (at + 1) es)) (cuts-len (at + 1) es) h.few h.short)
  where
    frame-len : (at : ℕ) → node_len (Frame (1 ∷ 2 ∷ []) (At 3 ∷ At at ∷ [])) ≤ 20
    frame-len at = framed (ref_len (At at)) (at-most at)
      where
        framed : (r : ℕ) → r ≤ 6 → 1 + 1 + (0 + 2 + 2) + (0 + 2 + r) ≤ 20
        framed r h = omega (arith, h)

    sum : (f a b c x l n m s : ℕ) → f ≤ 20 → a ≤ 11 → b ≤ 9 → c ≤ 300 + m → x ≤ 6 + 6 * n → 500_000 * l ≤ 10_000_000 * n + 500_014 * s → n ≤ 15_977 → m + s ≤ 7_989_000
        → f + (a + (b + (c + (x + l)))) ≤ 8_600_000
    sum f a b c x l n m s h i j k o p q r = omega (arith, h, i, j, k, o, p, q, r)

root-of : (d : List ℕ) (es : List (List ℕ)) → ref_len (packed d es).root ≤ 6
unfolding packed
root-of d es = at-most 0

packed-short : (d : List ℕ) (es : List (List ℕ)) → CanPack d es → length (nsof (packed d es)) < 16_777_216
packed-short d es h = omega (arith, ap (λ (t : List ℕ). length t) (written-flat (packed d es) (packed-graph d es h) (packed-plain d es h)), text_len (packed d es) (packed-graph d es h), nodes-len d es h, root-of d es)

-- the text of a backup is shorter than the longest input
pub backup-short : (s : Store) → IsKept s → length (nsof (backup s)) < 16_777_216
backup-short s k = packed-short (directory_bytes s) (fulls s) (kept-packs s k)
