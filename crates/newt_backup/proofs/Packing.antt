-- The parts of a backup, put one after another.
use Rattle.std.proofs.Common.{◌≡◌, sym, ◌∙◌, ap, ℕ, ◌+◌, ◌-◌, ◌/◌, ◌<◌, ◌≤◌, min, inl, inr, List, [], ◌∷◌, ◌++◌, map, length, take, drop, None, arith, append_assoc, length-append}
use Rattle.std.specs.Prelude.{codes}
use Rattle.std.proofs.lemmas.Bool.{cases_lt}
use Rattle.std.proofs.lemmas.List.{take_all, drop_all, length-drop}
use Rattle.newt_graph.specs.declared.node.Node.{Node}
use Rattle.newt_graph.specs.declared.node.Node.TheVariants.{Symbol, Binary, Array, Frame}
use Rattle.newt_graph.specs.declared.node.Ref.{Ref}
use Rattle.newt_graph.specs.declared.node.Ref.TheVariants.{Node as At}
use Rattle.newt_graph.specs.Graph.{RawGraph}
use Rattle.newt_backup.specs.Backup.{piece_count, pieces, in_a_row, first_cut, cuts, cuts_at, entries_at, packed, CanPack}
use Rattle.newt_backup.proofs.Graph.{first-length, packed-length, nodes-few}

-- the first piece has as many bytes as there are, or the most
pub head-same : (bytes : List ℕ) (size : ℕ) → size ≡ min (length bytes) 500_000 → (take size bytes ≡ take 500_000 bytes) × (drop size bytes ≡ drop 500_000 bytes)
head-same bytes size e = elim (cases_lt 500_000 (length bytes)) [
  | inl more ↦ let k = larger (length bytes) size e more in (ap (λ n. take n bytes) k, ap (λ n. drop n bytes) k)
  | inr few ↦ (take_all size bytes (omega (arith, e, few)) ∙ sym (take_all 500_000 bytes few), drop_all size bytes (omega (arith, e, few)) ∙ sym (drop_all 500_000 bytes few))
]
  where
    larger : (n size : ℕ) → size ≡ min n 500_000 → 500_000 < n → size ≡ 500_000
    larger n size e h = omega (arith, e, h)

pub first-put : (new old : List Node) (bytes others first : List ℕ) (size : ℕ) → size ≡ min (length bytes) 500_000 → others ≡ drop size bytes → first ≡ take size bytes
    → new ≡ (((old ++ Array None (At 4 ∷ in_a_row 6 (piece_count others)) ∷ []) ++ Binary 5 first ∷ []) ++ Symbol (codes "bytes") ∷ []) ++ map (Binary 5) (pieces others)
    → new ≡ old ++ first_cut bytes
first-put new old bytes others first size e o f h =
    let same = head-same bytes size e in
    h ∙ joined old (Array None (At 4 ∷ in_a_row 6 (piece_count others))) (Binary 5 first) (Symbol (codes "bytes")) (map (Binary 5) (pieces others))
    ∙ ap (λ b. old ++ Array None (At 4 ∷ in_a_row 6 (piece_count b)) ∷ Binary 5 first ∷ Symbol (codes "bytes") ∷ map (Binary 5) (pieces b)) (o ∙ same.1)
    ∙ ap (λ b. old ++ Array None (At 4 ∷ in_a_row 6 (piece_count (drop 500_000 bytes))) ∷ Binary 5 b ∷ Symbol (codes "bytes") ∷ map (Binary 5) (pieces (drop 500_000 bytes))) (f ∙ same.0)
  where
    joined : (old : List Node) (a b c : Node) (l : List Node) → (((old ++ a ∷ []) ++ b ∷ []) ++ c ∷ []) ++ l ≡ old ++ a ∷ b ∷ c ∷ l
    joined old a b c l = append_assoc ((old ++ a ∷ []) ++ b ∷ []) (c ∷ []) l ∙ append_assoc (old ++ a ∷ []) (b ∷ []) (c ∷ l) ∙ append_assoc old (a ∷ []) (b ∷ c ∷ l)

-- which node the array of the entries is
pub at-same : (directory : List ℕ) (others count : ℕ) → others ≡ length directory - min (length directory) 500_000 → count ≡ (others + 499_999) / 500_000 → 6 + count ≡ entries_at directory
at-same directory others count e h = ap (λ n. 6 + n) (h ∙ ap (λ n. (n + 499_999) / 500_000) (left 500_000 directory others e))
  where
    left : (k : ℕ) (directory : List ℕ) (others : ℕ) → others ≡ length directory - min (length directory) k → others ≡ length (drop k directory)
    left k directory others e = omega (arith, e, length-drop k directory)

pub cuts-room : (d : List ℕ) (es : List (List ℕ)) (at : ℕ) → CanPack d es → at ≡ entries_at d → at + 1 + length (cuts (at + 1) es) ≤ 65_535
cuts-room d es at h e = rw e (omega (arith, packed-length d es, nodes-few d es h))

-- all parts
pub all-put : (new before array first : List Node) (d : List ℕ) (es : List (List ℕ)) (at : ℕ) (values : List Ref) → at ≡ entries_at d
    → before ≡ [] ++ (Frame (1 ∷ 2 ∷ []) (At 3 ∷ At at ∷ []) ∷ Symbol (codes "directory") ∷ Symbol (codes "entries") ∷ [])
    → first ≡ before ++ first_cut d → values ≡ cuts_at (at + 1) es → array ≡ first ++ Array None values ∷ []
    → (length array ≡ at + 1) × (new ≡ array ++ cuts (length array) es → new ≡ (packed d es).nodes)
unfolding packed
all-put new before array first d es at values e b f v a =
    let n : length array ≡ at + 1 = counted (length (first_cut d)) (length before) (length first) (ap (λ l. length l) a ∙ length-append first (Array None values ∷ [])) (ap (λ l. length l) b) (ap (λ l. length l) f ∙ length-append before (first_cut d)) (first-length d ∙ sym e) in (
      n,
      λ h. h ∙ ap (λ m. array ++ cuts m es) n ∙ ap (λ l. l ++ cuts (at + 1) es) a ∙ append_assoc first (Array None values ∷ []) (cuts (at + 1) es)
          ∙ ap (λ l. l ++ Array None values ∷ cuts (at + 1) es) (f ∙ ap (λ l. l ++ first_cut d) b)
          ∙ ap (λ l. Frame (1 ∷ 2 ∷ []) (At 3 ∷ At at ∷ []) ∷ Symbol (codes "directory") ∷ Symbol (codes "entries") ∷ (first_cut d ++ Array None l ∷ cuts (at + 1) es)) v
          ∙ ap (λ k. Frame (1 ∷ 2 ∷ []) (At 3 ∷ At k ∷ []) ∷ Symbol (codes "directory") ∷ Symbol (codes "entries") ∷ (first_cut d ++ Array None (cuts_at (k + 1) es) ∷ cuts (k + 1) es)) e,
    )
  where
    counted : (f p q : ℕ) {r : ℕ} → r ≡ q + 1 → p ≡ 3 → q ≡ p + f → 3 + f ≡ at → r ≡ at + 1
    counted f p q h i j k = omega (arith, h, i, j, k)

pub three-put : (new second first old : List Node) (a b c : Node) → first ≡ old ++ a ∷ [] → second ≡ first ++ b ∷ [] → new ≡ second ++ c ∷ [] → new ≡ old ++ a ∷ b ∷ c ∷ []
three-put new second first old a b c e f g = g ∙ ap (λ l. l ++ c ∷ []) (f ∙ ap (λ l. l ++ b ∷ []) e) ∙ append_assoc (old ++ a ∷ []) (b ∷ []) (c ∷ []) ∙ append_assoc old (a ∷ []) (b ∷ c ∷ [])

pub root-at : (nodes : List Node) (d : List ℕ) (es : List (List ℕ)) → nodes ≡ (packed d es).nodes → record { nodes = nodes; root = At 0 } ≡ packed d es
unfolding packed
root-at nodes d es h = ap {A = List Node} {B = RawGraph} (λ l. record { nodes = l; root = At 0 }) h
