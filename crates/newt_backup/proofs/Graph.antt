-- What is packed is a graph.
use Rattle.std.proofs.Common.{◌≡◌, ◌≢◌, refl, sym, ◌∙◌, ap, subst, get_or, ℕ, zero, suc, ◌+◌, ◌*◌, ◌<◌, ◌≤◌, List, [], ◌∷◌, ◌++◌, map, length, take, drop, Some, None, All, arith, rules, length-append, AllPairs}
use Rattle.std.specs.Prelude.{codes, slice_get}
use Rattle.std.specs.List.{sum_by}
use Rattle.std.proofs.lemmas.List.{append-nil}
use Rattle.std.specs.Char.{to_ascii_lowercase}
use Rattle.newt_laws_images.proofs.Records.{map-length}
use Rattle.std.proofs.lemmas.List.Elements.{All-nil, All-cons, All-tail, All-append, All-map, All-take, All-drop, All-from_recursion}
use Rattle.std.proofs.lemmas.List.Kept.{AllPairs-cons}
use Rattle.std.proofs.lemmas.List.Sums.{sum_by-cons, sum_by-append}
use Rattle.std.proofs.lemmas.Grind.{common_steps}
use Rattle.newt_graph.specs.declared.node.Node.{Node}
use Rattle.newt_graph.specs.declared.node.Node.TheVariants.{Symbol, Str, Binary, Large, Array, Frame}
use Rattle.newt_graph.specs.declared.node.Ref.TheVariants.{Node as At}
use Rattle.newt_graph.specs.Graph.{WalkLabel, WalkLabels, Walk, Walks, IsName, IsNode, IsSymbol, IsData, AreFoldedOnce, IsGraph, payload, folded}
use Rattle.newt_graph.proofs.Elements.{all_at}
use Rattle.newt_spec_nsof.specs.Text.{AreBytes}
use Rattle.newt_backup.specs.Backup.{pieces_from, piece_count, pieces, in_a_row, cut, first_cut, cuts, cuts_at, entries_at, packed, CanPack}
use Rattle.newt_backup.proofs.Plain.{NotFour}
use Rattle.newt_backup.proofs.Pieces.{pieces-length, count-few, pieces-short, pieces-bytes, pieces-sum}

-- ---- the walk

row-walks : (room at : ℕ) (ps : List (List ℕ)) → 5 < at → Walks room at (in_a_row at (length ps)) (map (Binary 5) ps)
row-walks room at [] h = Walks.none
row-walks room at (p ∷ ps) h = Walks.more {first = Binary 5 p ∷ []} (Walk.binary (WalkLabel.again (omega (arith, h)))) (row-walks room (at + 1) ps (omega (arith, h)))

pieces-walk : (room at : ℕ) (bytes : List ℕ) → 5 < at → Walks room at (in_a_row at (piece_count bytes)) (map (Binary 5) (pieces bytes))
pieces-walk room at bytes h = subst (λ n. Walks room at (in_a_row at n) (map (Binary 5) (pieces bytes))) (pieces-length (piece_count bytes) bytes) (row-walks room at (pieces bytes) h)

next : (at : ℕ) → at + 1 ≡ suc at
next at = omega arith

cut-walk : (room at : ℕ) (bytes : List ℕ) → 5 < at → Walk (suc room) at (At at) (cut at bytes)
cut-walk room at bytes h = Walk.plain_array (subst (λ m. Walks room m (in_a_row (at + 1) (piece_count bytes)) (map (Binary 5) (pieces bytes))) (next at) (pieces-walk room (at + 1) bytes (omega (arith, h))))

pub cut-length : (at : ℕ) (bytes : List ℕ) → length (cut at bytes) ≡ 1 + piece_count bytes
cut-length at bytes = counted (piece_count bytes) (map-length {X = List ℕ} {Y = Node} (Binary 5) (pieces bytes) ∙ pieces-length (piece_count bytes) bytes)
  where
    counted : {n : ℕ} (c : ℕ) → n ≡ c → suc n ≡ 1 + c
    counted c e = omega (arith, e)

cuts-walk : (room at : ℕ) (texts : List (List ℕ)) → 5 < at → Walks (suc room) at (cuts_at at texts) (cuts at texts)
cuts-walk room at [] h = Walks.none
cuts-walk room at (t ∷ ts) h = Walks.more {first = cut at t} (cut-walk room at t h)
    (subst (λ n. Walks (suc room) (at + n) (cuts_at (at + (1 + piece_count t)) ts) (cuts (at + (1 + piece_count t)) ts)) (sym (cut-length at t))
    (cuts-walk room (at + (1 + piece_count t)) ts (omega (arith, h))))

first-walk : (room : ℕ) (bytes : List ℕ) → Walk (suc room) 3 (At 3) (first_cut bytes)
first-walk room bytes = Walk.plain_array (Walks.more {first = Binary 5 (take 500_000 bytes) ∷ Symbol (codes "bytes") ∷ []} (Walk.binary WalkLabel.symbol) (pieces-walk room 6 (drop 500_000 bytes) (omega arith)))

entries-walk : (room at : ℕ) (texts : List (List ℕ)) → 5 < at → Walk (suc (suc room)) at (At at) (Array None (cuts_at (at + 1) texts) ∷ cuts (at + 1) texts)
entries-walk room at texts h = Walk.plain_array (subst (λ m. Walks (suc room) m (cuts_at (at + 1) texts) (cuts (at + 1) texts)) (next at) (cuts-walk room (at + 1) texts (omega (arith, h))))

pub first-length : (bytes : List ℕ) → 3 + length (first_cut bytes) ≡ entries_at bytes
first-length bytes = counted (piece_count (drop 500_000 bytes)) (map-length {X = List ℕ} {Y = Node} (Binary 5) (pieces (drop 500_000 bytes)) ∙ pieces-length (piece_count (drop 500_000 bytes)) (drop 500_000 bytes))
  where
    counted : {n : ℕ} (c : ℕ) → n ≡ c → 3 + suc (suc (suc n)) ≡ 6 + c
    counted c e = omega (arith, e)

both-walk : (room : ℕ) (d : List ℕ) (es : List (List ℕ))
    → Walks (suc (suc room)) 3 (At 3 ∷ At (entries_at d) ∷ []) (first_cut d ++ Array None (cuts_at (entries_at d + 1) es) ∷ cuts (entries_at d + 1) es)
both-walk room d es =
    let at = entries_at d in
    let last = Array None (cuts_at (at + 1) es) ∷ cuts (at + 1) es in
    subst (λ l. Walks (suc (suc room)) 3 (At 3 ∷ At at ∷ []) (first_cut d ++ l)) (append-nil last)
    (Walks.more {first = first_cut d} (first-walk (suc room) d)
    (Walks.more {first = last} {others = []} (subst (λ m. Walk (suc (suc room)) m (At at) last) (sym (first-length d)) (entries-walk room at es (omega arith))) Walks.none))

walk-is : (d : List ℕ) (es : List (List ℕ)) → Walk 200 0 (At 0) (packed d es).nodes
unfolding packed
walk-is d es = Walk.frame {tagged = Symbol (codes "directory") ∷ Symbol (codes "entries") ∷ []}
    (WalkLabels.more {first = Symbol (codes "directory") ∷ []} WalkLabel.symbol (WalkLabels.more {first = Symbol (codes "entries") ∷ []} {others = []} WalkLabel.symbol WalkLabels.none))
    (both-walk 197 d es)

-- ---- the nodes after the first six: plain arrays and binaries

abbrev Other : Node → Type 0
Other (Array None values) = length values ≤ 65535
Other (Binary class bytes) = (class ≡ 5) × IsData bytes
Other _ = ⊥

-- bytes that can be cut
record Fits (bytes : List ℕ) : Type 0 where
  are_bytes : AreBytes bytes
  few : length bytes ≤ 7_989_000

data-is : (bytes : List ℕ) → AreBytes bytes → length bytes ≤ 500_000 → IsData bytes
data-is bytes h few = record { few = omega (arith, few); each = h }

pieces-other : (n : ℕ) (bytes : List ℕ) → AreBytes bytes → All Other (map (Binary 5) (pieces_from n bytes))
pieces-other n bytes h = All-map Other (Binary 5) (pieces_from n bytes)
    (λ k d lt. (refl, data-is _ (pieces-bytes (λ b. b < 256) n bytes h k d lt) (pieces-short n bytes k d lt)))

pub row-length : (at n : ℕ) → length (in_a_row at n) ≡ n
row-length at zero = refl
row-length at (suc n) = ap suc (row-length (at + 1) n)

pub count-small : (bytes : List ℕ) → length bytes ≤ 7_989_000 → piece_count bytes ≤ 16
count-small bytes h = omega (arith, count-few bytes, h)

cut-other : (at : ℕ) (bytes : List ℕ) → Fits bytes → All Other (cut at bytes)
cut-other at bytes h = All-cons Other (Array None (in_a_row (at + 1) (piece_count bytes))) (map (Binary 5) (pieces bytes))
    (omega (arith, row-length (at + 1) (piece_count bytes), count-small bytes h.few)) (pieces-other (piece_count bytes) bytes h.are_bytes)

cuts-other : (at : ℕ) (texts : List (List ℕ)) → All Fits texts → All Other (cuts at texts)
cuts-other at [] h = All-nil Other
cuts-other at (t ∷ ts) h = All-append Other (cut at t) (cuts (at + (1 + piece_count t)) ts) (cut-other at t (h 0 t (omega arith))) (cuts-other (at + (1 + piece_count t)) ts (All-tail Fits t ts h))

pub cuts-at-length : (at : ℕ) (texts : List (List ℕ)) → length (cuts_at at texts) ≡ length texts
cuts-at-length at [] = refl
cuts-at-length at (t ∷ ts) = ap suc (cuts-at-length (at + (1 + piece_count t)) ts)

-- ---- their number, and their bytes

pieces-payload : (n : ℕ) (bytes : List ℕ) → sum_by payload (map (Binary 5) (pieces_from n bytes)) ≤ length bytes
pieces-payload n bytes = subst (λ s. s ≤ length bytes) (sym (same (pieces_from n bytes))) (pieces-sum n bytes)
  where
    same : (ps : List (List ℕ)) → sum_by payload (map (Binary 5) ps) ≡ sum_by (λ piece. length piece) ps
    same [] = refl
    same (p ∷ ps) = sum_by-cons payload (Binary 5 p) (map (Binary 5) ps) ∙ ap (λ s. length p + s) (same ps) ∙ sym (sum_by-cons (λ piece. length piece) p ps)

cut-payload : (at : ℕ) (bytes : List ℕ) → sum_by payload (cut at bytes) ≤ length bytes
cut-payload at bytes = rw (sum_by-cons payload (Array None (in_a_row (at + 1) (piece_count bytes))) (map (Binary 5) (pieces bytes))) (omega (arith, pieces-payload (piece_count bytes) bytes))

total : List (List ℕ) → ℕ
total texts = sum_by (λ text. length text) texts

cuts-payload : (at : ℕ) (texts : List (List ℕ)) → sum_by payload (cuts at texts) ≤ sum_by (λ text. length text) texts
cuts-payload at [] = omega arith
cuts-payload at (t ∷ ts) = rw (sum_by-append payload (cut at t) (cuts (at + (1 + piece_count t)) ts), sum_by-cons (λ (text : List ℕ). length text) t ts)
    (omega (arith, cut-payload at t, cuts-payload (at + (1 + piece_count t)) ts))

cuts-length : (at : ℕ) (texts : List (List ℕ)) → 500_000 * length (cuts at texts) ≤ 1_000_000 * length texts + sum_by (λ text. length text) texts
cuts-length at [] = omega arith
cuts-length at (t ∷ ts) = rw (length-append (cut at t) (cuts (at + (1 + piece_count t)) ts), sum_by-cons (λ (text : List ℕ). length text) t ts, cut-length at t)
    (more (piece_count t) (length (cuts (at + (1 + piece_count t)) ts)) (length t) (length ts) (sum_by (λ (text : List ℕ). length text) ts) (count-few t) (cuts-length (at + (1 + piece_count t)) ts))
  where
    more : (c l t n s : ℕ) → 500_000 * c < t + 500_000 → 500_000 * l ≤ 1_000_000 * n + s → 500_000 * (1 + c + l) ≤ 1_000_000 * suc n + (t + s)
    more c l t n s h k = omega (arith, h, k)

-- ---- all nodes

-- the nodes after the first six
rest : List ℕ → List (List ℕ) → List Node
rest d es = map (Binary 5) (pieces (drop 500_000 d)) ++ Array None (cuts_at (entries_at d + 1) es) ∷ cuts (entries_at d + 1) es

first-six : List ℕ → List (List ℕ) → List Node
first-six d es = Frame (1 ∷ 2 ∷ []) (At 3 ∷ At (entries_at d) ∷ []) ∷ Symbol (codes "directory") ∷ Symbol (codes "entries")
    ∷ Array None (At 4 ∷ in_a_row 6 (piece_count (drop 500_000 d))) ∷ Binary 5 (take 500_000 d) ∷ Symbol (codes "bytes") ∷ []

in-two : (d : List ℕ) (es : List (List ℕ)) → (packed d es).nodes ≡ first-six d es ++ rest d es
unfolding packed rest first-six
in-two d es = refl

texts-fit : (texts : List (List ℕ)) (n : ℕ) → All AreBytes texts → n + sum_by (λ text. length text) texts ≤ 7_989_000 → All Fits texts
texts-fit [] n h k = All-nil Fits
texts-fit (t ∷ ts) n h k = All-cons Fits t ts (record { are_bytes = h 0 t (omega arith); few = omega (arith, k, sum_by-cons (λ (text : List ℕ). length text) t ts) })
    (texts-fit ts (n + length t) (All-tail AreBytes t ts h) (omega (arith, k, sum_by-cons (λ (text : List ℕ). length text) t ts)))

rest-other : (d : List ℕ) (es : List (List ℕ)) → CanPack d es → All Other (rest d es)
unfolding rest
rest-other d es h = All-append Other (map (Binary 5) (pieces (drop 500_000 d))) (Array None (cuts_at (entries_at d + 1) es) ∷ cuts (entries_at d + 1) es)
    (pieces-other (piece_count (drop 500_000 d)) (drop 500_000 d) (All-drop (λ b. b < 256) 500_000 d h.directory))
    (All-cons Other (Array None (cuts_at (entries_at d + 1) es)) (cuts (entries_at d + 1) es) (omega (arith, cuts-at-length (entries_at d + 1) es, h.few))
    (cuts-other (entries_at d + 1) es (texts-fit es (length d) h.entries h.short)))

pub left-short : (k : ℕ) (d : List ℕ) → length (drop k d) ≤ length d
left-short k d = grind (arith, common_steps)

pub head-short : (k : ℕ) (d : List ℕ) → length (take k d) + length (drop k d) ≡ length d
head-short k d = grind (arith, common_steps)

head-few : (k : ℕ) (d : List ℕ) → length (take k d) ≤ k
head-few k d = grind (arith, common_steps)

name-directory : IsName (codes "directory")
name-directory = record {
  some = omega arith;
  few = omega arith;
  each = All-from_recursion (λ b. (32 ≤ b) × (b < 127)) (codes "directory") ((omega arith, omega arith), ((omega arith, omega arith), ((omega arith, omega arith), ((omega arith, omega arith), ((omega arith, omega arith), ((omega arith, omega arith), ((omega arith, omega arith), ((omega arith, omega arith), ((omega arith, omega arith), tt)))))))));
}

name-entries : IsName (codes "entries")
name-entries = record {
  some = omega arith;
  few = omega arith;
  each = All-from_recursion (λ b. (32 ≤ b) × (b < 127)) (codes "entries") ((omega arith, omega arith), ((omega arith, omega arith), ((omega arith, omega arith), ((omega arith, omega arith), ((omega arith, omega arith), ((omega arith, omega arith), ((omega arith, omega arith), tt)))))));
}

name-bytes : IsName (codes "bytes")
name-bytes = record {
  some = omega arith;
  few = omega arith;
  each = All-from_recursion (λ b. (32 ≤ b) × (b < 127)) (codes "bytes") ((omega arith, omega arith), ((omega arith, omega arith), ((omega arith, omega arith), ((omega arith, omega arith), ((omega arith, omega arith), tt)))));
}

-- such nodes keep the rules beside a symbol 5
others-are : (nodes xs : List Node) → IsSymbol nodes 5 → All Other xs → All (IsNode nodes) xs
others-are nodes xs five h = λ k d lt. one (get_or xs k d) (h k d lt)
  where
    one : (x : Node) → Other x → IsNode nodes x
    one (Symbol name) h = absurd h
    one (Str units) h = absurd h
    one (Large class bytes) h = absurd h
    one (Array None values) h = h
    one (Array (Some class) values) h = absurd h
    one (Frame tags values) h = absurd h
    one (Binary class bytes) h = (subst (IsSymbol nodes) (sym h.0) five, h.1)

no-symbol : (xs : List Node) (k : ℕ) (name : List ℕ) → All Other xs → slice_get xs k ≡ Some (Symbol name) → ⊥
no-symbol xs k name h e = all_at Other xs k (Symbol name) h e

unlike : (a b name old : List ℕ) → length a ≢ length b → Some (Symbol a) ≡ Some (Symbol name) → Some (Symbol b) ≡ Some (Symbol old) → folded old ≡ folded name → ⊥
unlike a b name old apart e k alike = apart (ap (λ l. length l) (inner a name e) ∙ sym (map-length to_ascii_lowercase name) ∙ sym (ap (λ l. length l) alike) ∙ map-length to_ascii_lowercase old ∙ sym (ap (λ l. length l) (inner b old k)))
  where
    inner : (a b : List ℕ) → Some (Symbol a) ≡ Some (Symbol b) → a ≡ b
    inner a b e = cc

once : (d : List ℕ) (es : List (List ℕ)) → All Other (rest d es) → AreFoldedOnce (first-six d es ++ rest d es)
unfolding first-six
once d es o zero k name named alike = absurd cc
once d es o (suc zero) zero name named alike = absurd (let e = alike.1 in cc)
once d es o (suc zero) (suc zero) name named alike = refl
once d es o (suc zero) (suc (suc zero)) name named alike = absurd (unlike (codes "directory") (codes "entries") name alike.0 (omega arith) named alike.1 alike.2)
once d es o (suc zero) (suc (suc (suc zero))) name named alike = absurd (let e = alike.1 in cc)
once d es o (suc zero) (suc (suc (suc (suc zero)))) name named alike = absurd (let e = alike.1 in cc)
once d es o (suc zero) (suc (suc (suc (suc (suc zero))))) name named alike = absurd (unlike (codes "directory") (codes "bytes") name alike.0 (omega arith) named alike.1 alike.2)
once d es o (suc zero) (suc (suc (suc (suc (suc (suc k)))))) name named alike = absurd (no-symbol (rest d es) k alike.0 o alike.1)
once d es o (suc (suc zero)) zero name named alike = absurd (let e = alike.1 in cc)
once d es o (suc (suc zero)) (suc zero) name named alike = absurd (unlike (codes "entries") (codes "directory") name alike.0 (omega arith) named alike.1 alike.2)
once d es o (suc (suc zero)) (suc (suc zero)) name named alike = refl
once d es o (suc (suc zero)) (suc (suc (suc zero))) name named alike = absurd (let e = alike.1 in cc)
once d es o (suc (suc zero)) (suc (suc (suc (suc zero)))) name named alike = absurd (let e = alike.1 in cc)
once d es o (suc (suc zero)) (suc (suc (suc (suc (suc zero))))) name named alike = absurd (unlike (codes "entries") (codes "bytes") name alike.0 (omega arith) named alike.1 alike.2)
once d es o (suc (suc zero)) (suc (suc (suc (suc (suc (suc k)))))) name named alike = absurd (no-symbol (rest d es) k alike.0 o alike.1)
once d es o (suc (suc (suc zero))) k name named alike = absurd cc
once d es o (suc (suc (suc (suc zero)))) k name named alike = absurd cc
once d es o (suc (suc (suc (suc (suc zero))))) zero name named alike = absurd (let e = alike.1 in cc)
once d es o (suc (suc (suc (suc (suc zero))))) (suc zero) name named alike = absurd (unlike (codes "bytes") (codes "directory") name alike.0 (omega arith) named alike.1 alike.2)
once d es o (suc (suc (suc (suc (suc zero))))) (suc (suc zero)) name named alike = absurd (unlike (codes "bytes") (codes "entries") name alike.0 (omega arith) named alike.1 alike.2)
once d es o (suc (suc (suc (suc (suc zero))))) (suc (suc (suc zero))) name named alike = absurd (let e = alike.1 in cc)
once d es o (suc (suc (suc (suc (suc zero))))) (suc (suc (suc (suc zero)))) name named alike = absurd (let e = alike.1 in cc)
once d es o (suc (suc (suc (suc (suc zero))))) (suc (suc (suc (suc (suc zero))))) name named alike = refl
once d es o (suc (suc (suc (suc (suc zero))))) (suc (suc (suc (suc (suc (suc k)))))) name named alike = absurd (no-symbol (rest d es) k alike.0 o alike.1)
once d es o (suc (suc (suc (suc (suc (suc i)))))) k name named alike = absurd (no-symbol (rest d es) i name o named)

tags-are : AllPairs {X = ℕ} (λ a b. a ≢ b) (1 ∷ 2 ∷ [])
tags-are = AllPairs-cons (λ (a b : ℕ). a ≢ b) 1 (2 ∷ []) (All-cons (λ (b : ℕ). 1 ≢ b) 2 [] (omega arith) (All-nil (λ (b : ℕ). 1 ≢ b)))
    (AllPairs-cons (λ (a b : ℕ). a ≢ b) 2 [] (All-nil (λ (b : ℕ). 2 ≢ b)) (search rules))

six-are : (d : List ℕ) (es : List (List ℕ)) → CanPack d es → All (IsNode (first-six d es ++ rest d es)) (first-six d es)
unfolding first-six
six-are d es h = All-from_recursion (IsNode (first-six d es ++ rest d es)) (first-six d es) (
  record {
    are_tags = record { few = omega arith; distinct = tags-are };
    paired = refl;
    symbols = All-from_recursion (IsSymbol (first-six d es ++ rest d es)) (1 ∷ 2 ∷ []) ((codes "directory", refl), ((codes "entries", refl), tt));
  },
  (
    name-directory,
    (
      name-entries,
      (
        omega (arith, row-length 6 (piece_count (drop 500_000 d)), count-small (drop 500_000 d) (omega (arith, left-short 500_000 d, h.short))),
        (((codes "bytes", refl), data-is (take 500_000 d) (All-take (λ b. b < 256) 500_000 d h.directory) (head-few 500_000 d)), (name-bytes, tt)),
      ),
    ),
  ),
)

six-five : (d : List ℕ) (es : List (List ℕ)) → IsSymbol (first-six d es ++ rest d es) 5
unfolding first-six
six-five d es = (codes "bytes", refl)

six-length : (d : List ℕ) (es : List (List ℕ)) → length (first-six d es) ≡ 6
unfolding first-six
six-length d es = refl

six-payload : (d : List ℕ) (es : List (List ℕ)) → sum_by payload (first-six d es) ≡ length (take 500_000 d)
unfolding first-six
six-payload d es =
    let f = Frame (1 ∷ 2 ∷ []) (At 3 ∷ At (entries_at d) ∷ []) in
    let a = Array None (At 4 ∷ in_a_row 6 (piece_count (drop 500_000 d))) in
    let b = Binary 5 (take 500_000 d) in
    let y = Symbol (codes "bytes") in
    sum _ _ _ _ _ (length (take 500_000 d)) (sum_by-cons payload f (Symbol (codes "directory") ∷ Symbol (codes "entries") ∷ a ∷ b ∷ y ∷ []))
    (sum_by-cons payload (Symbol (codes "directory")) (Symbol (codes "entries") ∷ a ∷ b ∷ y ∷ []))
    (sum_by-cons payload (Symbol (codes "entries")) (a ∷ b ∷ y ∷ [])) (sum_by-cons payload a (b ∷ y ∷ [])) (sum_by-cons payload b (y ∷ []))
  where
    sum : (p q r t u n : ℕ) → p ≡ 0 + q → q ≡ 0 + r → r ≡ 0 + t → t ≡ 0 + u → u ≡ n + 0 → p ≡ n
    sum p q r t u n e f g h k = omega (arith, e, f, g, h, k)

all-are : (d : List ℕ) (es : List (List ℕ)) → CanPack d es → All (IsNode (first-six d es ++ rest d es)) (first-six d es ++ rest d es)
all-are d es h = All-append (IsNode (first-six d es ++ rest d es)) (first-six d es) (rest d es) (six-are d es h) (others-are (first-six d es ++ rest d es) (rest d es) (six-five d es) (rest-other d es h))

rest-length : (d : List ℕ) (es : List (List ℕ)) → CanPack d es → length (rest d es) ≤ 31_990
unfolding rest
rest-length d es h = rw (
  length-append (map (Binary 5) (pieces (drop 500_000 d))) (Array None (cuts_at (entries_at d + 1) es) ∷ cuts (entries_at d + 1) es),
  map-length {X = List ℕ} {Y = Node} (Binary 5) (pieces (drop 500_000 d)),
  pieces-length (piece_count (drop 500_000 d)) (drop 500_000 d),
)
    (sum (piece_count (drop 500_000 d)) (length (cuts (entries_at d + 1) es)) (length es) (length d) (sum_by (λ (text : List ℕ). length text) es)
    (count-small (drop 500_000 d) (omega (arith, left-short 500_000 d, h.short))) (cuts-length (entries_at d + 1) es) h.few h.short)
  where
    sum : (c l n m s : ℕ) → c ≤ 16 → 500_000 * l ≤ 1_000_000 * n + s → n ≤ 15_977 → m + s ≤ 7_989_000 → c + suc l ≤ 31_990
    sum c l n m s a b e f = omega (arith, a, b, e, f)

-- its nodes are at most 31,996
pub nodes-few : (d : List ℕ) (es : List (List ℕ)) → CanPack d es → length (packed d es).nodes ≤ 31_996
nodes-few d es h = rw (in-two d es, length-append (first-six d es) (rest d es)) (omega (arith, six-length d es, rest-length d es h))

rest-payload : (d : List ℕ) (es : List (List ℕ)) → sum_by payload (rest d es) ≤ length (drop 500_000 d) + sum_by (λ text. length text) es
unfolding rest
rest-payload d es = rw (
  sum_by-append payload (map (Binary 5) (pieces (drop 500_000 d))) (Array None (cuts_at (entries_at d + 1) es) ∷ cuts (entries_at d + 1) es),
  sum_by-cons payload (Array None (cuts_at (entries_at d + 1) es)) (cuts (entries_at d + 1) es),
)
    (omega (arith, pieces-payload (piece_count (drop 500_000 d)) (drop 500_000 d), cuts-payload (entries_at d + 1) es))

-- and their bytes are those of the texts
pub nodes-light : (d : List ℕ) (es : List (List ℕ)) → CanPack d es → sum_by payload (packed d es).nodes ≤ 7_989_000
nodes-light d es h = rw (in-two d es, sum_by-append payload (first-six d es) (rest d es)) (omega (arith, six-payload d es, head-short 500_000 d, rest-payload d es, h.short))

six-plain : (d : List ℕ) (es : List (List ℕ)) → All NotFour (first-six d es)
unfolding first-six
six-plain d es = All-from_recursion NotFour (first-six d es) ((λ e. absurd (omega (arith, e))), (tt, (tt, (tt, (tt, (tt, tt))))))

-- its one frame has two slots
pub packed-plain : (d : List ℕ) (es : List (List ℕ)) → CanPack d es → All NotFour (packed d es).nodes
packed-plain d es h = rw (in-two d es) (All-append NotFour (first-six d es) (rest d es) (six-plain d es) (others (rest d es) (rest-other d es h)))
  where
    others : (xs : List Node) → All Other xs → All NotFour xs
    others xs h = λ k d lt. one (get_or xs k d) (h k d lt)
      where
        one : (x : Node) → Other x → NotFour x
        one (Symbol name) h = absurd h
        one (Str units) h = absurd h
        one (Large class bytes) h = absurd h
        one (Array None values) h = tt
        one (Array (Some class) values) h = absurd h
        one (Frame tags values) h = absurd h
        one (Binary class bytes) h = tt

packed-walk : (d : List ℕ) (es : List (List ℕ)) → Walk 200 0 (packed d es).root (packed d es).nodes
unfolding packed
packed-walk d es = walk-is d es

-- what is packed is a graph
pub packed-graph : (d : List ℕ) (es : List (List ℕ)) → CanPack d es → IsGraph (packed d es)
packed-graph d es h = record {
  walk = packed-walk d es;
  few = omega (arith, nodes-few d es h);
  light = omega (arith, nodes-light d es h);
  each = rw (in-two d es) (all-are d es h);
  folded_once = rw (in-two d es) (once d es (rest-other d es h));
}

pub packed-length : (d : List ℕ) (es : List (List ℕ)) → length (packed d es).nodes ≡ entries_at d + (1 + length (cuts (entries_at d + 1) es))
unfolding packed
packed-length d es = sum (length (first_cut d)) (entries_at d) (length (cuts (entries_at d + 1) es)) _ (length-append (first_cut d) (Array None (cuts_at (entries_at d + 1) es) ∷ cuts (entries_at d + 1) es)) (first-length d)
  where
    sum : (f a c n : ℕ) → n ≡ f + suc c → 3 + f ≡ a → suc (suc (suc n)) ≡ a + (1 + c)
    sum f a c n e h = omega (arith, e, h)
