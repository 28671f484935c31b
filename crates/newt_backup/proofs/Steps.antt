-- The steps of the loops that put nodes.
use Rattle.std.proofs.Common.{◌≡◌, refl, sym, ◌∙◌, ap, ℕ, zero, suc, ◌+◌, ◌-◌, ◌/◌, ◌<◌, ◌≤◌, min, inl, inr, get_or, List, [], ◌∷◌, ◌++◌, map, length, take, drop, arith, append_assoc, length-append}
use Rattle.std.proofs.lemmas.Bool.{cases_lt}
use Rattle.std.proofs.lemmas.List.{take_all, drop_all, length-drop}
use Rattle.newt_graph.specs.declared.node.Node.{Node}
use Rattle.newt_graph.specs.declared.node.Node.TheVariants.{Binary}
use Rattle.newt_graph.specs.declared.node.Ref.{Ref}
use Rattle.newt_graph.specs.declared.node.Ref.TheVariants.{Node as At}
use Rattle.newt_backup.specs.Backup.{pieces_from, piece_count, pieces, in_a_row, cut, cuts, cuts_at}
use Rattle.newt_backup.proofs.Graph.{cut-length}

row-push : (at k : ℕ) → in_a_row at (suc k) ≡ in_a_row at k ++ At (at + k) ∷ []
row-push at zero = ap (λ n. At n ∷ []) (same at)
  where
    same : (n : ℕ) → n ≡ n + 0
    same n = omega arith
row-push at (suc k) = ap (λ l. At at ∷ l) (row-push (at + 1) k ∙ ap (λ n. in_a_row (at + 1) k ++ At n ∷ []) (same at k))
  where
    same : (n k : ℕ) → n + 1 + k ≡ n + suc k
    same n k = omega arith

pub row-step : (new old out : List Ref) (at k : ℕ) → out ≡ old ++ in_a_row at k → new ≡ out ++ At (at + k) ∷ [] → new ≡ old ++ in_a_row at (k + 1)
row-step new old out at k e h = h ∙ ap (λ l. l ++ At (at + k) ∷ []) e ∙ append_assoc old (in_a_row at k) (At (at + k) ∷ []) ∙ ap (λ l. old ++ l) (sym (row-push at k)) ∙ ap (λ n. old ++ in_a_row at n) (next k)
  where
    next : (k : ℕ) → suc k ≡ k + 1
    next k = omega arith

pub next-piece : (left : List ℕ) → 0 < length left → pieces left ≡ take 500_000 left ∷ pieces (drop 500_000 left)
next-piece left h = ap (λ n. pieces_from n left) (fewer 500_000 left h refl)
  where
    count : (n m : ℕ) → 0 < n → m ≡ n - 500_000 → (n + 499_999) / 500_000 ≡ suc ((m + 499_999) / 500_000)
    count n m h e = omega (arith, h, e)

    fewer : (k : ℕ) (b : List ℕ) → 0 < length b → k ≡ 500_000 → piece_count b ≡ suc (piece_count (drop k b))
    fewer k b h e = count (length b) (length (drop k b)) h (length-drop k b ∙ ap (λ k. length b - k) e)

-- a piece of as many bytes as there are, or the most
pub sized-piece : (left : List ℕ) (size : ℕ) → 0 < length left → size ≡ min (length left) 500_000 → pieces left ≡ take size left ∷ pieces (drop size left)
sized-piece left size h e = elim (cases_lt 500_000 (length left)) [
  | inl more ↦ next-piece left h ∙ ap (λ n. take n left ∷ pieces (drop n left)) (larger (length left) size e more)
  | inr few ↦ next-piece left h ∙ ap (λ l. l ∷ pieces (drop 500_000 left)) (take_all 500_000 left few ∙ sym (take_all size left (omega (arith, e, few))))
      ∙ ap (λ l. take size left ∷ pieces l) (drop_all 500_000 left few ∙ sym (drop_all size left (omega (arith, e, few))))
]
  where
    larger : (n size : ℕ) → size ≡ min n 500_000 → 500_000 < n → 500_000 ≡ size
    larger n size e h = omega (arith, e, h)

pub piece-step : (new old nodes : List Node) (bytes left piece rest : List ℕ) (size : ℕ) → 0 < length left → size ≡ min (length left) 500_000 → piece ≡ take size left → rest ≡ drop size left
    → nodes ++ map (Binary 5) (pieces left) ≡ old ++ map (Binary 5) (pieces bytes) → new ≡ nodes ++ Binary 5 piece ∷ []
    → new ++ map (Binary 5) (pieces rest) ≡ old ++ map (Binary 5) (pieces bytes)
piece-step new old nodes bytes left piece rest size some is p r e h =
    ap (λ l. l ++ map (Binary 5) (pieces rest)) h ∙ append_assoc nodes (Binary 5 piece ∷ []) (map (Binary 5) (pieces rest))
    ∙ ap (λ b. nodes ++ Binary 5 b ∷ map (Binary 5) (pieces rest)) p ∙ ap (λ b. nodes ++ Binary 5 (take size left) ∷ map (Binary 5) (pieces b)) r
    ∙ ap (λ ps. nodes ++ map (Binary 5) ps) (sym (sized-piece left size some is)) ∙ e

-- the cuts of texts, one after another
pub cut-step : (new old nodes : List Node) (text : List ℕ) (texts all : List (List ℕ)) → nodes ++ cuts (length nodes) (text ∷ texts) ≡ old ++ cuts (length old) all
    → new ≡ nodes ++ cut (length nodes) text → new ++ cuts (length new) texts ≡ old ++ cuts (length old) all
cut-step new old nodes text texts all e h =
    ap (λ n. new ++ cuts n texts) (ap (λ l. length l) h ∙ length-append nodes (cut (length nodes) text) ∙ ap (λ n. length nodes + n) (cut-length (length nodes) text))
    ∙ ap (λ l. l ++ cuts (length nodes + (1 + piece_count text)) texts) h
    ∙ append_assoc nodes (cut (length nodes) text) (cuts (length nodes + (1 + piece_count text)) texts) ∙ e

-- and their numbers
pub number-step : (new old values : List Ref) (at first next : ℕ) (text : List ℕ) (texts all : List (List ℕ)) → values ++ cuts_at at (text ∷ texts) ≡ old ++ cuts_at first all
    → new ≡ values ++ At at ∷ [] → next ≡ at + (1 + piece_count text) → new ++ cuts_at next texts ≡ old ++ cuts_at first all
number-step new old values at first next text texts all e h n =
    ap (λ l. l ++ cuts_at next texts) h ∙ append_assoc values (At at ∷ []) (cuts_at next texts) ∙ ap (λ k. values ++ At at ∷ cuts_at k texts) n ∙ e

-- how many nodes are put
pub room : (nodes old : List Node) (text : List ℕ) (texts all : List (List ℕ)) (most : ℕ) → nodes ++ cuts (length nodes) (text ∷ texts) ≡ old ++ cuts (length old) all
    → length old + length (cuts (length old) all) ≤ most → length nodes + (1 + piece_count text) ≤ most
room nodes old text texts all most e h =
    let n = length-append nodes (cut (length nodes) text ++ cuts (length nodes + (1 + piece_count text)) texts) in
    let m = length-append (cut (length nodes) text) (cuts (length nodes + (1 + piece_count text)) texts) in
    omega (arith, n, m, cut-length (length nodes) text, ap (λ l. length l) e, length-append old (cuts (length old) all), h)

-- a list that is taken apart
pub opened : {X : Type 0} (x : X) (left : List X) → 1 ≤ length left → x ≡ get_or left 0 x → left ≡ x ∷ take (length left - 1) (drop 1 left)
opened x [] h e = absurd (omega (arith, h))
opened x (y ∷ ys) h e = ap (λ z. z ∷ ys) (sym e) ∙ ap (λ l. x ∷ l) (sym (take_all (suc (length ys) - 1) ys (less (length ys))))
  where
    less : (n : ℕ) → n ≤ suc n - 1
    less n = omega arith

pub number-room : (at next : ℕ) (text : List ℕ) (texts : List (List ℕ)) → at + length (cuts at (text ∷ texts)) ≤ 65_535 → next ≡ at + (1 + piece_count text) → next + length (cuts next texts) ≤ 65_535
number-room at next text texts h e = rw (e) (omega (arith, h, length-append (cut at text) (cuts (at + (1 + piece_count text)) texts), cut-length at text))
