-- How much a store has, by what it costs.
use Rattle.std.proofs.Common.{◌≡◌, refl, sym, ◌∙◌, ap, ℕ, suc, ◌+◌, ◌*◌, ◌<◌, ◌≤◌, true, List, [], ◌∷◌, ◌++◌, map, length, arith, sum, flat_map}
use Rattle.std.specs.List.{sum_by}
use Rattle.std.proofs.lemmas.Bool.{and_parts, leb-true}
use Rattle.std.proofs.lemmas.List.Sums.{sum_by-cons}
use Rattle.newt_graph.specs.declared.node.Node.{Node}
use Rattle.newt_graph.specs.declared.node.Node.TheVariants.{Symbol, Str, Binary, Large, Array, Frame}
use Rattle.newt_graph.specs.Graph.{IsGraph}
use Rattle.newt_spec_image.specs.Objects.{pages_for}
use Rattle.newt_spec_nsof.specs.Flat.{flat}
use Rattle.newt_spec_nsof.specs.Lengths.{large_len}
use Rattle.newt_spec_nsof.proofs.Lengths.{skeleton_text_len}
use Rattle.newt_spec_graph.specs.Lists.{Each}
use Rattle.newt_spec_store.specs.Store.{Entry, Soup, Store}
use Rattle.newt_spec_store.specs.Cost.{large_length, large_lengths, entry_pages, soup_pages, directory_pages, directory_bytes, skeleton_length}
use Rattle.newt_spec_store.specs.Image.{all_entries}
use Rattle.newt_spec_store.specs.Valid.{valid, well_formed, fits}
use Rattle.newt_laws_images.proofs.Records.{map-length}
use Rattle.newt_laws_images.proofs.Totals.{total, sum-total}
use Rattle.newt_backup.specs.Backup.{full, fulls, IsKept}

pages-enough : (n : ℕ) → n ≤ 500 * pages_for n
pages-enough n = omega arith

pages-some : (n : ℕ) → 1 ≤ pages_for n
pages-some n = omega arith

larges-enough : (nodes : List Node) → sum_by large_len nodes ≤ 500 * sum (map pages_for (flat_map large_length nodes))
larges-enough [] = omega arith
larges-enough (Large class bytes ∷ nodes) = rw (sum_by-cons large_len (Large class bytes) nodes, sum_by-cons (λ m. m) (pages_for (length bytes)) (map pages_for (flat_map large_length nodes)))
    (omega (arith, pages-enough (length bytes), larges-enough nodes))
larges-enough (Symbol n ∷ nodes) = rw (sum_by-cons large_len (Symbol n) nodes) (omega (arith, larges-enough nodes))
larges-enough (Str n ∷ nodes) = rw (sum_by-cons large_len (Str n) nodes) (omega (arith, larges-enough nodes))
larges-enough (Binary c n ∷ nodes) = rw (sum_by-cons large_len (Binary c n) nodes) (omega (arith, larges-enough nodes))
larges-enough (Array c n ∷ nodes) = rw (sum_by-cons large_len (Array c n) nodes) (omega (arith, larges-enough nodes))
larges-enough (Frame c n ∷ nodes) = rw (sum_by-cons large_len (Frame c n) nodes) (omega (arith, larges-enough nodes))

-- an entry whole has no more bytes than its pages
entry-enough : (sig : ℕ) (e : Entry) → IsGraph e.graph → length (full sig e) ≤ 500 * entry_pages e
entry-enough sig e g = sized (length (flat e.graph)) (skeleton_length e.graph) (sum_by large_len e.graph.nodes) (length (large_lengths e.graph)) (sum (map pages_for (large_lengths e.graph)))
    (skeleton_text_len e.graph g) (larges-enough e.graph.nodes)
  where
    sized : (n s l c p : ℕ) → s + l ≡ n → l ≤ 500 * p → suc (suc (suc (suc (suc (suc (suc (suc (suc (suc n))))))))) ≤ 500 * (pages_for (12 + s + 12 * c) + p)
    sized n s l c p e h = omega (arith, e, h, pages-enough (12 + s + 12 * c))

entry-some : (e : Entry) → 1 ≤ entry_pages e
entry-some e = omega (arith, pages-some (12 + skeleton_length e.graph + 12 * length (large_lengths e.graph)))

entries-few : (xs : List (ℕ × Entry)) → length xs ≤ total (λ (y : ℕ × Entry). entry_pages y.1) xs
unfolding total
entries-few [] = omega arith
entries-few (x ∷ xs) = more (length xs) (entry_pages x.1) (total (λ (y : ℕ × Entry). entry_pages y.1) xs) (entry-some x.1) (entries-few xs)
  where
    more : (n p t : ℕ) → 1 ≤ p → n ≤ t → suc n ≤ p + t
    more n p t a b = omega (arith, a, b)

entries-short : (xs : List (ℕ × Entry)) → Each (λ x. IsGraph x.1.graph × (x.1.time < 4294967296)) xs
    → sum_by (λ text. length text) (map (λ (x : ℕ × Entry). full x.0 x.1) xs) ≤ 500 * total (λ (y : ℕ × Entry). entry_pages y.1) xs
unfolding total
entries-short [] h = omega arith
entries-short (x ∷ xs) h = rw (sum_by-cons (λ (text : List ℕ). length text) (full x.0 x.1) (map (λ (x : ℕ × Entry). full x.0 x.1) xs))
    (more (length (full x.0 x.1)) (sum_by (λ (text : List ℕ). length text) (map (λ (x : ℕ × Entry). full x.0 x.1) xs)) (entry_pages x.1) (total (λ (y : ℕ × Entry). entry_pages y.1) xs)
    (entry-enough x.0 x.1 h.0.0) (entries-short xs h.1))
  where
    more : (l s p t : ℕ) → l ≤ 500 * p → s ≤ 500 * t → l + s ≤ 500 * (p + t)
    more l s p t a b = omega (arith, a, b)

total-append : {X : Type 0} (f : X → ℕ) (xs ys : List X) → total f (xs ++ ys) ≡ total f xs + total f ys
unfolding total
total-append f [] ys = zero-add (total f ys)
  where
    zero-add : (n : ℕ) → n ≡ 0 + n
    zero-add n = omega arith
total-append f (x ∷ xs) ys = more (f x) (total f xs) (total f ys) (total f (xs ++ ys)) (total-append f xs ys)
  where
    more : (a b c d : ℕ) → d ≡ b + c → a + d ≡ a + b + c
    more a b c d e = omega (arith, e)

soup-total : (sig : ℕ) (es : List Entry) → total (λ (y : ℕ × Entry). entry_pages y.1) (map (λ (e : Entry). (sig, e)) es) ≡ total entry_pages es
unfolding total
soup-total sig [] = refl
soup-total sig (e ∷ es) = ap (λ n. entry_pages e + n) (soup-total sig es)

pub store-total : (ps : List Soup) → total (λ (y : ℕ × Entry). entry_pages y.1) (flat_map (λ (p : Soup). map (λ (e : Entry). (p.sig, e)) p.entries) ps) ≡ total soup_pages ps
unfolding total
store-total [] = refl
store-total (p ∷ ps) = total-append (λ (y : ℕ × Entry). entry_pages y.1) (map (λ (e : Entry). (p.sig, e)) p.entries) (flat_map (λ (p : Soup). map (λ (e : Entry). (p.sig, e)) p.entries) ps)
    ∙ ap (λ n. n + total (λ (y : ℕ × Entry). entry_pages y.1) (flat_map (λ (p : Soup). map (λ (e : Entry). (p.sig, e)) p.entries) ps)) (soup-total p.sig p.entries ∙ sym (sum-total entry_pages p.entries))
    ∙ ap (λ n. soup_pages p + n) (store-total ps)

cost-small : (s : Store) → valid 4099 s ≡ true → directory_pages s + total (λ (y : ℕ × Entry). entry_pages y.1) (all_entries s) ≤ 15_978
cost-small s v = omega (arith, leb-true _ _ (and_parts (well_formed s) (fits 4099 s) v).1, store-total s.soups, sum-total soup_pages s.soups)

pub kept-few : (s : Store) → IsKept s → length (fulls s) ≤ 15_977
kept-few s k = omega (arith, map-length (λ (x : ℕ × Entry). full x.0 x.1) (all_entries s), entries-few (all_entries s), cost-small s k.valid, pages-some (length (directory_bytes s)))

pub kept-short : (s : Store) → IsKept s → length (directory_bytes s) + sum_by (λ text. length text) (fulls s) ≤ 7_989_000
kept-short s k = sized (length (directory_bytes s)) (sum_by (λ (text : List ℕ). length text) (fulls s)) (directory_pages s) (total (λ (y : ℕ × Entry). entry_pages y.1) (all_entries s))
    (pages-enough (length (directory_bytes s))) (entries-short (all_entries s) k.graphs) (cost-small s k.valid)
  where
    sized : (d f p t : ℕ) → d ≤ 500 * p → f ≤ 500 * t → p + t ≤ 15_978 → d + f ≤ 7_989_000
    sized d f p t a b c = omega (arith, a, b, c)
