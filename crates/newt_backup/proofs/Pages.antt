-- Entries and their pages, as they are counted.
use Rattle.std.proofs.Common.{◌≡◌, refl, sym, ◌∙◌, ap, ℕ, suc, ◌+◌, ◌-◌, ◌≤◌, true, get_or, List, [], ◌∷◌, map, length, take, drop, arith, flat_map, sum, nat_le}
use Rattle.std.specs.List.{sum_by}
use Rattle.std.proofs.lemmas.List.Sums.{sum_by-cons}
use Rattle.newt_graph.specs.declared.node.Node.{Node}
use Rattle.newt_graph.specs.declared.node.Node.TheVariants.{Symbol, Str, Binary, Large, Array, Frame}
use Rattle.newt_graph.specs.Graph.{RawGraph, IsGraph}
use Rattle.newt_spec_image.specs.Objects.{pages_for}
use Rattle.newt_spec_nsof.specs.Flat.{flat}
use Rattle.newt_spec_nsof.specs.Lengths.{large_len}
use Rattle.newt_spec_nsof.proofs.Lengths.{text_len, skeleton_text_len}
use Rattle.newt_nsof_write.proofs.Sizes.{ref_few, each_few, nodes_few}
use Rattle.newt_spec_graph.specs.Graph.{is_frame, object}
use Rattle.newt_spec_store.specs.Store.{Entry}
use Rattle.newt_spec_store.specs.Cost.{large_length, skeleton_length}
use Rattle.newt_spec_store.specs.Valid.{valid_entry}
use Rattle.newt_laws_images.proofs.Within.{graph-within}
use Rattle.newt_entries.specs.declared.full.FullEntry.{FullEntry}
use Rattle.newt_backup.specs.Contents.{text_of}
use Rattle.newt_backup.proofs.Steps.{opened}

pub entry-valid : (e : Entry) (n : ℕ) → IsGraph e.graph → is_frame (object e.graph.nodes e.graph.root) ≡ true → n ≡ skeleton_length e.graph → nat_le n 64_000 ≡ valid_entry e
entry-valid e n g f h = rw (f, graph-within e.graph g, h) refl

pub skeleton_few : (g : RawGraph) → IsGraph g → skeleton_length g ≤ 140_000_000_000
skeleton_few g is = omega (arith, text_len g is, skeleton_text_len g is, ref_few g.root, nodes_few g.nodes is.few (each_few g.nodes is.each))

-- an entry's text is ten bytes, the skeleton's and those of the large binaries
pub full-size : (e : FullEntry) → IsGraph e.graph → length (text_of e) ≡ 10 + skeleton_length e.graph + sum_by large_len e.graph.nodes
full-size e g = sized (length (flat e.graph)) (skeleton_length e.graph) (sum_by large_len e.graph.nodes) (skeleton_text_len e.graph g)
  where
    sized : (n s l : ℕ) → s + l ≡ n → suc (suc (suc (suc (suc (suc (suc (suc (suc (suc n))))))))) ≡ 10 + s + l
    sized n s l e = omega (arith, e)

flat-pages : (x : Node) (xs : List Node) → sum (map pages_for (flat_map large_length (x ∷ xs))) ≡ sum (map pages_for (large_length x)) + sum (map pages_for (flat_map large_length xs))
flat-pages (Large class bytes) xs = sum_by-cons (λ m. m) (pages_for (length bytes)) (map pages_for (flat_map large_length xs)) ∙ ap (λ n. n + sum (map pages_for (flat_map large_length xs))) (sym (one (pages_for (length bytes))))
  where
    one : (n : ℕ) → sum (n ∷ []) ≡ n
    one n = omega (arith, sum_by-cons (λ m. m) n [])
flat-pages (Symbol n) xs = zero-add _
  where
    zero-add : (n : ℕ) → n ≡ 0 + n
    zero-add n = omega arith
flat-pages (Str n) xs = zero-add _
  where
    zero-add : (n : ℕ) → n ≡ 0 + n
    zero-add n = omega arith
flat-pages (Binary c n) xs = zero-add _
  where
    zero-add : (n : ℕ) → n ≡ 0 + n
    zero-add n = omega arith
flat-pages (Array c n) xs = zero-add _
  where
    zero-add : (n : ℕ) → n ≡ 0 + n
    zero-add n = omega arith
flat-pages (Frame c n) xs = zero-add _
  where
    zero-add : (n : ℕ) → n ≡ 0 + n
    zero-add n = omega arith

pub pages-step : (x : Node) (left : List Node) (pages more total : ℕ) → 1 ≤ length left → x ≡ get_or left 0 x → pages + sum (map pages_for (flat_map large_length left)) ≡ total → more ≡ sum (map pages_for (large_length x))
    → pages + more + sum (map pages_for (flat_map large_length (take (length left - 1) (drop 1 left)))) ≡ total
pages-step x left pages more total h is e m =
    omega (arith, ap (λ l. sum (map pages_for (flat_map large_length l))) (opened x left h is), flat-pages x (take (length left - 1) (drop 1 left)), e, m)
