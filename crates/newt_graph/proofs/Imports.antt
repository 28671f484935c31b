-- What a builder keeps when a graph is put after its nodes.
use Rattle.std.proofs.Common.{◌≡◌, ℕ, suc, ◌+◌, ◌-◌, ◌≤◌, List, [], ◌∷◌, ◌++◌, length, map, All, Bool, true, false, Option, Some, None, refl, sym, ap, subst, append_assoc, arith, cond, inl, inr, ◌⊎◌}
use Rattle.std.specs.Prelude.{slice_get, nat_le, if◌then◌else◌}
use Rattle.std.proofs.lemmas.Bool.{leb-true}
use Rattle.std.specs.List.{sum_by}
use Rattle.std.proofs.lemmas.List.{append-nil, length-map, length-append}
use Rattle.std.proofs.lemmas.List.Sums.{sum_by-append}
use Rattle.std.proofs.lemmas.List.Elements.{All-nil, All-cons, All-head, All-tail, All-append}
use Rattle.newt_graph.specs.declared.node.Node.{Node}
use Rattle.newt_graph.specs.declared.node.Node.TheVariants.{Symbol, Str, Binary, Large, Array, Frame}
use Rattle.newt_graph.specs.Graph.{RawGraph, IsGraph, IsNode, IsAlike, AreFoldedOnce, payload}
use Rattle.newt_graph.specs.Raw.{renamed, renamed_ref}
use Rattle.newt_graph.specs.Draft.{IsPart, IsDraft}
use Rattle.newt_graph.specs.Import.{known_as, kept_of}
use Rattle.newt_graph.proofs.Options.{some_is}
use Rattle.newt_graph.proofs.Elements.{at_push}
use Rattle.newt_graph.proofs.Form.{symbol_only}
use Rattle.newt_graph.proofs.Drafts.{once_push, none_alike}

part_of_node : (nodes : List Node) (to : ℕ → ℕ) (node : Node) → IsNode nodes node → IsPart (renamed to node)
part_of_node nodes to (Symbol name) is = is
part_of_node nodes to (Str units) is = is
part_of_node nodes to (Binary class bytes) is = is.1
part_of_node nodes to (Large class bytes) is = is.1
part_of_node nodes to (Array None values) is = omega (arith, is, length-map values (renamed_ref to))
part_of_node nodes to (Array (Some class) values) is = omega (arith, is.1, length-map values (renamed_ref to))
part_of_node nodes to (Frame tags values) is = (omega (arith, is.are_tags.few, length-map tags to), omega (arith, is.paired, length-map tags to, length-map values (renamed_ref to)))

-- how the first node goes
first_kept : (old : List Node) (node : Node) (nodes : List Node) → ((k : ℕ) × (known_as old node ≡ Some k) × (kept_of old (node ∷ nodes) ≡ kept_of old nodes)) ⊎ ((known_as old node ≡ None) × (kept_of old (node ∷ nodes) ≡ node ∷ kept_of old nodes))
unfolding kept_of
first_kept old node nodes = by (known_as old node) refl
  where
    by : (o : Option ℕ) → known_as old node ≡ o → ((k : ℕ) × (known_as old node ≡ Some k) × (kept_of old (node ∷ nodes) ≡ kept_of old nodes)) ⊎ ((known_as old node ≡ None) × (kept_of old (node ∷ nodes) ≡ node ∷ kept_of old nodes))
    by (Some k) e = inl (k, e, rw (e, kept_of) refl)
    by None e = inr (e, rw (e, kept_of) refl)

kept_nil : (old : List Node) → kept_of old [] ≡ []
unfolding kept_of
kept_nil old = refl

kept_parts : (old all : List Node) (to : ℕ → ℕ) (new : List Node) → All (IsNode all) new → All IsPart (map (renamed to) (kept_of old new))
kept_parts old all to [] is = subst (λ (ns : List Node). All IsPart (map (renamed to) ns)) (sym (kept_nil old)) (All-nil IsPart)
kept_parts old all to (node ∷ nodes) is =
    let rest = kept_parts old all to nodes (All-tail (IsNode all) node nodes is) in
    elim (first_kept old node nodes) [
      | inl h ↦ subst (λ (ns : List Node). All IsPart (map (renamed to) ns)) (sym h.2) rest
      | inr h ↦ subst (λ (ns : List Node). All IsPart (map (renamed to) ns)) (sym h.1) (All-cons IsPart (renamed to node) (map (renamed to) (kept_of old nodes)) (part_of_node all to node (All-head (IsNode all) node nodes is)) rest)
    ]

once_tail : (node : Node) (nodes : List Node) → AreFoldedOnce (node ∷ nodes) → AreFoldedOnce nodes
once_tail node nodes once i k name named alike = less (once (suc i) (suc k) name named alike)
  where
    less : suc i ≡ suc k → i ≡ k
    less e = omega (arith, e)

-- no symbol that is kept is alike one before
abbrev NoneBefore : List Node → List Node → List Node → Type 0
NoneBefore old before new = (i : ℕ) (name : List ℕ) → slice_get new i ≡ Some (Symbol name) → known_as old (Symbol name) ≡ None → (k : ℕ) → IsAlike before k name → ⊥

kept_once : (old : List Node) (to : ℕ → ℕ) (new before : List Node) → AreFoldedOnce before → AreFoldedOnce new → NoneBefore old before new → AreFoldedOnce (before ++ map (renamed to) (kept_of old new))
kept_once old to [] before once own none = subst (λ (ns : List Node). AreFoldedOnce (before ++ map (renamed to) ns)) (sym (kept_nil old)) (subst AreFoldedOnce (sym (append-nil before)) once)
kept_once old to (node ∷ nodes) before once own none =
    elim (first_kept old node nodes) [
      | inl h ↦ subst (λ (ns : List Node). AreFoldedOnce (before ++ map (renamed to) ns)) (sym h.2)
          (kept_once old to nodes before once (once_tail node nodes own) (λ i. none (suc i)))
      | inr h ↦ subst (λ (ns : List Node). AreFoldedOnce (before ++ map (renamed to) ns)) (sym h.1)
          (subst AreFoldedOnce (append_assoc before (renamed to node ∷ []) (map (renamed to) (kept_of old nodes)))
          (kept_once old to nodes (before ++ renamed to node ∷ [])
          (once_push before (renamed to node) once (λ name e k alike.
          let is = symbol_only to node name e in
          none 0 name (ap (λ (n : Node). Some n) is) (subst (λ (n : Node). known_as old n ≡ None) is h.0) k alike))
          (once_tail node nodes own)
          (λ i name at known k alike. elim (at_push before (renamed to node) k (Symbol alike.0) alike.1) [
            | inl older ↦ none (suc i) name at known k (alike.0, older, alike.2)
            | inr last ↦
                let is = symbol_only to node alike.0 last.1 in
                omega (arith, own 0 (suc i) alike.0 (ap (λ (n : Node). Some n) is) (name, at, sym alike.2))
          ])))
    ]

pub after_kept : (old : List Node) (g : RawGraph) (to : ℕ → ℕ) (added items : List Node) (total left : ℕ) → IsGraph g → added ≡ map (renamed to) (kept_of old g.nodes) → items ≡ old ++ added
    → length old + length added ≤ 131072 → sum_by payload added ≤ 33554432 - total → left ≡ 33554432 - total - sum_by payload added
    → IsDraft old × (total ≡ sum_by payload old) → IsDraft items × (33554432 - left ≡ sum_by payload items)
after_kept old g to added items total left graph is all few light rest h =
    let sums = sum_by-append payload old added in
    let sum : 33554432 - left ≡ sum_by payload (old ++ added) = omega (arith, sums, light, rest, h.1, h.0.light) in
    rw all (
      record {
        few = omega (arith, few, length-append old added);
        light = omega (arith, sums, light, h.1, h.0.light);
        each = All-append IsPart old added h.0.each (subst (All IsPart) (sym is) (kept_parts old g.nodes to g.nodes graph.each));
        folded_once = subst (λ (ns : List Node). AreFoldedOnce (old ++ ns)) (sym is)
            (kept_once old to g.nodes old h.0.folded_once graph.folded_once (λ i name at known k alike. none_alike old name known k alike));
      },
      sum,
    )

pub left_is : (sum most left : ℕ) → (if nat_le sum most then Some (most - sum) else None) ≡ Some left → (sum ≤ most) × (left ≡ most - sum)
left_is sum most left e = by (nat_le sum most) refl e
  where
    by : (b : Bool) → nat_le sum most ≡ b → cond b (Some (most - sum)) None ≡ Some left → (sum ≤ most) × (left ≡ most - sum)
    by true is e = (leb-true sum most is, sym (some_is e))
    by false is e = absurd cc
