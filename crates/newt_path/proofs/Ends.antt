-- The last name of a path, and the frame that the names before it lead to.
use Rattle.std.proofs.Common.{◌≡◌, ℕ, length, All, List, [], ◌∷◌, ◌++◌, Option, Some, None, refl, sym, ap, subst, ◌∙◌}
use Rattle.std.specs.Prelude.{slice_get, option_map, option_and_then}
use Rattle.std.specs.List.{last_or}
use Rattle.newt_graph.specs.declared.node.Node.{Node}
use Rattle.newt_graph.specs.declared.node.Node.TheVariants.{Symbol, Str, Binary, Large, Array, Frame}
use Rattle.newt_graph.specs.declared.node.Ref.{Ref}
use Rattle.newt_graph.specs.declared.node.Ref.TheVariants as refs
use Rattle.newt_graph.specs.Graph.{RawGraph, IsName}
use Rattle.newt_graph.proofs.Elements.{get_seam}
use Rattle.std.proofs.lemmas.Option.{slice_get_within, get_or_from_slice_get}
use Rattle.newt_path.specs.Names.{IsPath}
use Rattle.newt_spec_graph.specs.Slots.{frame_number, value_below, but_last, put, put_into}
use Rattle.newt_graph.specs.declared.fault.GraphFault.{GraphFault}
use Rattle.newt_graph.specs.declared.fault.GraphFault.TheVariants.{Limit, Memory}
use Rattle.newt_path.specs.declared.fault.SetFault.TheVariants as fault
use Rattle.newt_path.specs.Faults.{set_fault}
use Rattle.newt_path.specs.Put.{IsFrameOf}

but_last_push : {X : Type 0} (xs : List X) (x : X) → but_last (xs ++ x ∷ []) ≡ xs
but_last_push [] x = refl
but_last_push (y ∷ []) x = refl
but_last_push (y ∷ z ∷ xs) x = ap (λ ys. y ∷ ys) (but_last_push (z ∷ xs) x)

last_push : {X : Type 0} (o : Option X) (xs : List X) (x : X) → last_or o (xs ++ x ∷ []) ≡ Some x
last_push o [] x = refl
last_push o (y ∷ xs) x = last_push (Some y) xs x

abbrev frame_below : RawGraph → List (List ℕ) → Option ℕ
frame_below g before = option_and_then (frame_number g.nodes) (value_below g.nodes g.root before)

put_by : (g : RawGraph) (path before : List (List ℕ)) (last : List ℕ) (v : RawGraph) → path ≡ before ++ last ∷ [] → put g path v ≡ option_map (put_into g last v) (frame_below g before)
put_by g path before last v e =
    let name : last_or None path ≡ Some last = ap (last_or None) e ∙ last_push None before last in
    let front : but_last path ≡ before = ap but_last e ∙ but_last_push before last in
    ap (λ (o : Option (List ℕ)). option_and_then (λ name. option_map (put_into g name v) (frame_below g (but_last path))) o) name
    ∙ ap (λ (ns : List (List ℕ)). option_map (put_into g last v) (frame_below g ns)) front

pub put_none : (g : RawGraph) (path before : List (List ℕ)) (last : List ℕ) (v : RawGraph) → path ≡ before ++ last ∷ [] → option_and_then (frame_number g.nodes) (value_below g.nodes g.root before) ≡ None → put g path v ≡ None
put_none g path before last v e none = put_by g path before last v e ∙ ap (option_map (put_into g last v)) none

pub put_some : (g : RawGraph) (path before : List (List ℕ)) (last : List ℕ) (v : RawGraph) (n : ℕ) → path ≡ before ++ last ∷ [] → option_and_then (frame_number g.nodes) (value_below g.nodes g.root before) ≡ Some n → put g path v ≡ Some (put_into g last v n)
put_some g path before last v n e some = put_by g path before last v e ∙ ap (option_map (put_into g last v)) some

-- the frame that was found is one that a path leads to
record At (nodes : List Node) (value : Ref) (n : ℕ) : Type 0 where
  pub is : value ≡ refs.Node n
  pub tags : List ℕ
  pub values : List Ref
  pub there : slice_get nodes n ≡ Some (Frame tags values)

found_by : (nodes : List Node) (k n : ℕ) (o : Option Node) → slice_get nodes k ≡ o → elim o [ Some (Frame _ _) ↦ Some k | _ ↦ None ] ≡ Some n → At nodes (refs.Node k) n
found_by nodes k n None at e = absurd cc
found_by nodes k n (Some (Symbol name)) at e = absurd cc
found_by nodes k n (Some (Str units)) at e = absurd cc
found_by nodes k n (Some (Binary class bytes)) at e = absurd cc
found_by nodes k n (Some (Large class bytes)) at e = absurd cc
found_by nodes k n (Some (Array class values)) at e = absurd cc
found_by nodes k n (Some (Frame tags values)) at e = record {
  is = ap (λ (m : ℕ). refs.Node m) (number e);
  tags = tags;
  values = values;
  there = ap (λ (m : ℕ). slice_get nodes m) (sym (number e)) ∙ at;
}
  where
    number : Some k ≡ Some n → k ≡ n
    number e = cc

number_at : (nodes : List Node) (value : Ref) (n : ℕ) → frame_number nodes value ≡ Some n → At nodes value n
number_at nodes (refs.Imm w) n e = absurd cc
number_at nodes (refs.Node k) n e = found_by nodes k n (slice_get nodes k) refl e

pub frame_found : (g : RawGraph) (before : List (List ℕ)) (n : ℕ) → option_and_then (frame_number g.nodes) (value_below g.nodes g.root before) ≡ Some n → IsFrameOf g n
frame_found g before n e = by (value_below g.nodes g.root before) refl e
  where
    by : (o : Option Ref) → value_below g.nodes g.root before ≡ o → option_and_then (frame_number g.nodes) o ≡ Some n → IsFrameOf g n
    by None leads e = absurd cc
    by (Some value) leads e =
        let a = number_at g.nodes value n e in
        record { path = before; leads = leads ∙ ap (λ (r : Ref). Some r) a.is; tags = a.tags; values = a.values; at = a.there }

pub last_name : (path before : List (List ℕ)) (last : List ℕ) → path ≡ before ++ last ∷ [] → IsPath path → IsName last
last_name path before last e is =
    let all : All IsName (before ++ last ∷ []) = subst (All IsName) e is.each in
    let at : slice_get (before ++ last ∷ []) (length before) ≡ Some last = get_seam before last [] in
    subst IsName (get_or_from_slice_get (before ++ last ∷ []) (length before) last last at) (all (length before) last (slice_get_within (before ++ last ∷ []) (length before) last at))

-- ---- the faults

pub not_no_path : (e : GraphFault) → set_fault e ≡ fault.NoPath → ⊥
not_no_path Limit is = absurd cc
not_no_path Memory is = absurd cc

pub limit_only : (e : GraphFault) → set_fault e ≡ fault.Limit → e ≡ Limit
limit_only Limit is = refl
limit_only Memory is = absurd cc
