-- The texts of an array, and a slot whose value passes a test.
use Rattle.std.proofs.Common.{◌≡◌, ℕ, List, map, Bool, true, false, Option, Some, None, refl, sym, ap, ◌∙◌}
use Rattle.std.specs.Prelude.{option_map, option_and_then}
use Rattle.newt_graph.specs.declared.node.Node.{Node}
use Rattle.newt_graph.specs.declared.node.Ref.{Ref}
use Rattle.newt_spec_graph.specs.Graph.{every}
use Rattle.newt_spec_store.specs.Keys.{folded}
use Rattle.newt_spec_query.specs.Tags.{if_given}
use Rattle.newt_spec_query.specs.Spec.{one_or_more, string_units, values_of}
use Rattle.newt_query.proofs.Given.{none_first, every_mapped}

pub texts_several : (nodes : List Node) (r : Ref) (values : List Ref) → None ≡ option_map folded (string_units nodes r) → Some values ≡ values_of nodes r
    → every (map (λ v. option_map folded (string_units nodes v)) values) ≡ option_map (map folded) (one_or_more nodes (string_units nodes) r)
texts_several nodes r values e is =
    let rest : Option (List Ref) → Option (List (List ℕ)) = λ o. option_and_then (λ vs. every (map (string_units nodes) vs)) o in
    sym (none_first folded (string_units nodes r) (rest (values_of nodes r)) e
    ∙ (ap (λ (o : Option (List Ref)). option_map (map folded) (rest o)) (sym is) ∙ every_mapped folded (string_units nodes) values))

holds : (b : Bool) → (b ≡ false → ⊥) → b ≡ true
holds true h = refl
holds false h = absurd (h refl)

pub form_given : (test : Ref → Bool) (o : Option Ref) (v : Ref) → Some v ≡ o → (test v ≡ false → ⊥) → if_given test o ≡ true
form_given test o v e h = ap (if_given test) (sym e) ∙ holds (test v) h
