use Rattle.std.proofs.Common.{◌≡◌, drop, map}
use Rattle.std.specs.Prelude.{option_map}
use Rattle.newt_spec_graph.specs.Graph.{every}
use Rattle.newt_spec_store.specs.Keys.{folded}
use Rattle.newt_spec_query.specs.Spec.{string_units}
use Rattle.newt_tags.proofs.Looked.{before}
use Rattle.newt_query.proofs.text.every_text.Given as goal

-- the texts so far and those that are left are those of the whole
abbrev pub invariant-loop-value : goal.invariant-loop-value
invariant-loop-value l =
    before l.items.items (every (map (λ v. option_map folded (string_units l.nodes v)) (drop l.value-index l.values)))
    ≡ every (map (λ v. option_map folded (string_units l.fn.nodes v)) l.fn.values)
