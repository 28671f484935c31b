-- what is given so far and what is left are the whole
use Rattle.std.proofs.Common.{◌≡◌, ◌++◌, map, length, option_map}
use Rattle.newt_spec_graph.specs.Graph.{every}
use Rattle.newt_spec_store.specs.Keys as spec
use Rattle.newt_spec_query.specs.Spec.{given_part, padded}
use Rattle.newt_keys.specs.KeyForm.{AreParts}
use Rattle.newt_keys.specs.Seen.{said_all, declared_all}
use Rattle.newt_keys.proofs.given.given_parts.Given as goal

abbrev pub invariant-loop-left : goal.invariant-loop-left
invariant-loop-left l =
    (option_map (λ rest. said_all l.parts.items ++ rest) (every (map (given_part l.nodes) (padded (declared_all l.left) l.given)))
    ≡ every (map (given_part l.nodes) (padded (declared_all l.fn.spec) l.values)))
    × ((rest : spec.Key) → AreParts (declared_all l.left) rest → AreParts (declared_all l.fn.spec) (said_all l.parts.items ++ rest))

abbrev pub decreases-loop-left : goal.decreases-loop-left
decreases-loop-left l = length l.left
