-- what is read and what is left are the whole
use Rattle.std.proofs.Common.{◌≡◌, ◌++◌, map, length}
use Rattle.newt_spec_graph.specs.Slots.{value_at}
use Rattle.newt_spec_store.specs.Keys as spec
use Rattle.newt_keys.specs.KeyForm.{AreParts}
use Rattle.newt_keys.specs.Seen.{said_all, declared_all}
use Rattle.newt_keys.proofs.read.parts_of.Given as goal

abbrev pub invariant-loop-left : goal.invariant-loop-left
invariant-loop-left l =
    let at : spec.IndexPart → spec.Part = λ p. spec.part_of l.graph.nodes p.kind (value_at l.graph p.path) in
    (said_all l.parts.items ++ map at (declared_all l.left) ≡ map at (declared_all l.fn.spec))
    × ((rest : spec.Key) → AreParts (declared_all l.left) rest → AreParts (declared_all l.fn.spec) (said_all l.parts.items ++ rest))

abbrev pub decreases-loop-left : goal.decreases-loop-left
decreases-loop-left l = length l.left
