use Rattle.std.proofs.Common.{drop, ◌+◌, ◌*◌}
use Rattle.newt_spec_nsof.specs.Written.{value_text}
use Rattle.newt_nsof_write.proofs.Each.{Goes}
use Rattle.newt_nsof_write.proofs.written.+value.Given as goal

abbrev pub decreases-value : goal.decreases-value
decreases-value l = 8 * l.room

abbrev pub decreases-node : goal.decreases-node
decreases-node l = 8 * l.room + 5

abbrev pub decreases-frame : goal.decreases-frame
decreases-frame l = 8 * l.room + 4

abbrev pub decreases-full_frame : goal.decreases-full_frame
decreases-full_frame l = 8 * l.room + 3

abbrev pub decreases-array : goal.decreases-array
decreases-array l = 8 * l.room + 4

abbrev pub decreases-plain_array : goal.decreases-plain_array
decreases-plain_array l = 8 * l.room + 3

abbrev pub decreases-classed_array : goal.decreases-classed_array
decreases-classed_array l = 8 * l.room + 3

abbrev pub decreases-each : goal.decreases-each
decreases-each l = 8 * l.room + 1

abbrev pub invariant-each-loop-one : goal.invariant-each-loop-one
invariant-each-loop-one l =
    Goes (λ value numbered. value_text l.room l.nodes value numbered) l.values l.fn.numbers l.fn.out.items (drop l.one-index l.values) l.numbers l.out.items
