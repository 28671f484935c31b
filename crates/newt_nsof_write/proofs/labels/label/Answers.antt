-- A label that was not met before is spelled in full.
use Rattle.std.proofs.Common.{arith}
use Rattle.std.proofs.lemmas.Grind.{common_steps, elements}
use Rattle.newt_spec_nsof.specs.Flat.{label_text}
use Rattle.newt_nsof_write.proofs.labels.label.Goals as goal

pub bounds-nodes-k : goal.bounds-nodes-k
unfolding label_text
bounds-nodes-k c = grind (arith, common_steps)

pub overflow_add-result : goal.overflow_add-result
unfolding label_text
overflow_add-result c = grind (arith, common_steps)

pub returns-in_ok-symbol-in-Symbol : goal.returns-in_ok-symbol-in-Symbol
unfolding label_text
returns-in_ok-symbol-in-Symbol c = grind (arith, elements)
