use Rattle.std.proofs.Common.{drop}
use Rattle.newt_spec_nsof.specs.Written.{label_text}
use Rattle.newt_nsof_write.proofs.Each.{Goes}
use Rattle.newt_nsof_write.proofs.written.labels.Given as goal

abbrev pub invariant-loop-tag : goal.invariant-loop-tag
invariant-loop-tag l = Goes (label_text l.nodes) l.tags l.fn.numbers l.fn.out.items (drop l.tag-index l.tags) l.numbers l.out.items
