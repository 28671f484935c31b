use Rattle.std.proofs.Common.{◌≡◌, fold, take}
use Rattle.newt_lit_print.specs.Meetings.{met_by}
use Rattle.newt_lit_print.proofs.labels.meet_values.Given as goal

abbrev pub invariant-loop-value : goal.invariant-loop-value
invariant-loop-value l = l.meetings ≡ fold met_by l.fn.meetings (take l.value-index l.values)
