use Rattle.std.proofs.Common.{◌≡◌, length}
use Rattle.newt_spec_script.specs.Words.{quoted}
use Rattle.newt_script_words.specs.Names.{with_start}
use Rattle.newt_script_words.proofs.names.unquoted.Given as goal

abbrev pub invariant-loop-next : goal.invariant-loop-next
invariant-loop-next l = with_start l.name.items (quoted l.rest) ≡ quoted l.text

abbrev pub decreases-loop-next : goal.decreases-loop-next
decreases-loop-next l = length l.rest
