use Rattle.std.proofs.Common.{◌≡◌, length, reverse}
use Rattle.newt_spec_script.specs.Words.{skip_blanks}
use Rattle.newt_script_words.proofs.blanks.without_last_blanks.Given as goal

abbrev pub invariant-loop-rest : goal.invariant-loop-rest
invariant-loop-rest l = reverse (skip_blanks (reverse l.rest)) ≡ reverse (skip_blanks (reverse l.text))

abbrev pub decreases-loop-rest : goal.decreases-loop-rest
decreases-loop-rest l = length l.rest
