use Rattle.std.proofs.Common.{◌≡◌, length}
use Rattle.newt_spec_script.specs.Words.{skip_blanks}
use Rattle.newt_script_words.proofs.blanks.skip_blanks.Given as goal

abbrev pub invariant-loop-rest : goal.invariant-loop-rest
invariant-loop-rest l = skip_blanks l.rest ≡ skip_blanks l.text

abbrev pub decreases-loop-rest : goal.decreases-loop-rest
decreases-loop-rest l = length l.rest
