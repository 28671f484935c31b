use Rattle.std.proofs.Common.{◌≡◌, ◌++◌, map, length}
use Rattle.newt_spec_script.specs.Words.{words}
use Rattle.newt_script_words.proofs.listed.words_of.Given as goal

abbrev pub invariant-loop-word : goal.invariant-loop-word
invariant-loop-word l = map (λ word. word.now) l.words.items ++ words l.rest ≡ words l.text

abbrev pub decreases-loop-word : goal.decreases-loop-word
decreases-loop-word l = length l.rest
