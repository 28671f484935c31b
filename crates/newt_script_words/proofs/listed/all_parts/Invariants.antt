use Rattle.std.proofs.Common.{◌≡◌, map, take, Some}
use Rattle.newt_spec_script.specs.Words.{all_words, part}
use Rattle.newt_script_words.proofs.listed.all_parts.Given as goal

abbrev pub invariant-loop-word : goal.invariant-loop-word
invariant-loop-word l = all_words part (map (λ word. word.now) (take l.word-index l.words)) ≡ Some l.parts.items
