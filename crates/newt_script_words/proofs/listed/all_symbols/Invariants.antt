use Rattle.std.proofs.Common.{◌≡◌, map, take, Some}
use Rattle.newt_spec_script.specs.Words.{all_words, symbol}
use Rattle.newt_script_words.proofs.listed.all_symbols.Given as goal

abbrev pub invariant-loop-word : goal.invariant-loop-word
invariant-loop-word l = all_words symbol (map (λ word. word.now) (take l.word-index l.words)) ≡ Some l.symbols.items
