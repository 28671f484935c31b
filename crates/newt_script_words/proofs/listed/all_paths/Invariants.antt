use Rattle.std.proofs.Common.{◌≡◌, map, take, Some}
use Rattle.newt_path.specs.Names.{path_of}
use Rattle.newt_spec_script.specs.Words.{all_words}
use Rattle.newt_script_words.proofs.listed.all_paths.Given as goal

abbrev pub invariant-loop-word : goal.invariant-loop-word
invariant-loop-word l = all_words path_of (map (λ word. word.now) (take l.word-index l.words)) ≡ Some l.paths.items
