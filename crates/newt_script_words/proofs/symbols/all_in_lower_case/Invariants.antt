use Rattle.std.proofs.Common.{◌≡◌, map, take}
use Rattle.std.specs.Str.{str_to_ascii_lowercase}
use Rattle.newt_script_words.proofs.symbols.all_in_lower_case.Given as goal

abbrev pub invariant-loop-text : goal.invariant-loop-text
invariant-loop-text l = map (λ text. text.items) l.lower.items ≡ map str_to_ascii_lowercase (take l.text-index l.texts)
