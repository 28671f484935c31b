use Rattle.std.proofs.Common.{◌≡◌, ◌+◌, length, not}
use Rattle.std.specs.List.{prefix_len}
use Rattle.newt_spec_script.specs.Words.{is_blank}
use Rattle.newt_script_words.proofs.blanks.word_len.Given as goal

abbrev pub invariant-loop-rest : goal.invariant-loop-rest
invariant-loop-rest l = record {
  counted : l.len + prefix_len (λ byte. not (is_blank byte)) l.rest ≡ prefix_len (λ byte. not (is_blank byte)) l.text;
  within : l.len + length l.rest ≡ length l.text;
}

abbrev pub decreases-loop-rest : goal.decreases-loop-rest
decreases-loop-rest l = length l.rest
