use Rattle.std.proofs.Common.{◌≡◌, ℕ, List, take, drop, Some, ap, sym, ◌∙◌}
use Rattle.newt_spec_literal.specs.Words.{word_len}
use Rattle.newt_lit_read.specs.Tokens.{word_value}
use Rattle.newt_lit_read.proofs.Numbers.{word_takes}
use Rattle.newt_lit_read.proofs.tokens.plain.Goals as goal

pub returns-in-Some-clause-shorter : goal.returns-in-Some-clause-shorter
returns-in-Some-clause-shorter c =
    let text = c.args.text.now in
    let rest : c.word.result.1.now ≡ drop (word_len text) text = ap (λ (p : List ℕ × List ℕ). p.1) c.word.ensures.value in
    let word : c.word.result.0.now ≡ take (word_len text) text = ap (λ (p : List ℕ × List ℕ). p.0) c.word.ensures.value in
    let w : word_value (take (word_len text) text) ≡ Some c.in-Some.value = sym (ap word_value word) ∙ sym c.word_value.ensures ∙ c.in-Some.is in
    rw rest (word_takes text c.in-Some.value w)
