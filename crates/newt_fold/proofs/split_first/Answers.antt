use Rattle.std.proofs.Common.{◌++◌, length, sym, ◌∙◌, ap}
use Rattle.std.specs.Prelude.{encode_utf8}
use Rattle.std.proofs.lemmas.Str.{chars_past_char}
use Rattle.newt_fold.proofs.Words.{of_nothing}
use Rattle.newt_fold.proofs.split_first.Goals as goal

pub returns-in-Some-clause-parts : goal.returns-in-Some-clause-parts
returns-in-Some-clause-parts c =
    chars_past_char c.args.text.now c.as_str.result.now c.in-Some.first c.utf8.text
    (sym c.chars-left.ensures.rest ∙ c.in-Some.ensures.steps.0 ∙ ap (λ l. encode_utf8 c.in-Some.first ++ l) (sym c.as_str.ensures))

pub returns-in-Some-clause-text : goal.returns-in-Some-clause-text
returns-in-Some-clause-text c = c.as_str.utf8

pub returns-in-None-clause-parts : goal.returns-in-None-clause-parts
returns-in-None-clause-parts c = of_nothing c.args.text.now (ap length (sym c.chars-left.ensures.rest) ∙ c.in-None.ensures.steps.0.0)
