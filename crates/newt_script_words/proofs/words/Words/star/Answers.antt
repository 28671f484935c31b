use Rattle.std.proofs.Common.{◌≡◌, rules, true, codes}
use Rattle.std.specs.Prelude.{bytes_eq}
use Rattle.newt_spec_script.specs.Line.{first_word}
use Rattle.newt_script_words.proofs.Forms.{passes_star}
use Rattle.newt_script_words.proofs.words.Words.star.Goals as goal

pub returns-then-eq : goal.returns-then-eq
returns-then-eq c =
    let word : c.split_word.result.0.now ≡ (first_word c.args.self.now).0 = search rules in
    let rest : c.split_word.result.1.now ≡ (first_word c.args.self.now).1 = search rules in
    let star : bytes_eq c.split_word.result.0.now (codes "*") ≡ true = search rules in
    passes_star c.args.self.now c.split_word.result.0.now c.split_word.result.1.now word rest star
