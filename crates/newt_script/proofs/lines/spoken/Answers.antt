use Rattle.std.proofs.Common.{◌≡◌, sym, ◌∙◌, ap}
use Rattle.newt_spec_script.specs.Line.{first_word}
use Rattle.newt_script.specs.Rows.{row_reading}
use Rattle.newt_script.specs.Verbs.{word_of}
use Rattle.newt_script.proofs.Spoken.{too_long, says_verb, no_memory_word, found}
use Rattle.newt_script.proofs.lines.spoken.Goals as goal

pub returns-then-line-gt-LONGEST : goal.returns-then-line-gt-LONGEST
returns-then-line-gt-LONGEST c = record {
  reading = λ apart. too_long c.args.line.now c.if-line-gt-LONGEST.true;
  no_memory = λ none e. cc;
}

pub returns-in-Some : goal.returns-in-Some
returns-in-Some c =
    let line = c.args.line.now in
    let verb = c.in-Some.verb in
    let word : (first_word line).0 ≡ word_of verb = ap (λ l. (first_word l).0) (sym c.new-words.ensures) ∙ (sym c.word-word.ensures.word ∙ found c.word-word.result.now verb c.in-Some.ensures) in
    let rest : c.word-word.new.self ≡ (first_word line).1 = c.word-word.ensures.rest ∙ ap (λ l. (first_word l).1) c.new-words.ensures in
    record {
      reading = λ apart. says_verb line verb c.row.result c.if-line-gt-LONGEST.false word (c.row.ensures.reading apart ∙ ap (row_reading (word_of verb)) rest);
      no_memory = λ none. c.row.ensures.no_memory (no_memory_word line verb c.if-line-gt-LONGEST.false word none);
    }
