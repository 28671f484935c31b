use Rattle.std.proofs.Common.{◌∙◌, sym, chars}
use Rattle.newt_fold.proofs.Chars.{begins, after, begins_not, stripped}
use Rattle.newt_fold.proofs.Words.{here, not_here}
use Rattle.newt_fold.proofs.word_begins.Goals as goal

pub returns-in-Some : goal.returns-in-Some
returns-in-Some c =
    let whole = stripped c.args.text.now c.args.word.now c.in-Some.after.now c.in-Some.ensures.cases in
    here (chars c.args.word.now) (chars c.args.text.now) (chars c.in-Some.after.now) c.args.entire c.args.before c.may_end.result
    c.if-before.false (sym c.begins_with_word_char.ensures ∙ c.if-not-begins_with_word_char.false)
    (begins c.args.text.now c.args.word.now c.in-Some.after.now c.utf8.word whole)
    (after c.args.text.now c.args.word.now c.in-Some.after.now c.utf8.word whole)
    c.may_end.ensures

pub returns-in-None : goal.returns-in-None
returns-in-None c =
    not_here (chars c.args.word.now) (chars c.args.text.now) c.args.entire c.args.before
    (begins_not c.args.text.now c.args.word.now c.utf8.text c.utf8.word c.in-None.ensures.cases)
