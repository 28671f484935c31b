use Rattle.std.proofs.Common.{refl}
use Rattle.newt_spec_script.specs.Words.{decimal_to}
use Rattle.newt_script_words.specs.Readers.{cursor_of}
use Rattle.newt_script_words.proofs.Forms.{never_wants, reads_word}
use Rattle.newt_script_words.proofs.words.Words.cursor.Goals as goal

pub returns-clause-reads : goal.returns-clause-reads
unfolding cursor_of
returns-clause-reads c =
    reads_word (decimal_to 31) c.args.self.now c.word.result.now c.word.new.self c.cursor_number.result c.ok_or.result refl
    c.word.ensures.word c.word.ensures.rest c.cursor_number.ensures c.ok_or.ensures.value

pub returns-clause-no_memory : goal.returns-clause-no_memory
returns-clause-no_memory c = never_wants c.cursor_number.result c.ok_or.result c.ok_or.ensures.value
