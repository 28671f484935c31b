use Rattle.std.proofs.Common.{refl}
use Rattle.newt_spec_script.specs.Words.{unit_digit}
use Rattle.newt_script_words.specs.Readers.{unit_of}
use Rattle.newt_script_words.proofs.Forms.{never_wants, reads_word}
use Rattle.newt_script_words.proofs.words.Words.unit.Goals as goal

pub returns-clause-reads : goal.returns-clause-reads
unfolding unit_of
returns-clause-reads c =
    reads_word unit_digit c.args.self.now c.word.result.now c.word.new.self c.unit_digit.result c.ok_or.result refl
    c.word.ensures.word c.word.ensures.rest c.unit_digit.ensures c.ok_or.ensures.value

pub returns-clause-no_memory : goal.returns-clause-no_memory
returns-clause-no_memory c = never_wants c.unit_digit.result c.ok_or.result c.ok_or.ensures.value
