use Rattle.std.proofs.Common.{refl}
use Rattle.newt_spec_script.specs.Words.{decimal_to}
use Rattle.newt_script_words.specs.Readers.{copy_of}
use Rattle.newt_script_words.proofs.Forms.{never_wants, reads_word}
use Rattle.newt_script_words.proofs.words.Words.copy.Goals as goal

pub returns-clause-reads : goal.returns-clause-reads
unfolding copy_of
returns-clause-reads c =
    reads_word (decimal_to 15) c.args.self.now c.word.result.now c.word.new.self c.copy_number.result c.ok_or.result refl
    c.word.ensures.word c.word.ensures.rest c.copy_number.ensures c.ok_or.ensures.value

pub returns-clause-no_memory : goal.returns-clause-no_memory
returns-clause-no_memory c = never_wants c.copy_number.result c.ok_or.result c.ok_or.ensures.value
