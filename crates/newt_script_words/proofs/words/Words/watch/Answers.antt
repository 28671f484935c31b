use Rattle.std.proofs.Common.{refl}
use Rattle.newt_spec_script.specs.Words.{decimal_to}
use Rattle.newt_script_words.specs.Readers.{watch_of}
use Rattle.newt_script_words.proofs.Forms.{never_wants, reads_word}
use Rattle.newt_script_words.proofs.words.Words.watch.Goals as goal

pub returns-clause-reads : goal.returns-clause-reads
unfolding watch_of
returns-clause-reads c =
    reads_word (decimal_to 7) c.args.self.now c.word.result.now c.word.new.self c.watch_number.result c.ok_or.result refl
    c.word.ensures.word c.word.ensures.rest c.watch_number.ensures c.ok_or.ensures.value

pub returns-clause-no_memory : goal.returns-clause-no_memory
returns-clause-no_memory c = never_wants c.watch_number.result c.ok_or.result c.ok_or.ensures.value
