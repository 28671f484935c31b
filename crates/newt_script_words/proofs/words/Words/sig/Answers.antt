use Rattle.std.proofs.Common.{refl}
use Rattle.newt_spec_script.specs.Words.{decimal_to}
use Rattle.newt_script_words.specs.Readers.{sig_of}
use Rattle.newt_script_words.proofs.Forms.{never_wants, reads_word}
use Rattle.newt_script_words.proofs.words.Words.sig.Goals as goal

pub returns-clause-reads : goal.returns-clause-reads
unfolding sig_of
returns-clause-reads c =
    reads_word (decimal_to 536_870_911) c.args.self.now c.word.result.now c.word.new.self c.signature.result c.ok_or.result refl
    c.word.ensures.word c.word.ensures.rest c.signature.ensures c.ok_or.ensures.value

pub returns-clause-no_memory : goal.returns-clause-no_memory
returns-clause-no_memory c = never_wants c.signature.result c.ok_or.result c.ok_or.ensures.value
