use Rattle.std.proofs.Common.{refl}
use Rattle.newt_base.specs.Text.{signed_value}
use Rattle.newt_script_words.specs.Readers.{steps_of}
use Rattle.newt_script_words.proofs.Forms.{never_wants, reads_word}
use Rattle.newt_script_words.proofs.words.Words.steps.Goals as goal

pub returns-clause-reads : goal.returns-clause-reads
unfolding steps_of
returns-clause-reads c =
    reads_word signed_value c.args.self.now c.word.result.now c.word.new.self c.signed.result c.ok_or.result refl
    c.word.ensures.word c.word.ensures.rest c.signed.ensures c.ok_or.ensures.value

pub returns-clause-no_memory : goal.returns-clause-no_memory
returns-clause-no_memory c = never_wants c.signed.result c.ok_or.result c.ok_or.ensures.value
