use Rattle.std.proofs.Common.{rules, refl}
use Rattle.newt_script_words.proofs.Forms.{reads_path, refuses_path}
use Rattle.newt_script_words.proofs.words.Words.path.Goals as goal

pub returns-in-Ok : goal.returns-in-Ok
returns-in-Ok c = record {
  read = reads_path c.args.self.now c.word.result.now c.word.new.self c.in-Ok.path c.word.ensures.word c.word.ensures.rest (search rules);
  refused = λ _. tt;
}

pub returns-in-Err-Path : goal.returns-in-Err-Path
returns-in-Err-Path c = record { read = tt; refused = λ _. (refl, refuses_path c.args.self.now c.word.result.now c.word.ensures.word (search rules)) }
