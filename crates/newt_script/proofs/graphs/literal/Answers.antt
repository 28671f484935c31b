use Rattle.newt_script.proofs.Literals.{text_read, no_text_read}
use Rattle.newt_script.proofs.graphs.literal.Goals as goal

pub returns-in-Ok : goal.returns-in-Ok
returns-in-Ok c = record {
  reading = text_read c.args.bytes.now c.in-Ok.text.now c.read_literal.result c.in-Ok.ensures.cases.1 c.in-Ok.ensures.cases.0 c.read_literal.ensures.reading;
}

pub returns-in-Err : goal.returns-in-Err
returns-in-Err c = record { reading = λ apart. no_text_read c.args.bytes.now c.in-Err.ensures.cases.0 }
