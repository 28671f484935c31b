use Rattle.std.proofs.Common.{Ok, Err, sym, ◌∙◌, ap}
use Rattle.newt_script.specs.Lines.{takes_memory}
use Rattle.newt_script.proofs.Spoken.{silent, says}
use Rattle.newt_script.proofs.lines.line.Goals as goal

pub returns-then-is_silent : goal.returns-then-is_silent
returns-then-is_silent c = record {
  reading = λ apart. silent c.args.bytes.now c.without_return-line.result.now c.without_return-line.ensures (sym c.is_silent.ensures ∙ c.if-is_silent.true);
  no_memory = λ none e. cc;
}

pub returns-in-Ok : goal.returns-in-Ok
returns-in-Ok c = record {
  reading = λ apart.
      says c.args.bytes.now c.without_return-line.result.now (Ok c.in-Ok.command) c.without_return-line.ensures (sym c.is_silent.ensures ∙ c.if-is_silent.false)
      (c.in-Ok.ensures.reading (λ e. cc));
  no_memory = λ none e. cc;
}

pub returns-in-Err : goal.returns-in-Err
returns-in-Err c = record {
  reading = λ apart.
      says c.args.bytes.now c.without_return-line.result.now (Err c.in-Err.fault) c.without_return-line.ensures (sym c.is_silent.ensures ∙ c.if-is_silent.false)
      (c.in-Err.ensures.reading (λ e. apart cc));
  no_memory = λ none e. c.in-Err.ensures.no_memory (ap takes_memory c.without_return-line.ensures ∙ none) cc;
}
