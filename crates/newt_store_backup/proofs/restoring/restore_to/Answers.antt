use Rattle.std.proofs.Common.{rules, ◌≡◌, None, Some, sym, ◌∙◌, ap, List, ℕ}
use Rattle.newt_backup.specs.Contents.{store_in}
use Rattle.newt_store_backup.proofs.Outcomes.{done-refused, done-if, restores-looked, restores-made, ends-memory, ends-of}
use Rattle.newt_store_backup.proofs.restoring.restore_to.Goals as goal

pub returns-in_err-refusal-clause-restores : goal.returns-in_err-refusal-clause-restores
returns-in_err-refusal-clause-restores g c = λ input asked.
    restores-looked input c.from_residual.result c.in_err-refusal.ensures.looks (ends-of c.in_err-refusal.field-0.0 c.from_residual.result c.in_err-refusal.ensures.ends.cause c.from_residual.ensures.1)

pub returns-in_err-refused_line-in-Some-clause-restores : goal.returns-in_err-refused_line-in-Some-clause-restores
returns-in_err-refused_line-in-Some-clause-restores g c = λ input asked.
    restores-looked input c.from_residual-in_err-refused_line-in-Some.result c.in_ok-refusal.ensures.looks (ends-memory c.from_residual-in_err-refused_line-in-Some.result c.in_ok-refusal.ensures.ends.no_fault c.from_residual-in_err-refused_line-in-Some.ensures.1)

pub returns-in_ok-refused_line-in-Some-clause-done : goal.returns-in_ok-refused_line-in-Some-clause-done
returns-in_ok-refused_line-in-Some-clause-done g c = λ input asked told.
    done-refused input (store_in c.args.directory.now c.args.entries.now) c.in-Some.refusal c.in_ok-refused_line-in-Some.field-0.items asked
    (sym c.in-Some.is ∙ c.in_ok-refusal.ensures.refusal told) c.in_ok-refused_line-in-Some.ensures c.in_ok-refusal.ensures.looks

pub returns-in_ok-refused_line-in-Some-clause-restores : goal.returns-in_ok-refused_line-in-Some-clause-restores
returns-in_ok-refused_line-in-Some-clause-restores g c = λ input asked.
    restores-looked input _ c.in_ok-refusal.ensures.looks (record { cause = tt; no_fault = c.in_ok-refusal.ensures.ends.no_fault })

pub returns-in-None-clause-done : goal.returns-in-None-clause-done
returns-in-None-clause-done g c = λ input asked told.
    let o = g.H.Host.outside in
    done-if c.args.unit (o c.args.host.now) (o c.restore_here.new.host) input (store_in c.args.directory.now c.args.entries.now) (λ text. text.items) c.restore_here.result asked
    (sym c.in-None.is ∙ c.in_ok-refusal.ensures.refusal told) c.restore_here.ensures.text (c.restore_here.ensures.restores.left told)

pub returns-in-None-clause-restores : goal.returns-in-None-clause-restores
returns-in-None-clause-restores g c = λ input asked.
    restores-made input (store_in c.args.directory.now c.args.entries.now) c.restore_here.result c.in_ok-refusal.ensures.looks c.in_ok-refusal.ensures.ends.no_fault asked
    (λ told. sym c.in-None.is ∙ c.in_ok-refusal.ensures.refusal told) c.restore_here.ensures.restores
