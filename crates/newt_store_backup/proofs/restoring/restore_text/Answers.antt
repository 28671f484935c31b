use Rattle.std.proofs.Common.{◌≡◌, Err}
use Rattle.newt_host.proofs.Outside.{NoFault-refl, OnlyReads-refl}
use Rattle.newt_nsof_read.specs.Reading.{decoded}
use Rattle.newt_store_backup.specs.Restored.{IsAsked}
use Rattle.newt_store_backup.proofs.Outcomes.{done-unasked, ends-memory, restores-looked}
use Rattle.newt_store_backup.proofs.restoring.restore_text.Goals as goal

pub returns-in_err-directory-clause-restores : goal.returns-in_err-directory-clause-restores
returns-in_err-directory-clause-restores g c =
    restores-looked c.args.input.items c.from_residual.result (OnlyReads-refl c.args.unit (g.H.Host.outside c.args.host.now)) (ends-memory c.from_residual.result (NoFault-refl (g.H.Host.outside c.args.host.now)) c.from_residual.ensures.1)

pub returns-in_err-refused_line-in-Err-clause-restores : goal.returns-in_err-refused_line-in-Err-clause-restores
returns-in_err-refused_line-in-Err-clause-restores g c =
    restores-looked c.args.input.items c.from_residual-in_err-refused_line-in-Err.result (OnlyReads-refl c.args.unit (g.H.Host.outside c.args.host.now))
    (ends-memory c.from_residual-in_err-refused_line-in-Err.result (NoFault-refl (g.H.Host.outside c.args.host.now)) c.from_residual-in_err-refused_line-in-Err.ensures.1)

pub returns-in_ok-refused_line-in-Err-clause-done : goal.returns-in_ok-refused_line-in-Err-clause-done
returns-in_ok-refused_line-in-Err-clause-done g c = λ told.
    let asked : IsAsked (decoded c.args.input.items) (Err c.in-Err.refusal) = rw c.in-Err.is at c.in_ok-directory.ensures.bad in
    done-unasked c.args.input.items c.in-Err.refusal c.in_ok-refused_line-in-Err.field-0.items asked c.in_ok-refused_line-in-Err.ensures

pub returns-in_ok-refused_line-in-Err-clause-restores : goal.returns-in_ok-refused_line-in-Err-clause-restores
returns-in_ok-refused_line-in-Err-clause-restores g c =
    let o = g.H.Host.outside c.args.host.now in
    restores-looked c.args.input.items _ (OnlyReads-refl c.args.unit o) (record { cause = tt; no_fault = NoFault-refl o })
