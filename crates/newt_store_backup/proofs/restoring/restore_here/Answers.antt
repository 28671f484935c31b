use Rattle.newt_store_backup.proofs.Outcomes.{restores-ok, restores-none}
use Rattle.newt_store_backup.proofs.restoring.restore_here.Goals as goal

pub returns-in_err-text-clause-restores : goal.returns-in_err-text-clause-restores
returns-in_err-text-clause-restores g c = restores-none (g.H.Host.outside c.args.host.now) c.from_residual.result c.from_residual.ensures.1

pub returns-clause-restores : goal.returns-clause-restores
returns-clause-restores g c = restores-ok c.in_ok-restore_store.field-0 c.in_ok-text.text c.in_ok-restore_store.ensures
