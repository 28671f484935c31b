use Rattle.std.proofs.Common.{◌≡◌, ◌≤◌, sym, subst, ℕ}
use Rattle.newt_store_backup.proofs.Restored.{most-pages}
use Rattle.newt_store_backup.proofs.restore.fits_on.Goals as goal

pub costs_at_most-requires-clause-few : goal.costs_at_most-requires-clause-few
costs_at_most-requires-clause-few c = subst (λ (n : ℕ). n ≤ 15978) (sym c.cap-most.ensures) (most-pages c.args.blocks c.requires.not_too_many)
