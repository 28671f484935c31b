use Rattle.newt_laws_changes.proofs.Counting.{cost-added, cost-replaced, cost-patched, cost-removed, cost-declared, cost-made, cost-dropped}
use Rattle.newt_laws_changes.proofs.cost.costs_add_up.Goals as goal

pub returns : goal.returns
returns c = record {
  added = cost-added;
  replaced = cost-replaced;
  patched = cost-patched;
  removed = cost-removed;
  declared = cost-declared;
  made = cost-made;
  dropped = cost-dropped;
}
