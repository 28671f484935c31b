use Rattle.std.proofs.Common.{◌≡◌, map, take}
use Rattle.newt_soupdir.specs.declared.rows.SoupRow.{SoupRow}
use Rattle.newt_store_backup.proofs.gather.soup_sigs.Given as goal

abbrev pub invariant-loop-row : goal.invariant-loop-row
invariant-loop-row l = l.sigs.items ≡ map (λ (row : SoupRow). row.sig) (take l.row-index l.rows)
