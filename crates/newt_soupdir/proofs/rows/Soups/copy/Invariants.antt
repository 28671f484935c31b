use Rattle.std.proofs.Common.{◌≡◌, take}
use Rattle.newt_soupdir.proofs.rows.Soups.copy.Given as goal

abbrev pub invariant-loop-row : goal.invariant-loop-row
invariant-loop-row l = l.items.items ≡ take l.row-index l.self
