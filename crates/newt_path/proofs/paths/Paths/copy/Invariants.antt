use Rattle.std.proofs.Common.{◌≡◌, take}
use Rattle.newt_path.proofs.paths.Paths.copy.Given as goal

abbrev pub invariant-loop-path : goal.invariant-loop-path
invariant-loop-path l = l.items.items ≡ take l.path-index l.path-items
