use Rattle.std.proofs.Common.{◌≡◌, take}
use Rattle.newt_soupdir.proofs.indexes.Specs.copy.Given as goal

abbrev pub invariant-loop-spec : goal.invariant-loop-spec
invariant-loop-spec l = l.items.items ≡ take l.spec-index l.self
