use Rattle.std.proofs.Common.{◌≡◌, take}
use Rattle.newt_engine_commands.proofs.declarations.copied_specs.Given as goal

abbrev pub invariant-loop-spec : goal.invariant-loop-spec
invariant-loop-spec l = l.copies.items ≡ take l.spec-index l.specs
