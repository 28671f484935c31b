use Rattle.std.proofs.Common.{◌≡◌, ◌++◌, take}
use Rattle.std.specs.Prelude.{flat_map}
use Rattle.newt_spec_literal.specs.Printed.{unit_text}
use Rattle.newt_lit_print.proofs.tokens.units.Given as goal

abbrev pub invariant-loop-u : goal.invariant-loop-u
invariant-loop-u l = l.out.items ≡ l.fn.out.items ++ flat_map unit_text (take l.u-index l.units)
