use Rattle.std.proofs.Common.{◌≡◌, ◌++◌, take}
use Rattle.std.specs.Prelude.{flat_map, codes}
use Rattle.newt_spec_literal.specs.Printed.{escaped}
use Rattle.newt_lit_print.proofs.tokens.barred.Given as goal

abbrev pub invariant-loop-c : goal.invariant-loop-c
invariant-loop-c l = l.out.items ≡ l.fn.out.items ++ flat_map (escaped (codes "|\\")) (take l.c-index l.name)
