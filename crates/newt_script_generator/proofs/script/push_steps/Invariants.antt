use Rattle.std.proofs.Common.{◌≡◌, ◌++◌, ◌-◌}
use Rattle.std.specs.Prelude.{flat_map, replicate, codes}
use Rattle.newt_spec_script.specs.Generator.{line}
use Rattle.newt_script_generator.proofs.script.push_steps.Given as goal

-- what is written and the lines that are left are all lines
abbrev pub invariant-loop : goal.invariant-loop
invariant-loop l =
    l.text.items ++ flat_map line (replicate (l.count - l.counter) (codes "next 0"))
    ≡ l.fn.text.items ++ flat_map line (replicate l.count (codes "next 0"))
