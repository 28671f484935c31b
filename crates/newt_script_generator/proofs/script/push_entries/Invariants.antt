use Rattle.std.proofs.Common.{◌≡◌, ◌++◌, ◌-◌}
use Rattle.std.specs.Prelude.{flat_map}
use Rattle.std.specs.List.{enumerate_from}
use Rattle.newt_spec_script.specs.Generator.{add_line, drawn}
use Rattle.newt_script_generator.proofs.script.push_entries.Given as goal

-- what is written and the lines of the names that are left are all lines
abbrev pub invariant-loop-i : goal.invariant-loop-i
invariant-loop-i l =
    l.text.items ++ flat_map add_line (enumerate_from l.i (drawn (l.count - l.i) l.state))
    ≡ l.fn.text.items ++ flat_map add_line (enumerate_from 0 (drawn l.count l.fn.state))
