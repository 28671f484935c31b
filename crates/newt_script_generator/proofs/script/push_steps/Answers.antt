use Rattle.std.proofs.Common.{◌∙◌, ap, List, ℕ, ◌++◌, ◌+◌, ◌-◌}
use Rattle.std.specs.Prelude.{flat_map, replicate, codes}
use Rattle.newt_spec_script.specs.Generator.{line}
use Rattle.newt_script_generator.proofs.Left.{line_written}
use Rattle.newt_script_generator.proofs.script.push_steps.Goals as goal

pub loop-preserved : goal.loop-preserved
loop-preserved c =
    let rest : List ℕ = flat_map line (replicate (c.args.count - (c.loop.counter + 1)) (codes "next 0")) in
    ap (λ (t : List ℕ). t ++ rest) c.in_ok-extend_from_slice.ensures.items ∙ line_written line c.loop.text.items (codes "next 0") c.loop.counter c.args.count c.loop-test.true ∙ c.loop.invariant
