use Rattle.std.proofs.Common.{◌∙◌, ap, List, ℕ, ◌++◌, ◌+◌, ◌-◌, ◌/◌}
use Rattle.std.specs.Prelude.{flat_map}
use Rattle.std.specs.List.{enumerate_from}
use Rattle.newt_spec_script.specs.Generator.{add_line, drawn}
use Rattle.newt_script_generator.proofs.Left.{entry_written}
use Rattle.newt_script_generator.proofs.script.push_entries.Goals as goal

pub loop-i-preserved : goal.loop-i-preserved
loop-i-preserved c =
    let i : ℕ = c.loop-i.i in
    let left : ℕ → List ℕ = λ s. flat_map add_line (enumerate_from (i + 1) (drawn (c.args.count - (i + 1)) s)) in
    ap (λ (t : List ℕ). t ++ left c.next_state-state.result) c.in_ok-push_entry.ensures
    ∙ ap (λ (s : ℕ). (c.loop-i.text.items ++ add_line (i, s / 65_536)) ++ left s) c.next_state-state.ensures
    ∙ entry_written c.loop-i.text.items i c.args.count c.loop-i.state c.loop-i-test.true
    ∙ c.loop-i.invariant
