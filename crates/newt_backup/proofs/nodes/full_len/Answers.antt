use Rattle.std.proofs.Common.{arith, ◌∙◌, ap}
use Rattle.std.specs.List.{sum_by}
use Rattle.newt_spec_nsof.specs.Lengths.{large_len}
use Rattle.newt_backup.proofs.Pages.{full-size}
use Rattle.newt_backup.proofs.nodes.full_len.Goals as goal

pub overflow_add-result : goal.overflow_add-result
overflow_add-result c =
    let size = full-size c.args.entry.now c.nodes-nodes.ensures.graph in
    record { fits = omega (arith, size, c.requires, c.skeleton_len.ensures) }

pub larges_len-requires : goal.larges_len-requires
larges_len-requires c =
    let size = full-size c.args.entry.now c.nodes-nodes.ensures.graph in
    rw (c.nodes-nodes.ensures.value) (omega (arith, size, c.requires))

pub overflow_add-result-2 : goal.overflow_add-result-2
overflow_add-result-2 c =
    let size = full-size c.args.entry.now c.nodes-nodes.ensures.graph in
    let larges = c.larges_len.ensures ∙ ap (sum_by large_len) c.nodes-nodes.ensures.value in
    record { fits = omega (arith, size, c.requires, c.skeleton_len.ensures, larges) }

pub returns : goal.returns
returns c =
    let size = full-size c.args.entry.now c.nodes-nodes.ensures.graph in
    let larges = c.larges_len.ensures ∙ ap (sum_by large_len) c.nodes-nodes.ensures.value in
    omega (arith, size, c.skeleton_len.ensures, larges)
