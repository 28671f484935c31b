use Rattle.std.proofs.Common.{◌≡◌, ◌++◌, refl, subst, IfOk, List, ℕ}
use Rattle.newt_graph.specs.Graph.{RawGraph}
use Rattle.newt_spec_literal.specs.Printed.{literal}
use Rattle.newt_lit_print.proofs.Character.{literal_some}
use Rattle.newt_lit_print.proofs.print_after.Goals as goal

pub returns-clause-after : goal.returns-clause-after
returns-clause-after c =
    let same : record { nodes = c.nodes-nodes.result.now; root = c.root-root.result } ≡ c.args.graph.now = rw (c.nodes-nodes.ensures.value, c.root-root.ensures.value) refl in
    subst (λ (text : List ℕ). IfOk c.print.result (λ whole. whole.items ≡ text ++ literal c.args.graph.now)) c.in_ok-text.ensures
    (subst (λ (g : RawGraph). IfOk c.print.result (λ whole. whole.items ≡ c.in_ok-text.text.items ++ literal g)) same c.print.ensures)

pub returns-clause-some : goal.returns-clause-some
returns-clause-some c = literal_some c.args.graph.now c.root-root.ensures.graph

pub returns-in_err-text-clause-some : goal.returns-in_err-text-clause-some
returns-in_err-text-clause-some c = literal_some c.args.graph.now c.root-root.ensures.graph
