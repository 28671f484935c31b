use Rattle.std.proofs.Common.{◌≡◌, ◌++◌, ◌≤◌, drop}
use Rattle.newt_spec_literal.specs.Printed as printed
use Rattle.newt_lit_print.proofs.labels.labels.Given as goal

-- the labels so far and those of the nodes that are left
abbrev pub invariant-loop-n : goal.invariant-loop-n
invariant-loop-n l = record {
  few : l.next ≤ l.n;
  labels : l.labels.items ++ printed.labels_from (printed.references (record { nodes = l.nodes; root = l.fn.root })) l.next l.n (drop l.n l.nodes) ≡ printed.labels (record { nodes = l.nodes; root = l.fn.root });
}
