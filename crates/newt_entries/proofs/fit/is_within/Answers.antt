use Rattle.std.proofs.Common.{arith, sym, ◌∙◌, ap, map, sum_by}
use Rattle.std.proofs.lemmas.List.{length-map}
use Rattle.newt_graph.specs.Graph.{payload}
use Rattle.newt_entries.specs.Entry.{row_at}
use Rattle.newt_entries.proofs.Fits.{within-short, within-long}
use Rattle.newt_entries.proofs.Putting.{named-few}
use Rattle.newt_entries.proofs.fit.is_within.Goals as goal

pub lengths_of-requires : goal.lengths_of-requires
lengths_of-requires c =
    let named = named-few 0 c.args.skeleton.now.nodes (map row_at c.args.rows.now) c.requires in
    let rows = length-map c.args.rows.now row_at in
    let few = c.nodes-nodes.ensures.graph.few in
    omega (arith, named, rows, few)

pub returns-then-are_short : goal.returns-then-are_short
returns-then-are_short c =
    within-short c.args.rows.now c.args.skeleton.now c.bytes_of.result c.lengths_of.result c.nodes-nodes.ensures.graph c.requires (c.bytes_of.ensures ∙ ap (sum_by payload) c.nodes-nodes.ensures.value) c.lengths_of.ensures.sum
    (sym c.are_short.ensures ∙ c.if-are_short.true)

pub returns-else-are_short : goal.returns-else-are_short
returns-else-are_short c = c.if-are_short.false ∙ sym (within-long c.args.rows.now c.args.skeleton.now c.nodes-nodes.ensures.graph c.requires (sym c.are_short.ensures ∙ c.if-are_short.false))
