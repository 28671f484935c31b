use Rattle.std.proofs.Common.{arith, rules, ◌≤◌, get_or, map, zip, List}
use Rattle.newt_graph.specs.Graph.{payload}
use Rattle.newt_spec_store.specs.Laid.{row_of_large}
use Rattle.newt_spec_store.specs.StoreOf.{LargeRow}
use Rattle.newt_laws_images.proofs.Records.{larges_from}
use Rattle.newt_entries.specs.declared.row.LargeAt.{LargeAt}
use Rattle.newt_entries.proofs.Steps.{made-some, made-none, rest-size, all-rest}
use Rattle.newt_entries.proofs.graphs.rows_of.Goals as goal
use Rattle.newt_entries.proofs.graphs.rows_of.Goals.{in-Some+in-len1-up-unused+in_ok-push-in-Some, in-None}

pub loop-left-preserved : goal.loop-left-preserved
loop-left-preserved c =
    let all : List LargeRow = map row_of_large (zip (larges_from 0 c.args.nodes.now) c.args.ids.now) in
    record {
      rows = elim c.match-length_in.branch [
        | in-Some+in-len1-up-unused+in_ok-push-in-Some w ↦
            let l : LargeAt = record { node = c.loop-left.number; object = get_or c.loop-left.unused.now 0 0; length = w.in-Some.length } in
            made-some c.loop-left.rows.items c.match-length_in.rows.items c.loop-left.number w.in-Some.length c.node-item.result c.loop-left.left.now c.loop-left.unused.now c.match-length_in.unused.now l all
            c.in-len1-up.len_at_least c.node-item.is w.in-len1-up-unused.len_at_least (search rules) (search rules) (search rules) (search rules) c.loop-left.invariant.rows
        | in-None w ↦
            made-none c.loop-left.rows.items c.match-length_in.rows.items c.loop-left.number c.node-item.result c.loop-left.left.now c.loop-left.unused.now c.match-length_in.unused.now all
            c.in-len1-up.len_at_least c.node-item.is (search rules) (search rules) (search rules) c.loop-left.invariant.rows
      ];
      counted = let size = rest-size 1 c.loop-left.left.now in grind (arith, size, c.loop-left.invariant.counted, c.in-len1-up.len_at_least);
      short = all-rest (λ node. payload node ≤ 1000000) c.loop-left.left.now c.in-len1-up.len_at_least c.loop-left.invariant.short;
    }
