use Rattle.std.proofs.Common.{rules, ◌≡◌, true}
use Rattle.newt_spec_graph.specs.Graph.{is_frame, object}
use Rattle.newt_entries.specs.Full.{as_entry}
use Rattle.newt_backup.proofs.Pages.{entry-valid}
use Rattle.newt_backup.proofs.checks.is_entry.Goals as goal

pub returns-then-is_frame : goal.returns-then-is_frame
returns-then-is_frame c =
    let frame : is_frame (object c.args.entry.now.graph.nodes c.args.entry.now.graph.root) ≡ true = search rules in
    entry-valid (as_entry c.args.entry.now) c.skeleton_len.result c.is_frame.ensures.graph frame c.skeleton_len.ensures
