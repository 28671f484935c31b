use Rattle.std.proofs.Common.{◌==◌, ℕ, filter, length, ◌∙◌, ap}
use Rattle.std.specs.BTreeMap as tree
use Rattle.newt_objects_commit.proofs.Counting.{counted}
use Rattle.newt_objects_commit.proofs.places.PlaceTable.count.Goals as goal

pub returns : goal.returns
returns c =
    let rows = c.args.self.now.rows in
    λ uids once there. c.count_rows.ensures.counted ∙ ap (λ (n : ℕ). length (filter (λ (k : ℕ × ℕ). k.0 == n) (tree.keys rows))) c.sig.view_is ∙ counted rows c.args.sig c.count_rows.ensures.ordered uids once there
