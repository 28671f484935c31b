use Rattle.std.proofs.Common.{◌≡◌, ◌*◌, ◌++◌, length, map}
use Rattle.newt_entries.specs.Entry.{row_at, rows_in}
use Rattle.newt_entries.proofs.read.rows_of.Given as goal

abbrev pub invariant-loop-more : goal.invariant-loop-more
invariant-loop-more l = record {
  size : length l.left ≡ 12 * l.more;
  rows : map row_at l.rows.items ++ rows_in l.more l.left ≡ rows_in l.count l.bytes;
}

abbrev pub decreases-loop-more : goal.decreases-loop-more
decreases-loop-more l = l.more
