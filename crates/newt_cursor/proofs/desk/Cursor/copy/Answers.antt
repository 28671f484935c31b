-- The copy stands where the cursor does.
use Rattle.std.proofs.Common.{rules}
use Rattle.newt_cursor.proofs.desk.Cursor.copy.Goals as goal

pub returns : goal.returns
returns c = search rules
