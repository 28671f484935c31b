-- The key of the entry that it is on is another.
use Rattle.std.proofs.Common.{rules}
use Rattle.newt_cursor.proofs.place.Place.set_key.Goals as goal

pub returns-in-On : goal.returns-in-On
returns-in-On c = search rules
