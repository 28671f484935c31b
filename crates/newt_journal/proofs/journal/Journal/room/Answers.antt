use Rattle.std.proofs.Common.{rules}
use Rattle.newt_journal.proofs.Rooms.{room_told}
use Rattle.newt_journal.proofs.journal.Journal.room.Goals as goal

pub returns-then-self-clause-by_image : goal.returns-then-self-clause-by_image
returns-then-self-clause-by_image c = room_told c.args.self.now 0 (search rules)

pub returns-clause-by_image : goal.returns-clause-by_image
returns-clause-by_image c = room_told c.args.self.now c.saturating_sub.result (search rules)
