use Rattle.newt_journal.proofs.Rooms.{version_told}
use Rattle.newt_journal.proofs.journal.Journal.version.Goals as goal

pub returns-clause-known : goal.returns-clause-known
returns-clause-known c = c.args.self.now.known

pub returns-clause-by_image : goal.returns-clause-by_image
returns-clause-by_image c = version_told c.args.self.now
