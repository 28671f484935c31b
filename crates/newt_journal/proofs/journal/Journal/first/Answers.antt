use Rattle.std.proofs.Common.{◌+◌, ℕ, ap}
use Rattle.newt_journal.proofs.Walking.{first_told, all_told}
use Rattle.newt_journal.proofs.journal.Journal.first.Goals as goal

pub returns-clause-is_place : goal.returns-clause-is_place
returns-clause-is_place c = first_told c.args.self.now (c.start.result + 16) (ap (λ (n : ℕ). n + 16) c.start.ensures)

pub returns-clause-reads_all : goal.returns-clause-reads_all
returns-clause-reads_all c = all_told c.args.self.now (c.start.result + 16) (ap (λ (n : ℕ). n + 16) c.start.ensures)
