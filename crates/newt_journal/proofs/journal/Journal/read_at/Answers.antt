use Rattle.std.proofs.Common.{length, ◌∙◌}
use Rattle.newt_journal.proofs.Recorded.{recorded-told, on-ok-then}
use Rattle.newt_journal.proofs.journal.Journal.read_at.Goals as goal

pub returns-clause-of_records : goal.returns-clause-of_records
returns-clause-of_records g c = λ tells.
    on-ok-then c.read.result (λ is payloads all. is ∙ recorded-told g.H.Host.told c.args.self.now (g.H.Host.outside c.args.host.now) c.requires.stands tells payloads all c.args.at (length c.args.buf.now) c.requires.low c.requires.high) (c.read.ensures.bytes tells)
