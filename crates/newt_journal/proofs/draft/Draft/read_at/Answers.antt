use Rattle.std.proofs.Common.{length, take, drop, sym, ◌∙◌, ap}
use Rattle.newt_host.specs.Moments.{image}
use Rattle.newt_journal.specs.Draft.{unit_of}
use Rattle.newt_journal.specs.declared.draft.Draft.{Draft}
use Rattle.newt_journal.proofs.Recorded.{recorded-draft, on-ok-then}
use Rattle.newt_journal.proofs.draft.Draft.read_at.Goals as goal

pub returns-in-Append-clause-of_records : goal.returns-in-Append-clause-of_records
returns-in-Append-clause-of_records g c = λ tells.
    let o = g.H.Host.outside c.args.host.now in
    let d : Draft = c.args.self.now in
    on-ok-then c.read.result (λ is payloads all. is ∙ ap (λ (d : Draft). take (length c.args.buf.now) (drop c.args.at (image (unit_of d) o.now))) (sym c.in-Append.is)
    ∙ recorded-draft g.H.Host.told d o c.requires.draft tells payloads all c.args.at (length c.args.buf.now) c.requires.low c.requires.high) (c.read.ensures.bytes tells)

pub returns-in-Switch-clause-of_records : goal.returns-in-Switch-clause-of_records
returns-in-Switch-clause-of_records g c = λ tells.
    let o = g.H.Host.outside c.args.host.now in
    let d : Draft = c.args.self.now in
    on-ok-then c.read-in-Switch.result (λ is payloads all. is ∙ ap (λ (d : Draft). take (length c.args.buf.now) (drop c.args.at (image (unit_of d) o.now))) (sym c.in-Switch.is)
    ∙ recorded-draft g.H.Host.told d o c.requires.draft tells payloads all c.args.at (length c.args.buf.now) c.requires.low c.requires.high) (c.read-in-Switch.ensures.bytes tells)
