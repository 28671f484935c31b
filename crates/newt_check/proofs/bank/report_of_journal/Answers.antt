use Rattle.std.proofs.Common.{ℕ, sym, ◌∙◌, subst}
use Rattle.newt_host.specs.Moments.{image}
use Rattle.newt_spec_check.specs.declared.Layer.TheVariants as layer
use Rattle.newt_check.specs.Reports.{IsDamaged}
use Rattle.newt_check.proofs.Voted.{banks, found-bad, found-none}
use Rattle.newt_check.proofs.bank.report_of_journal.Goals as goal

pub returns-in-Ok-Some-clause-report : goal.returns-in-Ok-Some-clause-report
returns-in-Ok-Some-clause-report g c tells =
    let o = g.H.Host.outside c.args.host.now in
    let has = banks (image c.args.unit o.now) (o.blocks c.args.unit) (g.met.H.Host.sized c.args.host.now c.args.unit tells) c.requires.enough c.requires.few in
    subst (λ (n : ℕ). IsDamaged layer.Payload n (image c.args.unit o.now)) (sym c.in-Ok-Some.place-is)
    (found-bad g.H.Host.told c.args.journal.now o c.args.unit c.requires.of_unit c.requires.stands tells has (c.requires.unformed tells).whole c.in-Ok-Some.place
    (sym (c.in-Ok-Some.ensures.row tells) ∙ c.in-Ok-Some.field-0-is))

pub lies-requires : goal.lies-requires
lies-requires g c = λ tells.
    let o = g.H.Host.outside c.args.host.now in
    let has = banks (image c.args.unit o.now) (o.blocks c.args.unit) (g.met.H.Host.sized c.args.host.now c.args.unit tells) c.requires.enough c.requires.few in
    found-none g.H.Host.told c.args.journal.now o c.args.unit c.requires.of_unit c.requires.stands tells has (c.requires.unformed tells).whole
    (sym (c.in-Ok-None.ensures.row tells) ∙ c.in-Ok-None.field-0-is) (c.requires.unformed tells).no_pages
