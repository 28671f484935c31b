use Rattle.std.proofs.Common.{sym, ◌∙◌, ap, map}
use Rattle.newt_entries.specs.Entry.{row_at, names_from}
use Rattle.newt_entries.proofs.Fits.{fits-is, unfit-named}
use Rattle.newt_entries.proofs.fit.is_fit.Goals as goal

pub returns-then-are_named : goal.returns-then-are_named
returns-then-are_named c =
    c.passes.ensures ∙ sym (fits-is c.args.rows.now c.args.skeleton.now (ap (λ ns. names_from 0 ns (map row_at c.args.rows.now)) (sym c.nodes.ensures.value) ∙ sym c.are_named.ensures ∙ c.if-are_named.true))

pub returns-else-are_named : goal.returns-else-are_named
returns-else-are_named c =
    c.if-are_named.false
    ∙ sym (unfit-named (map row_at c.args.rows.now) c.args.skeleton.now (ap (λ ns. names_from 0 ns (map row_at c.args.rows.now)) (sym c.nodes.ensures.value) ∙ sym c.are_named.ensures ∙ c.if-are_named.false))
