use Rattle.std.proofs.Common.{arith, sym, ◌∙◌, ap, subst, map, ◌≤◌}
use Rattle.std.specs.Prelude.{All}
use Rattle.newt_entries.specs.declared.row.LargeAt.{LargeAt}
use Rattle.newt_entries.specs.Entry.{row_at, fits}
use Rattle.newt_entries.proofs.Fits.{fit-few, fit-short}
use Rattle.newt_entries.proofs.Records.{taken_text, found, not_found, short}
use Rattle.newt_nsof_flat.proofs.Streams.{written_graph}
use Rattle.newt_entries.proofs.read.read_entry.Goals as goal

pub returns-then-bytes-count-clause-bad : goal.returns-then-bytes-count-clause-bad
returns-then-bytes-count-clause-bad c = λ bad. short c.args.bytes.now c.if-bytes-lt-HEAD.false (grind (arith, c.be16.ensures, c.from-count.ensures, c.if-bytes-count.true))

pub returns-then-not-is_fit-clause-bad : goal.returns-then-not-is_fit-clause-bad
returns-then-not-is_fit-clause-bad c = λ bad.
    not_found c.args.bytes.now c.in_ok-skeleton.skeleton c.in_ok-larges.larges.items c.from-count.result c.if-bytes-lt-HEAD.false c.if-bytes-count.false (c.from-count.ensures ∙ c.be16.ensures) c.in_ok-skeleton.ensures.found
    c.in_ok-larges.ensures (ap (λ ls. fits (map row_at ls) c.in_ok-skeleton.skeleton) (sym c.deref.ensures.value) ∙ sym c.is_fit.ensures ∙ c.if-not-is_fit.true)

pub returns-clause-found : goal.returns-clause-found
returns-clause-found c =
    rw (c.from.ensures, c.be16-2.ensures, c.be32.ensures, c.be32-2.ensures, c.of.ensures)
    (found c.args.bytes.now c.in_ok-skeleton.skeleton c.in_ok-larges.larges.items c.from-count.result c.if-bytes-lt-HEAD.false c.if-bytes-count.false (c.from-count.ensures ∙ c.be16.ensures) c.in_ok-skeleton.ensures.found
    c.in_ok-larges.ensures (ap (λ ls. fits (map row_at ls) c.in_ok-skeleton.skeleton) (sym c.deref.ensures.value) ∙ sym c.is_fit.ensures ∙ c.if-not-is_fit.false))

pub returns-clause-few : goal.returns-clause-few
returns-clause-few c =
    let few = fit-few c.in_ok-larges.larges.items c.in_ok-skeleton.skeleton (written_graph (taken_text c.args.bytes.now c.from-count.result) c.in_ok-skeleton.skeleton c.in_ok-skeleton.ensures.found)
    (ap (λ ls. fits (map row_at ls) c.in_ok-skeleton.skeleton) (sym c.deref.ensures.value) ∙ sym c.is_fit.ensures ∙ c.if-not-is_fit.false) in
    rw c.of.ensures few

pub returns-clause-short : goal.returns-clause-short
returns-clause-short c =
    subst (All (λ (l : LargeAt). l.length ≤ 1000000)) (sym c.of.ensures)
    (fit-short c.in_ok-larges.larges.items c.in_ok-skeleton.skeleton (written_graph (taken_text c.args.bytes.now c.from-count.result) c.in_ok-skeleton.skeleton c.in_ok-skeleton.ensures.found)
    (ap (λ ls. fits (map row_at ls) c.in_ok-skeleton.skeleton) (sym c.deref.ensures.value) ∙ sym c.is_fit.ensures ∙ c.if-not-is_fit.false))
