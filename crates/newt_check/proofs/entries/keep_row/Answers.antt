use Rattle.std.proofs.Common.{inl, inr, ◌++◌, List, sym, ◌∙◌, ap, subst}
use Rattle.std.specs.List.{list_all}
use Rattle.newt_objects.specs.Held.{held}
use Rattle.newt_entries.specs.declared.row.LargeAt.{LargeAt}
use Rattle.newt_store_catalog.specs.Opening.{has_length, objects_named}
use Rattle.newt_store_catalog.proofs.Opening.{is-none, some-of}
use Rattle.newt_check.specs.Seen.{AreCounts}
use Rattle.newt_check.proofs.entries.keep_row.Goals as goal

pub returns-then-not-has_given-clause-bad : goal.returns-then-not-has_given-clause-bad
returns-then-not-has_given-clause-bad c = λ _. inl (c.has_given.ensures.not_given c.if-not-has_given.true)

pub returns-then-is_some-clause-bad : goal.returns-then-is_some-clause-bad
returns-then-is_some-clause-bad c = λ _. let other = some-of c.in_ok-insert.field-0 (sym c.is_some.ensures ∙ c.if-is_some.true) in inr (inl (other.0, sym c.in_ok-insert.ensures.old ∙ other.1))

pub returns-then-not-are_there-clause-bad : goal.returns-then-not-are_there-clause-bad
returns-then-not-are_there-clause-bad c = λ _. inr (inr (
    ap (λ (rows : List LargeAt). list_all (λ row. has_length (held c.args.objects.now) row) rows) (sym c.list.ensures) ∙ sym c.are_there.ensures ∙ c.if-not-are_there.true
    ))

pub returns-clause-kept : goal.returns-clause-kept
returns-clause-kept c = λ _. record {
  given = c.has_given.ensures.given c.if-not-has_given.false;
  free = sym c.in_ok-insert.ensures.old ∙ is-none c.in_ok-insert.field-0 (sym c.is_some.ensures ∙ c.if-is_some.false);
  there = ap (λ (rows : List LargeAt). list_all (λ row. has_length (held c.args.objects.now) row) rows) (sym c.list.ensures) ∙ sym c.are_there.ensures ∙ c.if-not-are_there.false;
  placed = c.in_ok-insert.ensures.kept;
  others = c.in_ok-insert.ensures.others;
  counted = λ names are. subst (λ (rows : List LargeAt). AreCounts (names ++ objects_named rows) c.count_names.new.counts) c.list-2.ensures (c.in_ok-count_names.ensures names are);
}
