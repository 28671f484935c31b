use Rattle.std.proofs.Common.{◌≡◌, inl, inr, ℕ, List, Result, sym, ◌∙◌, ap, subst}
use Rattle.std.specs.List.{list_all}
use Rattle.newt_objects.specs.Held.{held}
use Rattle.newt_pagebook.specs.declared.book.BookFault.{BookFault}
use Rattle.newt_pagebook.specs.declared.book.BookFault.TheVariants.{NotStore, Memory, Device}
use Rattle.newt_entries.specs.declared.row.LargeAt.{LargeAt}
use Rattle.newt_store_catalog.specs.Opening.{has_length, objects_named, owner_of, OwnsThese, AreOwned}
use Rattle.newt_store_catalog.proofs.Exits.{Fails, no-value, fault-is, memory-store, memory-device}
use Rattle.newt_store_catalog.proofs.Opening.{is-none, some-of}
use Rattle.newt_store_catalog.proofs.open.find_row.Goals as goal

pub returns-in_err-ids : goal.returns-in_err-ids
returns-in_err-ids c =
    let r : Result (Unit {0}) BookFault = c.from_residual-in_err-ids.result in
    let fails : Fails r Memory = c.from_residual-in_err-ids.ensures.1 in
    record {
      found = no-value r Memory _ fails;
      bad = λ is. absurd (memory-store (fault-is r Memory NotStore fails is));
      no_device = λ is. memory-device (fault-is r Memory Device fails is);
    }

pub returns-in_err-are_free : goal.returns-in_err-are_free
returns-in_err-are_free c =
    let r : Result (Unit {0}) BookFault = c.from_residual-in_err-are_free.result in
    let fails : Fails r Memory = c.from_residual-in_err-are_free.ensures.1 in
    record {
      found = no-value r Memory _ fails;
      bad = λ is. absurd (memory-store (fault-is r Memory NotStore fails is));
      no_device = λ is. memory-device (fault-is r Memory Device fails is);
    }

pub returns-in_err-keep_names : goal.returns-in_err-keep_names
returns-in_err-keep_names c =
    let r : Result (Unit {0}) BookFault = c.from_residual-in_err-keep_names.result in
    let fails : Fails r Memory = c.from_residual-in_err-keep_names.ensures.1 in
    record {
      found = no-value r Memory _ fails;
      bad = λ is. absurd (memory-store (fault-is r Memory NotStore fails is));
      no_device = λ is. memory-device (fault-is r Memory Device fails is);
    }

pub returns-in_err-old : goal.returns-in_err-old
returns-in_err-old c =
    let r : Result (Unit {0}) BookFault = c.from_residual.result in
    let fails : Fails r Memory = c.from_residual.ensures.1 in
    record {
      found = no-value r Memory _ fails;
      bad = λ is. absurd (memory-store (fault-is r Memory NotStore fails is));
      no_device = λ is. memory-device (fault-is r Memory Device fails is);
    }

pub returns-then-not-has_given-clause-bad : goal.returns-then-not-has_given-clause-bad
returns-then-not-has_given-clause-bad c = λ is. inl (c.has_given.ensures.not_given c.if-not-has_given.true)

pub returns-then-is_some-clause-bad : goal.returns-then-is_some-clause-bad
returns-then-is_some-clause-bad c = λ is. let other = some-of c.in_ok-old.old (sym c.is_some.ensures ∙ c.if-is_some.true) in inr (inl (other.0, sym c.in_ok-old.ensures.old ∙ other.1))

pub returns-then-not-are_there-clause-bad : goal.returns-then-not-are_there-clause-bad
returns-then-not-are_there-clause-bad c = λ is. inr (inr (inl (
    ap (λ (rows : List LargeAt). list_all (λ row. has_length (held c.args.objects.now) row) rows) (sym c.list.ensures) ∙ sym c.are_there.ensures ∙ c.if-not-are_there.true
    )))

pub returns-then-not-are_free-clause-bad : goal.returns-then-not-are_free-clause-bad
returns-then-not-are_free-clause-bad c = λ is.
    let named : c.deref.result.now ≡ objects_named c.args.row.now.larges = c.deref.ensures.value ∙ c.in_ok-ids.ensures ∙ ap objects_named c.list-2.ensures in
    inr (inr (inr (subst (λ (ids : List ℕ). AreOwned ids (owner_of c.args.finding.now.owners)) named (c.in_ok-are_free.ensures.are_owned c.if-not-are_free.true))))

pub returns-clause-found : goal.returns-clause-found
returns-clause-found c =
    let named : c.deref.result.now ≡ objects_named c.args.row.now.larges = c.deref.ensures.value ∙ c.in_ok-ids.ensures ∙ ap objects_named c.list-2.ensures in
    record {
      given = c.has_given.ensures.given c.if-not-has_given.false;
      free = sym c.in_ok-old.ensures.old ∙ is-none c.in_ok-old.old (sym c.is_some.ensures ∙ c.if-is_some.false);
      there = ap (λ (rows : List LargeAt). list_all (λ row. has_length (held c.args.objects.now) row) rows) (sym c.list.ensures) ∙ sym c.are_there.ensures ∙ c.if-not-are_there.false;
      owns = subst (λ (ids : List ℕ). OwnsThese ids c.args.id (owner_of c.args.finding.now.owners) (owner_of c.own_all.new.owners)) named (c.in_ok-are_free.ensures.owned c.if-not-are_free.false);
      placed = c.in_ok-old.ensures.kept;
      other_places = c.in_ok-old.ensures.others;
      named = c.in_ok-keep_names.ensures.kept ∙ sym c.deref.ensures.value ∙ named;
      other_names = c.in_ok-keep_names.ensures.others;
    }
