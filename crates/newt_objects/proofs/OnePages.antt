-- The rows of objects of one page.
use Rattle.std.proofs.Common.{◌≡◌, ℕ, ◌+◌, ◌<◌, List, slice_get, Some, IsSome, sym, ◌∙◌, ap, subst, arith, ⊎_elim}
use Rattle.std.specs.Ordering.{nat_cmp}
use Rattle.std.specs.BTreeMap as tree
use Rattle.newt_pagebook.proofs.Tests.{some_inj, the_some}
use Rattle.newt_objects.specs.declared.header.Header.{Header}
use Rattle.newt_objects.specs.Headers.{IsOnlyPage, one_page, Rows, HasOnePageRows, AddsOnePage, HasPartTwice}
use Rattle.newt_objects.proofs.Indexing.{at_most}
use Rattle.newt_objects.proofs.NewRows.{row_put, row_stays, which_row}

module _ (hs : List Header) (i : ℕ) (h : Header) (here : slice_get hs i ≡ Some h) (rows : Rows) (so_far : HasOnePageRows i hs rows) where
  its : (k : Header) (j : ℕ) → slice_get hs j ≡ Some k → j ≡ i → h ≡ k
  its k j is last = some_inj h k (sym here ∙ ap (slice_get hs) (sym last) ∙ is)

  -- one header more, of a longer object
  pub one_pages-same : (IsOnlyPage h → ⊥) → HasOnePageRows (i + 1) hs rows
  one_pages-same longer = record {
    found = λ j k low is only. ⊎_elim
        (λ (below : j < i). so_far.found j k below is only)
        (λ (last : j ≡ i). absurd (longer (subst IsOnlyPage (sym (its k j is last)) only)))
        (at_most j i low);
    real = λ id row is.
        let w = so_far.real id row is in
        (w.0, w.1, (let low = w.2 in omega arith), w.3, w.4, w.5, w.6);
  }

  -- or of an object of one page
  pub one_pages-more : (more : Rows) → IsOnlyPage h → AddsOnePage h rows more → HasOnePageRows (i + 1) hs more
  one_pages-more more it adds = record {
    found = λ j k low is only. ⊎_elim
        (λ (below : j < i).
        let old = so_far.found j k below is only in
        row_stays h.object (one_page h) rows more adds.now k.object (λ e. absurd (let none = adds.none in let there = ap (tree.get nat_cmp rows) e ∙ old in cc)) ∙ old)
        (λ (last : j ≡ i). subst (λ (k : Header). tree.get nat_cmp more k.object ≡ Some (Some (one_page k))) (its k j is last) (row_put h.object (one_page h) rows more adds.now))
        (at_most j i low);
    real = λ id row is. ⊎_elim
        (λ (last : (h.object ≡ id) × (Some (one_page h) ≡ row)). (i, h, omega arith, here, it, last.0, last.1))
        (λ (old : tree.get nat_cmp rows id ≡ Some row).
        let w = so_far.real id row old in
        (w.0, w.1, (let low = w.2 in omega arith), w.3, w.4, w.5, w.6))
        (which_row h.object (one_page h) rows more adds.now id row is);
  }

  -- an only page of an object that has a row
  pub page_twice : IsOnlyPage h → IsSome (tree.get nat_cmp rows h.object) → HasPartTwice hs
  page_twice it had =
      let row = the_some (tree.get nat_cmp rows h.object) had in
      let w = so_far.real h.object row.0 row.1 in
      record { first = w.0; second = i; one = w.1; other = h; one_is = w.3; other_is = here; apart = w.2; same_object = w.5; same_part = w.4.0 ∙ sym it.0 }
