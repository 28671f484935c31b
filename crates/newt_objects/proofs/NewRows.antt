-- The rows of a table to which one was added.
use Rattle.std.proofs.Common.{◌≡◌, ◌≢◌, ◌⊎◌, inl, inr, ℕ, Bool, true, false, cond, Option, Some, sym, ◌∙◌, ap, ⊎_elim}
use Rattle.std.specs.Ordering.{nat_cmp, is_eq}
use Rattle.std.specs.BTreeMap as tree
use Rattle.std.specs.Cmp.{nat_cmp_total, tied_itself}
use Rattle.std.proofs.lemmas.Map.Lookups.{exact_unsigned}
use Rattle.newt_spec_image.specs.Objects.{Extent}
use Rattle.newt_pagebook.proofs.Tests.{some_inj, true_or_false, is_equal}
use Rattle.newt_objects.specs.Headers.{Rows, PutsRow}

module _ (id : ℕ) (x : Extent) (rows more : Rows) (puts : PutsRow id x rows more) where
  at : (q : ℕ) (b : Bool) → is_eq (nat_cmp id q) ≡ b → tree.get nat_cmp more q ≡ cond b (Some (Some x)) (tree.get nat_cmp rows q)
  at q b e = puts q ∙ ap (λ (b : Bool). cond b (Some (Some x)) (tree.get nat_cmp rows q)) e

  same_id : (q : ℕ) → is_eq (nat_cmp id q) ≡ true → id ≡ q
  same_id q e = exact_unsigned id q (is_equal _ e)

  pub row_put : tree.get nat_cmp more id ≡ Some (Some x)
  row_put = at id true (ap is_eq (tied_itself nat_cmp_total id))

  pub row_stays : (q : ℕ) → id ≢ q → tree.get nat_cmp more q ≡ tree.get nat_cmp rows q
  row_stays q other = ⊎_elim
      (λ (t : is_eq (nat_cmp id q) ≡ true). absurd (other (same_id q t)))
      (λ (f : is_eq (nat_cmp id q) ≡ false). at q false f)
      (true_or_false (is_eq (nat_cmp id q)))

  -- a row is the new one or an old one
  pub which_row : (q : ℕ) (row : Option Extent) → tree.get nat_cmp more q ≡ Some row → ((id ≡ q) × (Some x ≡ row)) ⊎ (tree.get nat_cmp rows q ≡ Some row)
  which_row q row e = ⊎_elim
      (λ (t : is_eq (nat_cmp id q) ≡ true). inl (same_id q t, some_inj _ _ (sym (at q true t) ∙ e)))
      (λ (f : is_eq (nat_cmp id q) ≡ false). inr (sym (at q false f) ∙ e))
      (true_or_false (is_eq (nat_cmp id q)))
