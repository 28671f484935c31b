-- The ids of the rows that have an object.
use Rattle.std.proofs.Common.{◌≡◌, ℕ, ◌+◌, ◌<◌, ◌≤◌, Bool, true, false, ◌&&◌, cond, List, [], ◌∷◌, ◌++◌, Option, Some, None, IsSome, Ordering, refl, sym, ◌∙◌, ap, subst, arith, ⊎_elim}
use Rattle.std.specs.declared.cmp.Ordering.TheVariants.{Less, Equal, Greater}
use Rattle.std.specs.declared.ops.Bound.TheVariants.{Excluded, Unbounded}
use Rattle.std.specs.List.{AllByRecursion}
use Rattle.std.specs.List.Sorted.{IsStrictlySortedBy}
use Rattle.std.specs.Map.{lookup, keys_of}
use Rattle.std.specs.Option.{option_flatten, is_some}
use Rattle.std.specs.Ordering.{nat_cmp, is_eq, is_lt}
use Rattle.std.specs.BTreeMap as tree
use Rattle.std.specs.BTreeMap.{is_at}
use Rattle.std.specs.BTreeMap.Range.{range_contains, entries_between}
use Rattle.std.proofs.lemmas.Map.Keys.{sorted_head, sorted_tail}
use Rattle.newt_spec_image.specs.Objects.{Extent, Table}
use Rattle.newt_pagebook.proofs.Tests.{same_test, is_same, equal_true, true_or_false}
use Rattle.newt_objects.specs.Headers.{Rows, held_in}
use Rattle.newt_objects.specs.Extents.{IsNextIn}
use Rattle.newt_objects.specs.Listed.{AreNexts}
use Rattle.newt_objects.proofs.Nexts.{Entries, above, above_is, above_it, below_is, in_part, part_sorted, past}

abbrev pub ids_of : Entries → List ℕ
ids_of [] = []
ids_of (e ∷ es) = cond (is_some e.1) (e.0 ∷ ids_of es) (ids_of es)

-- a row more
pub ids-push : (es : Entries) (e : ℕ × Option Extent) → ids_of (es ++ e ∷ []) ≡ ids_of es ++ cond (is_some e.1) (e.0 ∷ []) []
ids-push [] e = refl
ids-push (d ∷ es) e = ⊎_elim
    (λ (t : is_some d.1 ≡ true). ap (λ (b : Bool). cond b (d.0 ∷ ids_of (es ++ e ∷ [])) (ids_of (es ++ e ∷ []))) t ∙ ap (λ (l : List ℕ). d.0 ∷ l) (ids-push es e)
    ∙ sym (ap (λ (b : Bool). cond b (d.0 ∷ ids_of es) (ids_of es) ++ cond (is_some e.1) (e.0 ∷ []) []) t))
    (λ (f : is_some d.1 ≡ false). ap (λ (b : Bool). cond b (d.0 ∷ ids_of (es ++ e ∷ [])) (ids_of (es ++ e ∷ []))) f ∙ ids-push es e
    ∙ sym (ap (λ (b : Bool). cond b (d.0 ∷ ids_of es) (ids_of es) ++ cond (is_some e.1) (e.0 ∷ []) []) f))
    (true_or_false (is_some d.1))

-- a table says from a number on what these rows do
abbrev Says : Table → ℕ → Entries → Type 0
Says table from es = (q : ℕ) → from ≤ q → table q ≡ option_flatten (lookup (is_at (nat_cmp q)) es)

nexts-none : (table : Table) (from : ℕ) → Says table from [] → IsNextIn table from None
nexts-none table from says = record {
  found = λ id e. absurd (not_some id e);
  least = λ id q e low high. absurd (not_some id e);
  none = λ q e low. says q low;
} where
  not_some : (a : ℕ) → None ≡ Some a → ⊥
  not_some a e = cc

each_above : (k : ℕ) (ks : List ℕ) → AllByRecursion (λ j. nat_cmp k j ≡ Less) ks → AllByRecursion (λ j. k + 1 ≤ j) ks
each_above k [] all = tt
each_above k (j ∷ ks) all = (above k j all.0, each_above k ks all.1)

-- a row that has no object says nothing
vacant : (k q : ℕ) (es : Entries) → IsStrictlySortedBy nat_cmp (k ∷ keys_of es) → option_flatten (lookup (is_at (nat_cmp q)) ((k, None) ∷ es)) ≡ option_flatten (lookup (is_at (nat_cmp q)) es)
vacant k q es sorted = ⊎_elim
    (λ (here : is_at (nat_cmp q) k ≡ true).
    let same : q ≡ k = is_same q k (sym (same_test q k) ∙ here) in
    ap (λ (b : Bool). option_flatten (cond b (Some None) (lookup (is_at (nat_cmp q)) es))) here ∙ sym (ap option_flatten (past k q es (sorted_head nat_cmp k (keys_of es) sorted) (omega (arith, same)))))
    (λ (not : is_at (nat_cmp q) k ≡ false). ap (λ (b : Bool). option_flatten (cond b (Some None) (lookup (is_at (nat_cmp q)) es))) not)
    (true_or_false (is_at (nat_cmp q) k))

-- the first row has an object
nexts-found : (table : Table) (from k : ℕ) (x : Extent) (es : Entries) → IsStrictlySortedBy nat_cmp (k ∷ keys_of es) → from ≤ k → Says table from ((k, Some x) ∷ es) → IsNextIn table from (Some k)
nexts-found table from k x es sorted later says = record {
  found = λ id e. subst (λ (o : ℕ). IsSome (table o) × (from ≤ o)) (the_same k id e) (ap is_some there, later);
  least = λ id q e low high.
      let below : q < k = subst (λ (o : ℕ). q < o) (sym (the_same k id e)) high in
      says q low ∙ ap (λ (r : Ordering). option_flatten (cond (is_eq r) (Some (Some x)) (lookup (is_at (nat_cmp q)) es))) (below_is q k below)
      ∙ ap option_flatten (past k q es (sorted_head nat_cmp k (keys_of es) sorted) (omega arith));
  none = λ q e low. absurd (not_none k e);
} where
  the_same : (a b : ℕ) → Some a ≡ Some b → a ≡ b
  the_same a b e = cc

  not_none : (a : ℕ) → Some a ≡ None → ⊥
  not_none a e = cc

  there : table k ≡ Some x
  there = says k later ∙ ap (λ (b : Bool). option_flatten (cond b (Some (Some x)) (lookup (is_at (nat_cmp k)) es))) (same_test k k ∙ equal_true k k refl)

-- the ids of rows in order are listed
nexts : (table : Table) (from : ℕ) (es : Entries) → IsStrictlySortedBy nat_cmp (keys_of es) → AllByRecursion (λ k. from ≤ k) (keys_of es) → Says table from es → AreNexts table from (ids_of es)
nexts table from [] sorted high says = nexts-none table from says
nexts table from ((k, None) ∷ es) sorted high says = nexts table from es (sorted_tail nat_cmp k (keys_of es) sorted) high.1 (λ q low. says q low ∙ vacant k q es sorted)
nexts table from ((k, Some x) ∷ es) sorted high says = (
  nexts-found table from k x es sorted high.0 says,
  nexts table (k + 1) es (sorted_tail nat_cmp k (keys_of es) sorted) (each_above k (keys_of es) (sorted_head nat_cmp k (keys_of es) sorted))
      (λ q low. says q (omega (arith, low, high.0)) ∙ ap (λ (r : Ordering). option_flatten (cond (is_eq r) (Some (Some x)) (lookup (is_at (nat_cmp q)) es))) (above_is q k (omega (arith, low)))),
)

less_is : (r : Ordering) → (is_lt r && true) ≡ true → r ≡ Less
less_is Less t = refl
less_is Equal t = absurd (cc)
less_is Greater t = absurd (cc)

keys_above : (id : ℕ) (es : Entries) → AllByRecursion (λ k. id + 1 ≤ k) (keys_of (entries_between nat_cmp (Excluded id) Unbounded es))
keys_above id [] = tt
keys_above id (e ∷ es) =
    let rest : Entries = entries_between nat_cmp (Excluded id) Unbounded es in
    let all : Bool → Type 0 = λ b. AllByRecursion (λ k. id + 1 ≤ k) (keys_of (cond b (e ∷ rest) rest)) in
    ⊎_elim
    (λ (t : range_contains nat_cmp (Excluded id) Unbounded e.0 ≡ true). subst all (sym t) (above id e.0 (less_is (nat_cmp id e.0) t), keys_above id es))
    (λ (f : range_contains nat_cmp (Excluded id) Unbounded e.0 ≡ false). subst all (sym f) (keys_above id es))
    (true_or_false (range_contains nat_cmp (Excluded id) Unbounded e.0))

pub rows-nexts : (rows : Rows) (id : ℕ) → tree.IsOrdered nat_cmp rows → AreNexts (held_in rows) (id + 1) (ids_of (entries_between nat_cmp (Excluded id) Unbounded rows.entries))
rows-nexts rows id sorted = nexts (held_in rows) (id + 1) (entries_between nat_cmp (Excluded id) Unbounded rows.entries) (part_sorted rows (Excluded id) (id + 1) (above_it id) sorted) (keys_above id rows.entries)
    (λ q low. ap option_flatten (sym (in_part rows (Excluded id) (id + 1) (above_it id) sorted q low)))
