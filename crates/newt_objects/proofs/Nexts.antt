-- The next row that has an object.
use Rattle.std.proofs.Common.{◌≡◌, ℕ, ◌+◌, ◌<◌, ◌≤◌, Bool, true, false, ◌&&◌, cond, List, [], ◌∷◌, ◌++◌, Option, Some, None, IsSome, Ordering, refl, sym, ◌∙◌, ap, subst, arith, ⊎_elim}
use Rattle.std.specs.declared.cmp.Ordering.TheVariants.{Less, Equal, Greater}
use Rattle.std.specs.declared.ops.Bound.{Bound}
use Rattle.std.specs.declared.ops.Bound.TheVariants.{Included, Excluded, Unbounded}
use Rattle.std.specs.List.{filter, AllByRecursion}
use Rattle.std.specs.List.Sorted.{IsStrictlySortedBy}
use Rattle.std.specs.Map.{lookup, keys_of}
use Rattle.std.specs.Option.{option_flatten, is_some}
use Rattle.std.specs.Ordering.{nat_cmp, is_eq, is_gt, is_le, is_lt}
use Rattle.std.specs.BTreeMap as tree
use Rattle.std.specs.BTreeMap.{is_at}
use Rattle.std.specs.BTreeMap.Range.{range_contains, entries_between}
use Rattle.std.specs.Cmp.{nat_cmp_is}
use Rattle.std.proofs.lemmas.Bool.{cases_lt}
use Rattle.std.proofs.lemmas.Map.Entries.{lookup-filter-keys}
use Rattle.std.proofs.lemmas.Map.Keys.{sorted_head, sorted_tail}
use Rattle.std.proofs.lemmas.List.Kept.{IsStrictlySortedBy-filter}
use Rattle.newt_spec_image.specs.Objects.{Extent}
use Rattle.newt_pagebook.proofs.Tests.{same_test, is_same, true_or_false}
use Rattle.newt_objects.specs.Headers.{Rows, held_in}
use Rattle.newt_objects.specs.Extents.{IsNextIn}

abbrev pub Entries : Type 0
Entries = List (ℕ × Option Extent)

-- no object among them
abbrev pub Vacant : Entries → Type 0
Vacant [] = Unit {0}
Vacant (e ∷ es) = (e.1 ≡ None) × Vacant es

pub vacant-push : (es : Entries) (e : ℕ × Option Extent) → Vacant es → e.1 ≡ None → Vacant (es ++ e ∷ [])
vacant-push [] e v none = (none, tt)
vacant-push (d ∷ es) e v none = (v.0, vacant-push es e v.1 none)

pub below_is : (a b : ℕ) → a < b → nat_cmp a b ≡ Less
below_is a b low = sym (nat_cmp_is a b Less low)

pub above_is : (a b : ℕ) → b < a → nat_cmp a b ≡ Greater
above_is a b low = sym (nat_cmp_is a b Greater low)

not_less : (a b : ℕ) → b ≤ a → nat_cmp a b ≡ Less → ⊥
not_less a b high e = ⊎_elim
    (λ (low : b < a). let g : Greater ≡ Less = sym (above_is a b low) ∙ e in absurd (cc))
    (λ (same : a ≤ b). let eq : a ≡ b = omega arith in let t : Equal ≡ Less = nat_cmp_is a b Equal eq ∙ e in absurd (cc))
    (cases_lt b a)

-- a key above the query is not found
pub past : (id q : ℕ) (es : Entries) → AllByRecursion (λ k. nat_cmp id k ≡ Less) (keys_of es) → q ≤ id → lookup (is_at (nat_cmp q)) es ≡ None
past id q [] all low = refl
past id q (e ∷ es) all low = ⊎_elim
    (λ (above : id < e.0). ap (λ (r : Ordering). cond (is_eq r) (Some e.1) (lookup (is_at (nat_cmp q)) es)) (below_is q e.0 (omega arith)) ∙ past id q es all.1 low)
    (λ (not : e.0 ≤ id). absurd (not_less id e.0 not all.0))
    (cases_lt id e.0)

-- below the first object none is found
before : (done t : Entries) (id q : ℕ) (row : Option Extent) → IsStrictlySortedBy nat_cmp (keys_of (done ++ (id, row) ∷ t)) → Vacant done → q < id → option_flatten (lookup (is_at (nat_cmp q)) (done ++ (id, row) ∷ t)) ≡ None
before [] t id q row sorted v low =
    ap (λ (r : Ordering). option_flatten (cond (is_eq r) (Some row) (lookup (is_at (nat_cmp q)) t))) (below_is q id low) ∙ ap option_flatten (past id q t (sorted_head nat_cmp id (keys_of t) sorted) (omega arith))
before (e ∷ done) t id q row sorted v low = ⊎_elim
    (λ (here : is_at (nat_cmp q) e.0 ≡ true). ap (λ (b : Bool). option_flatten (cond b (Some e.1) (lookup (is_at (nat_cmp q)) (done ++ (id, row) ∷ t)))) here ∙ v.0)
    (λ (not : is_at (nat_cmp q) e.0 ≡ false). ap (λ (b : Bool). option_flatten (cond b (Some e.1) (lookup (is_at (nat_cmp q)) (done ++ (id, row) ∷ t)))) not
    ∙ before done t id q row (sorted_tail nat_cmp e.0 (keys_of (done ++ (id, row) ∷ t)) sorted) v.1 low)
    (true_or_false (is_at (nat_cmp q) e.0))

vacant_all : (es : Entries) (q : ℕ) → Vacant es → option_flatten (lookup (is_at (nat_cmp q)) es) ≡ None
vacant_all [] q v = refl
vacant_all (e ∷ es) q v = ⊎_elim
    (λ (here : is_at (nat_cmp q) e.0 ≡ true). ap (λ (b : Bool). option_flatten (cond b (Some e.1) (lookup (is_at (nat_cmp q)) es))) here ∙ v.0)
    (λ (not : is_at (nat_cmp q) e.0 ≡ false). ap (λ (b : Bool). option_flatten (cond b (Some e.1) (lookup (is_at (nat_cmp q)) es))) not ∙ vacant_all es q v.1)
    (true_or_false (is_at (nat_cmp q) e.0))

keys-filter : (p : ℕ → Bool) (es : Entries) → keys_of (filter (λ e. p e.0) es) ≡ filter p (keys_of es)
keys-filter p [] = refl
keys-filter p (e ∷ es) = ⊎_elim
    (λ (t : p e.0 ≡ true). ap (λ (b : Bool). keys_of (cond b (e ∷ filter (λ e. p e.0) es) (filter (λ e. p e.0) es))) t ∙ ap (λ (ks : List ℕ). e.0 ∷ ks) (keys-filter p es)
    ∙ sym (ap (λ (b : Bool). cond b (e.0 ∷ filter p (keys_of es)) (filter p (keys_of es))) t))
    (λ (f : p e.0 ≡ false). ap (λ (b : Bool). keys_of (cond b (e ∷ filter (λ e. p e.0) es) (filter (λ e. p e.0) es))) f ∙ keys-filter p es
    ∙ sym (ap (λ (b : Bool). cond b (e.0 ∷ filter p (keys_of es)) (filter p (keys_of es))) f))
    (true_or_false (p e.0))

-- a bound that lets a number and all above it in
abbrev pub Begins : Bound ℕ → ℕ → Type 0
Begins bound from = (q : ℕ) → from ≤ q → range_contains nat_cmp bound Unbounded q ≡ true

pub at_least : (from : ℕ) → Begins (Included from) from
at_least from q later = ⊎_elim
    (λ (low : from < q). ap (λ (r : Ordering). is_le r && true) (below_is from q low))
    (λ (high : q ≤ from). let same : from ≡ q = omega arith in ap (λ (r : Ordering). is_le r && true) (sym (nat_cmp_is from q Equal same)))
    (cases_lt from q)

pub above_it : (id : ℕ) → Begins (Excluded id) (id + 1)
above_it id q later = let low : id < q = omega arith in ap (λ (r : Ordering). is_lt r && true) (below_is id q low)

module _ (rows : Rows) (bound : Bound ℕ) (from : ℕ) (begins : Begins bound from) (sorted : tree.IsOrdered nat_cmp rows) where
  abbrev pub part : Entries
  part = entries_between nat_cmp bound Unbounded rows.entries

  pub part_sorted : IsStrictlySortedBy nat_cmp (keys_of part)
  part_sorted = subst (IsStrictlySortedBy nat_cmp) (sym (keys-filter (range_contains nat_cmp bound Unbounded) rows.entries))
      (IsStrictlySortedBy-filter nat_cmp (range_contains nat_cmp bound Unbounded) (keys_of rows.entries) sorted)

  -- what is looked up from a number on is found in the part
  pub in_part : (q : ℕ) → from ≤ q → lookup (is_at (nat_cmp q)) part ≡ lookup (is_at (nat_cmp q)) rows.entries
  in_part q later = lookup-filter-keys (is_at (nat_cmp q)) (range_contains nat_cmp bound Unbounded) true
      (λ k same. ap (range_contains nat_cmp bound Unbounded) (sym (is_same q k (sym (same_test q k) ∙ same))) ∙ begins q later) rows.entries

  pub next-found : (done t : Entries) (id : ℕ) (x : Extent) → part ≡ done ++ (id, Some x) ∷ t → Vacant done → from ≤ id → held_in rows id ≡ Some x → IsNextIn (held_in rows) from (Some id)
  next-found done t id x is v later there = record {
    found = λ other e. subst (λ (o : ℕ). IsSome (held_in rows o) × (from ≤ o)) (the_same id other e) (ap is_some there, later);
    least = λ other q e low high.
        let below : q < id = subst (λ (o : ℕ). q < o) (sym (the_same id other e)) high in
        ap option_flatten (sym (in_part q low)) ∙ ap (λ (es : Entries). option_flatten (lookup (is_at (nat_cmp q)) es)) is
        ∙ before done t id q (Some x) (subst (λ (es : Entries). IsStrictlySortedBy nat_cmp (keys_of es)) is part_sorted) v below;
    none = λ q e low. absurd (not_none id e);
  } where
    the_same : (a b : ℕ) → Some a ≡ Some b → a ≡ b
    the_same a b e = cc

    not_none : (a : ℕ) → Some a ≡ None → ⊥
    not_none a e = cc

  pub next-none : Vacant part → IsNextIn (held_in rows) from None
  next-none v = record {
    found = λ id e. absurd (not_some id e);
    least = λ id q e low high. absurd (not_some id e);
    none = λ q e low. ap option_flatten (sym (in_part q low)) ∙ vacant_all part q v;
  } where
    not_some : (a : ℕ) → None ≡ Some a → ⊥
    not_some a e = cc

pub not_above : (from id : ℕ) → is_gt (nat_cmp from id) ≡ false → from ≤ id
not_above from id e = ⊎_elim
    (λ (high : id < from). absurd (let g : is_gt Greater ≡ false = ap is_gt (sym (above_is from id high)) ∙ e in cc))
    (λ (low : from ≤ id). low)
    (cases_lt id from)

pub above : (id q : ℕ) → nat_cmp id q ≡ Less → id + 1 ≤ q
above id q e = ⊎_elim
    (λ (low : id < q). omega arith)
    (λ (high : q ≤ id). absurd (not_less id q high e))
    (cases_lt id q)
