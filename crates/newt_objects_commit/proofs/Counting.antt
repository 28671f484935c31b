-- How many entries of one soup have places.
use Rattle.std.proofs.Common.{◌≡◌, ℕ, suc, ◌==◌, ◌&&◌, ◌||◌, Bool, true, false, List, [], ◌∷◌, map as map_list, length, is_some, refl, sym, ◌∙◌, ap, ⊎_elim}
use Rattle.std.specs.List.{filter, IsDistinct, AllByRecursion}
use Rattle.std.specs.Set.{is_member}
use Rattle.std.specs.BTreeMap as tree
use Rattle.std.specs.BTreeMap.{BTreeMap}
use Rattle.std.specs.Ordering.{eq_by_cmp}
use Rattle.std.proofs.lemmas.Cmp.{eq_by_cmp_equiv}
use Rattle.std.proofs.lemmas.List.Kept.{IsStrictlySortedBy-filter}
use Rattle.std.proofs.lemmas.Map.Keys.{IsDistinct-from_sorted}
use Rattle.std.proofs.lemmas.Map.Made.{length-from_same_keys, is_member-filter, is_some-lookup}
use Rattle.newt_pagebook.proofs.Tests.{true_or_false, is_same, equal_true}
use Rattle.newt_objects.specs.Headers.{part_cmp}
use Rattle.newt_objects.proofs.Indexing.{parts_total, same_part, itself}

abbrev pub alike : ℕ × ℕ → ℕ × ℕ → Bool
alike = eq_by_cmp part_cmp

abbrev pub same_number : ℕ → ℕ → Bool
same_number a b = a == b

-- the keys of these ids in one soup
abbrev keys_in : ℕ → List ℕ → List (ℕ × ℕ)
keys_in sig uids = map_list (λ u. let k : ℕ × ℕ = (sig, u) in k) uids

pub as_well : (x y : Bool) → (x ≡ true → y ≡ true) → (y ≡ true → x ≡ true) → x ≡ y
as_well true true f g = refl
as_well true false f g = sym (f refl)
as_well false true f g = g refl
as_well false false f g = refl

and_true : (b : Bool) → (b && true) ≡ b
and_true true = refl
and_true false = refl

and_false : (b : Bool) → (b && false) ≡ false
and_false true = refl
and_false false = refl

pub alike-in : (sig a b : ℕ) → alike (sig, a) (sig, b) ≡ same_number a b
alike-in sig a b = as_well (alike (sig, a) (sig, b)) (same_number a b)
    (λ e. equal_true a b (ap (λ (k : ℕ × ℕ). k.1) (same_part (sig, a) (sig, b) e)))
    (λ e. ap (λ (n : ℕ). alike (sig, a) (sig, n)) (sym (is_same a b e)) ∙ itself (sig, a))

alike-not : (s u sig v : ℕ) → (s == sig) ≡ false → alike (s, u) (sig, v) ≡ false
alike-not s u sig v ne = as_well (alike (s, u) (sig, v)) false
    (λ e. sym ne ∙ equal_true s sig (ap (λ (k : ℕ × ℕ). k.0) (same_part (s, u) (sig, v) e)))
    (λ no. absurd (cc))

member-in : (sig uid : ℕ) (uids : List ℕ) → is_member alike (keys_in sig uids) (sig, uid) ≡ is_member same_number uids uid
member-in sig uid [] = refl
member-in sig uid (u ∷ uids) = λ i. alike-in sig uid u i || member-in sig uid uids i

member-not : (s uid sig : ℕ) (uids : List ℕ) → (s == sig) ≡ false → is_member alike (keys_in sig uids) (s, uid) ≡ false
member-not s uid sig [] ne = refl
member-not s uid sig (u ∷ uids) ne = ap (λ b. b || is_member alike (keys_in sig uids) (s, uid)) (alike-not s uid sig u ne) ∙ member-not s uid sig uids ne

apart-in : (sig u : ℕ) (uids : List ℕ) → AllByRecursion (λ v. same_number u v ≡ false) uids → AllByRecursion (λ k. alike (sig, u) k ≡ false) (keys_in sig uids)
apart-in sig u [] h = tt
apart-in sig u (v ∷ uids) h = (alike-in sig u v ∙ h.0, apart-in sig u uids h.1)

distinct-in : (sig : ℕ) (uids : List ℕ) → IsDistinct same_number uids → IsDistinct alike (keys_in sig uids)
unfolding IsDistinct
distinct-in sig [] h = tt
distinct-in sig (u ∷ uids) h = (apart-in sig u uids h.0, distinct-in sig uids h.1)

length-in : (sig : ℕ) (uids : List ℕ) → length (keys_in sig uids) ≡ length uids
length-in sig [] = refl
length-in sig (u ∷ uids) = ap (λ n. suc n) (length-in sig uids)

pub counted : (rows : BTreeMap (ℕ × ℕ) ℕ) (sig : ℕ) → tree.IsOrdered part_cmp rows → (uids : List ℕ) → IsDistinct same_number uids
    → ((uid : ℕ) → is_some (tree.get part_cmp rows (sig, uid)) ≡ is_member same_number uids uid) → length (filter (λ k. k.0 == sig) (tree.keys rows)) ≡ length uids
counted rows sig ordered uids once there =
    length-from_same_keys (eq_by_cmp_equiv parts_total) of_soup (keys_in sig uids) (IsDistinct-from_sorted part_cmp of_soup (IsStrictlySortedBy-filter part_cmp test (tree.keys rows) ordered)) (distinct-in sig uids once) each
    ∙ length-in sig uids where
      test : ℕ × ℕ → Bool
      test k = k.0 == sig

      of_soup : List (ℕ × ℕ)
      of_soup = filter test (tree.keys rows)

      same-test : (q k : ℕ × ℕ) → alike q k ≡ true → test q ≡ test k
      same-test q k e = ap test (same_part q k e)

      at : (q : ℕ × ℕ) → is_member alike of_soup q ≡ (is_some (tree.get part_cmp rows q) && test q)
      at q = is_member-filter (eq_by_cmp_equiv parts_total) test q (same-test q) (tree.keys rows) ∙ ap (λ b. b && test q) (sym (is_some-lookup (alike q) rows.entries))

      each : (q : ℕ × ℕ) → is_member alike of_soup q ≡ is_member alike (keys_in sig uids) q
      each q = ⊎_elim
          (λ (e : test q ≡ true). at q ∙ ap (λ b. is_some (tree.get part_cmp rows q) && b) e ∙ and_true (is_some (tree.get part_cmp rows q))
          ∙ ap (λ (n : ℕ). let k : ℕ × ℕ = (n, q.1) in is_some (tree.get part_cmp rows k)) (is_same q.0 sig e)
          ∙ there q.1 ∙ sym (member-in sig q.1 uids) ∙ ap (λ (n : ℕ). let k : ℕ × ℕ = (n, q.1) in is_member alike (keys_in sig uids) k) (sym (is_same q.0 sig e)))
          (λ (e : test q ≡ false). at q ∙ ap (λ b. is_some (tree.get part_cmp rows q) && b) e ∙ and_false (is_some (tree.get part_cmp rows q)) ∙ sym (member-not q.0 q.1 sig uids e))
          (true_or_false (test q))
