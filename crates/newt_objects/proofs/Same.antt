-- Pages have one table, and one map of objects.
use Rattle.std.proofs.Common.{◌≡◌, ℕ, zero, suc, ◌≤◌, List, [], ◌∷◌, length, slice_get, get_or, Option, Some, None, refl, sym, ◌∙◌, ap, subst, arith}
use Rattle.std.specs.FinMap as map
use Rattle.std.specs.Option.{option_map}
use Rattle.std.proofs.lemmas.Option.{slice_get-get_or}
use Rattle.newt_spec_image.specs.Pages.{Pages, object_id, part_number, object_length}
use Rattle.newt_spec_image.specs.Objects.{Extent, Table, IsTableOf, AreObjectsOf, pages_for, joined, Objects}
use Rattle.newt_pagebook.proofs.Tests.{some_inj}

pub one_page : (n : ℕ) → 1 ≤ pages_for n
one_page n = omega arith

pub same_list : (xs ys : List ℕ) → length xs ≡ length ys → ((k n : ℕ) → slice_get xs k ≡ Some n → slice_get ys k ≡ Some n) → xs ≡ ys
same_list [] [] size each = refl
same_list [] (y ∷ ys) size each = absurd (omega (arith, size))
same_list (x ∷ xs) [] size each = absurd (omega (arith, size))
same_list (x ∷ xs) (y ∷ ys) size each =
    let head : x ≡ y = some_inj x y (sym (each zero x refl)) in
    ap (λ (n : ℕ). n ∷ xs) head ∙ ap (λ (l : List ℕ). y ∷ l) (same_list xs ys (omega (arith, size)) (λ k n e. each (suc k) n e))

module _ (live : Pages) (a b : Table) (is_a : IsTableOf live a) (is_b : IsTableOf live b) where
  part_in : (id k number : ℕ) (x : Extent) → a id ≡ Some x → slice_get x.numbers k ≡ Some number → (y : Extent) × (b id ≡ Some y) × (slice_get y.numbers k ≡ Some number) × (y.length ≡ x.length)
  part_in id k number x there at =
      let p = is_a.parts id k number x there at in
      let w = is_b.pages number p.0 p.1 in
      let q = is_b.parts (object_id p.0) (part_number p.0) number w.0 w.1 w.2 in
      let same : q.0 ≡ p.0 = some_inj _ _ (sym q.1 ∙ p.1) in
      (w.0, ap b (sym p.2.of_object) ∙ w.1, ap (slice_get w.0.numbers) (sym p.2.of_part) ∙ w.2, sym q.2.of_size ∙ ap object_length same ∙ p.2.of_size)

  pub found_in : (id : ℕ) (x : Extent) → a id ≡ Some x → b id ≡ Some x
  found_in id x there =
      let low : 1 ≤ length x.numbers = omega (arith, is_a.whole id x there, one_page x.length) in
      let first = part_in id 0 (get_or x.numbers 0 0) x there (slice_get-get_or x.numbers 0 0 low) in
      let y : Extent = first.0 in
      let each : (k n : ℕ) → slice_get x.numbers k ≡ Some n → slice_get y.numbers k ≡ Some n = λ k n at.
      let p = part_in id k n x there at in ap (λ (z : Extent). slice_get z.numbers k) (some_inj y p.0 (sym first.1 ∙ p.1)) ∙ p.2 in
      let size : length x.numbers ≡ length y.numbers = is_a.whole id x there ∙ ap pages_for (sym first.3) ∙ sym (is_b.whole id y first.1) in
      let numbers : x.numbers ≡ y.numbers = same_list x.numbers y.numbers size each in
      first.1 ∙ sym (λ i. Some (record { length = sym first.3 i; numbers = numbers i }))

pub tables_agree : (live : Pages) (a b : Table) → IsTableOf live a → IsTableOf live b → (id : ℕ) → a id ≡ b id
tables_agree live a b is_a is_b id = cases (a id) (b id) refl refl where
  cases : (o p : Option Extent) → a id ≡ o → b id ≡ p → a id ≡ b id
  cases None None e f = e ∙ sym f
  cases None (Some y) e f = found_in live b a is_b is_a id y f ∙ sym f
  cases (Some x) p e f = e ∙ sym (found_in live a b is_a is_b id x e)

-- the bytes of the objects, whichever table is looked at
pub texts_by : (live : Pages) (table : Table) (texts : Objects) → AreObjectsOf live texts → IsTableOf live table → (id : ℕ) → map.get texts id ≡ option_map (joined live) (table id)
texts_by live table texts are is id = are.each id ∙ ap (option_map (joined live)) (tables_agree live are.table table are.is_table is id)

-- a table that answers the same is that of the same pages
pub table_kept : (live : Pages) (a b : Table) → ((id : ℕ) → b id ≡ a id) → IsTableOf live a → IsTableOf live b
table_kept live a b same is = subst (IsTableOf live) (λ i id. sym (same id) i) is
