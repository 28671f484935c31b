-- The order of keys and of hits is total.
use Rattle.std.proofs.Common.{◌≡◌, refl, ap, sym, ◌∙◌, ℕ, List, [], ◌∷◌, ℤ, pos}
use Rattle.std.specs.declared.cmp.Ordering.{Ordering}
use Rattle.std.specs.declared.cmp.Ordering.TheVariants.{Less, Equal, Greater}
use Rattle.std.specs.Cmp.{IsTotalOrder}
use Rattle.std.specs.Cmp.Lexicographic.{slice_cmp}
use Rattle.std.specs.Ordering.{nat_cmp, int_cmp, ordering_then, ordering_reverse, on, then_cmp}
use Rattle.std.proofs.lemmas.Cmp.{nat_cmp_total, int_cmp_total, nat_list_cmp_total, on_total, then_total}
use Rattle.newt_spec_store.specs.declared.Order.{Order}
use Rattle.newt_spec_store.specs.declared.Order.TheVariants as order
use Rattle.newt_spec_store.specs.Keys.{Part, missing, words, whole, letter, name, form, IndexPart, IndexSpec, Key, value_cmp, part_cmp, key_cmp, in_direction}
use Rattle.newt_spec_query.specs.Hits.{Hit, hit_cmp}

-- ---- values

-- the same order in words of which each is total: by form, then by bytes, then by number
abbrev bytes_of : Part → List ℕ
bytes_of (words a) = a
bytes_of (letter a) = a ∷ []
bytes_of (name a) = a
bytes_of _ = []

abbrev number_of : Part → ℤ
number_of (whole a) = a
number_of _ = pos 0

abbrev by_form : Part → Part → Ordering
by_form = then_cmp (on form nat_cmp) (then_cmp (on bytes_of (slice_cmp nat_cmp)) (on number_of int_cmp))

pub then-equal : (o : Ordering) → ordering_then o Equal ≡ o
then-equal Less = refl
then-equal Equal = refl
then-equal Greater = refl

same-by_form : (a b : Part) → value_cmp a b ≡ by_form a b
same-by_form missing missing = refl
same-by_form (words a) (words b) = sym (then-equal (slice_cmp nat_cmp a b))
same-by_form (whole a) (whole b) = refl
same-by_form (letter a) (letter b) = sym (then-equal (nat_cmp a b)) ∙ sym (then-equal (ordering_then (nat_cmp a b) Equal))
same-by_form (name a) (name b) = sym (then-equal (slice_cmp nat_cmp a b))
same-by_form _ _ = refl

by_form_total : IsTotalOrder by_form
by_form_total = then_total (on_total form nat_cmp_total) (then_total (on_total bytes_of nat_list_cmp_total) (on_total number_of int_cmp_total))

-- an order that agrees with a total one is total
pub agrees_total : {K : Type 0} (R S : K → K → Ordering) → ((a b : K) → R a b ≡ S a b) → IsTotalOrder S → IsTotalOrder R
agrees_total R S same o = record {
  antisymm = λ a b. same a b ∙ o.antisymm a b ∙ ap ordering_reverse (sym (same b a));
  trans = λ a b c h k. same a c ∙ o.trans a b c (sym (same a b) ∙ h) (sym (same b c) ∙ k);
  congr = λ a b c h. same a c ∙ o.congr a b c (sym (same a b) ∙ h) ∙ sym (same b c);
}

value_total : IsTotalOrder value_cmp
value_total = agrees_total value_cmp by_form same-by_form by_form_total

-- ---- parts

-- values in a direction
directed_total : (d : Order) → IsTotalOrder (λ a b. in_direction d (value_cmp a b))
directed_total order.Ascend = value_total
directed_total order.Descend = record {
  antisymm = λ a b. ap ordering_reverse (value_total.antisymm a b);
  trans = λ a b c h k. reversed-trans (value_cmp a b) (value_cmp b c) (value_cmp a c) (value_cmp b a) (value_cmp c b) (value_cmp c a) (value_total.antisymm a b) (value_total.antisymm b c) (value_total.antisymm a c) (λ h k. value_total.trans c b a k h) h k;
  congr = λ a b c h. ap ordering_reverse (value_total.congr a b c (reversed-equal (value_cmp a b) h));
}
  where
    reversed-equal : (o : Ordering) → ordering_reverse o ≡ Equal → o ≡ Equal
    reversed-equal Less h = cc
    reversed-equal Equal h = refl
    reversed-equal Greater h = cc

    reversed-trans : (ab bc ac ba cb ca : Ordering) → ab ≡ ordering_reverse ba → bc ≡ ordering_reverse cb → ac ≡ ordering_reverse ca
        → (ba ≡ Less → cb ≡ Less → ca ≡ Less) → ordering_reverse ab ≡ Less → ordering_reverse bc ≡ Less → ordering_reverse ac ≡ Less
    reversed-trans ab bc ac Less Less ca e f g t h k = ap ordering_reverse (g ∙ ap ordering_reverse (t refl refl))
    reversed-trans ab bc ac Less Equal ca e f g t h k = cc
    reversed-trans ab bc ac Less Greater ca e f g t h k = cc
    reversed-trans ab bc ac Equal cb ca e f g t h k = cc
    reversed-trans ab bc ac Greater cb ca e f g t h k = cc

part-antisymm : (d : Order) (a b : Part) → part_cmp d a b ≡ ordering_reverse (part_cmp d b a)
part-antisymm d missing missing = refl
part-antisymm d missing _ = refl
part-antisymm d _ missing = refl
part-antisymm d a b = (directed_total d).antisymm a b

part-trans : (d : Order) (a b c : Part) → part_cmp d a b ≡ Less → part_cmp d b c ≡ Less → part_cmp d a c ≡ Less
part-trans d missing missing c h k = cc
part-trans d missing b missing h k = cc
part-trans d missing b c h k = refl
part-trans d a missing c h k = cc
part-trans d a b missing h k = cc
part-trans d a b c h k = (directed_total d).trans a b c h k

part-congr : (d : Order) (a b c : Part) → part_cmp d a b ≡ Equal → part_cmp d a c ≡ part_cmp d b c
part-congr d missing missing c h = refl
part-congr d missing b c h = cc
part-congr d a missing c h = cc
part-congr d a b missing h = refl
part-congr d a b c h = (directed_total d).congr a b c h

pub part_total : (d : Order) → IsTotalOrder (part_cmp d)
part_total d = record { antisymm = part-antisymm d; trans = part-trans d; congr = part-congr d }

-- ---- keys

abbrev first : Part × Key → Part
first k = k.0

abbrev rest : Part × Key → Key
rest k = k.1

cons_total : (p : IndexPart) (spec : IndexSpec) → IsTotalOrder (key_cmp spec) → IsTotalOrder (then_cmp (on first (part_cmp p.direction)) (on rest (key_cmp spec)))
cons_total p spec o = then_total (on_total first (part_total p.direction)) (on_total rest o)

key-antisymm : (p : IndexPart) (spec : IndexSpec) → IsTotalOrder (key_cmp spec) → (a b : Key) → key_cmp (p ∷ spec) a b ≡ ordering_reverse (key_cmp (p ∷ spec) b a)
key-antisymm p spec o [] [] = refl
key-antisymm p spec o [] (y ∷ b) = refl
key-antisymm p spec o (x ∷ a) [] = refl
key-antisymm p spec o (x ∷ a) (y ∷ b) = (cons_total p spec o).antisymm (x, a) (y, b)

key-trans : (p : IndexPart) (spec : IndexSpec) → IsTotalOrder (key_cmp spec) → (a b c : Key) → key_cmp (p ∷ spec) a b ≡ Less → key_cmp (p ∷ spec) b c ≡ Less → key_cmp (p ∷ spec) a c ≡ Less
key-trans p spec o [] [] c h k = cc
key-trans p spec o [] (y ∷ b) [] h k = cc
key-trans p spec o [] (y ∷ b) (z ∷ c) h k = refl
key-trans p spec o (x ∷ a) [] c h k = cc
key-trans p spec o (x ∷ a) (y ∷ b) [] h k = cc
key-trans p spec o (x ∷ a) (y ∷ b) (z ∷ c) h k = (cons_total p spec o).trans (x, a) (y, b) (z, c) h k

key-congr : (p : IndexPart) (spec : IndexSpec) → IsTotalOrder (key_cmp spec) → (a b c : Key) → key_cmp (p ∷ spec) a b ≡ Equal → key_cmp (p ∷ spec) a c ≡ key_cmp (p ∷ spec) b c
key-congr p spec o [] [] c h = refl
key-congr p spec o [] (y ∷ b) c h = cc
key-congr p spec o (x ∷ a) [] c h = cc
key-congr p spec o (x ∷ a) (y ∷ b) [] h = refl
key-congr p spec o (x ∷ a) (y ∷ b) (z ∷ c) h = (cons_total p spec o).congr (x, a) (y, b) (z, c) h

pub key_total : (spec : IndexSpec) → IsTotalOrder (key_cmp spec)
key_total [] = record { antisymm = λ a b. refl; trans = λ a b c h k. cc; congr = λ a b c h. refl }
key_total (p ∷ spec) =
    let o = key_total spec in
    record { antisymm = key-antisymm p spec o; trans = key-trans p spec o; congr = key-congr p spec o }

-- ---- hits

pub hit_total : (index : IndexSpec) → IsTotalOrder (hit_cmp index)
hit_total index =
    then_total (on_total (λ (h : Hit). h.key) (key_total index))
    (then_total (on_total (λ (h : Hit). h.store) nat_cmp_total)
    (then_total (on_total (λ (h : Hit). h.soup) nat_cmp_total) (on_total (λ (h : Hit). h.uid) nat_cmp_total)))
