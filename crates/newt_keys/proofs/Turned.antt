-- Bytes turned to a direction order as the direction asks.
use Rattle.std.proofs.Common.{◌≡◌, ℕ, suc, zero, ◌+◌, ◌-◌, ◌<◌, List, [], ◌∷◌, ◌++◌, map, refl, sym, ◌∙◌, ap, arith, length, ◌⊎◌, inl, inr, subst, ◌*◌, Bool, true, false, ◌||◌, ◌==◌, append_assoc}
use Rattle.std.proofs.lemmas.List.{map-id}
use Rattle.std.specs.List.{list_any}
use Rattle.std.proofs.lemmas.List.Elements.{All-head, All-tail}
use Rattle.std.specs.List.{All}
use Rattle.std.specs.declared.cmp.Ordering.{Ordering}
use Rattle.std.specs.declared.cmp.Ordering.TheVariants.{Less, Equal, Greater}
use Rattle.std.specs.Ordering.{nat_cmp, ordering_then, MatchOrdering}
use Rattle.std.specs.Cmp.{nat_cmp_is}
use Rattle.std.specs.Cmp.Lexicographic.{slice_cmp}
use Rattle.std.proofs.lemmas.Cmp.{ranked, by_ranked}
use Rattle.newt_spec_store.specs.Keys.{in_direction}
use Rattle.newt_spec_store.specs.declared.Order.{Order}
use Rattle.newt_spec_store.specs.declared.Order.TheVariants as order
use Rattle.newt_keys.specs.KeyForm.{turned, text_bytes}

pub then_then : (o p r : Ordering) → ordering_then (ordering_then o p) r ≡ ordering_then o (ordering_then p r)
then_then Less p r = refl
then_then Equal p r = refl
then_then Greater p r = refl

-- the first of two in a direction, and then the second
pub directed_then : (d : Order) (o p r : Ordering) → ordering_then (in_direction d o) (ordering_then (in_direction d p) r) ≡ ordering_then (in_direction d (ordering_then o p)) r
directed_then order.Ascend Less p r = refl
directed_then order.Ascend Equal p r = refl
directed_then order.Ascend Greater p r = refl
directed_then order.Descend Less p r = refl
directed_then order.Descend Equal p r = refl
directed_then order.Descend Greater p r = refl

pub less : (m n : ℕ) → m < n → nat_cmp m n ≡ Less
less m n h = sym (nat_cmp_is m n Less h)

pub equal : (m n : ℕ) → m ≡ n → nat_cmp m n ≡ Equal
equal m n h = sym (nat_cmp_is m n Equal h)

pub greater : (m n : ℕ) → n < m → nat_cmp m n ≡ Greater
greater m n h = sym (nat_cmp_is m n Greater h)

pub turned_cmp : (d : Order) (m n : ℕ) → m < 256 → n < 256 → nat_cmp (turned d m) (turned d n) ≡ in_direction d (nat_cmp m n)
turned_cmp order.Ascend m n hm hn = refl
turned_cmp order.Descend m n hm hn =
    by_ranked (m < n) (m ≡ n) (n < m) (nat_cmp m n) (ranked m n (nat_cmp m n) refl)
    (λ e h. greater (255 - m) (255 - n) (omega arith) ∙ sym (ap (in_direction order.Descend) e))
    (λ e h. equal (255 - m) (255 - n) (omega arith) ∙ sym (ap (in_direction order.Descend) e))
    (λ e h. less (255 - m) (255 - n) (omega arith) ∙ sym (ap (in_direction order.Descend) e))

-- two bytes in a direction decide as the bytes do, and where they are equal, what follows does
pub step : (d : Order) (m n : ℕ) (p r rest : Ordering) → m < 256 → n < 256 → rest ≡ ordering_then (in_direction d p) r
    → ordering_then (nat_cmp (turned d m) (turned d n)) rest ≡ ordering_then (in_direction d (ordering_then (nat_cmp m n) p)) r
step d m n p r rest hm hn e =
    ap (λ o. ordering_then o rest) (turned_cmp d m n hm hn)
    ∙ ap (λ o. ordering_then (in_direction d (nat_cmp m n)) o) e
    ∙ directed_then d (nat_cmp m n) p r

pub at_end : (d : Order) (r : Ordering) → r ≡ ordering_then (in_direction d Equal) r
at_end order.Ascend r = refl
at_end order.Descend r = refl

-- two different bytes decide, whatever follows
pub decided : (d : Order) (m n : ℕ) (o r rest : Ordering) → m < 256 → n < 256 → nat_cmp m n ≡ o → (o ≡ Less) ⊎ (o ≡ Greater)
    → ordering_then (nat_cmp (turned d m) (turned d n)) rest ≡ ordering_then (in_direction d o) r
decided d m n o r rest hm hn e h =
    ap (λ o. ordering_then o rest) (turned_cmp d m n hm hn)
    ∙ ap (λ o. ordering_then (in_direction d o) rest) e
    ∙ unequal d o rest r h
  where
    unequal : (d : Order) (o q r : Ordering) → (o ≡ Less) ⊎ (o ≡ Greater) → ordering_then (in_direction d o) q ≡ ordering_then (in_direction d o) r
    unequal order.Ascend Less q r h = refl
    unequal order.Ascend Greater q r h = refl
    unequal order.Ascend Equal q r h = elim h [ inl e ↦ cc | inr e ↦ cc ]
    unequal order.Descend Less q r h = refl
    unequal order.Descend Greater q r h = refl
    unequal order.Descend Equal q r h = elim h [ inl e ↦ cc | inr e ↦ cc ]

-- texts with what follows them order as the texts, and then as what follows
pub text_law : (d : Order) (as' bs x y : List ℕ) → All (λ b. b < 256) as' → All (λ b. b < 256) bs
    → slice_cmp nat_cmp (map (turned d) (text_bytes as') ++ x) (map (turned d) (text_bytes bs) ++ y)
    ≡ ordering_then (in_direction d (slice_cmp nat_cmp as' bs)) (slice_cmp nat_cmp x y)
text_law d [] [] x y ha hb =
    step d 0 0 Equal (slice_cmp nat_cmp x y) _ (omega arith) (omega arith)
    (step d 0 0 Equal (slice_cmp nat_cmp x y) _ (omega arith) (omega arith) (at_end d (slice_cmp nat_cmp x y)))
text_law d [] (zero ∷ bs) x y ha hb =
    step d 0 0 Less (slice_cmp nat_cmp x y) _ (omega arith) (omega arith)
    (decided d 0 1 Less (slice_cmp nat_cmp x y) _ (omega arith) (omega arith) refl (inl refl))
text_law d [] (suc b ∷ bs) x y ha hb =
    decided d 0 (suc b) Less (slice_cmp nat_cmp x y) _ (omega arith) (All-head (λ b. b < 256) (suc b) bs hb) (less 0 (suc b) (omega arith)) (inl refl)
text_law d (zero ∷ as') [] x y ha hb =
    step d 0 0 Greater (slice_cmp nat_cmp x y) _ (omega arith) (omega arith)
    (decided d 1 0 Greater (slice_cmp nat_cmp x y) _ (omega arith) (omega arith) refl (inr refl))
text_law d (suc a ∷ as') [] x y ha hb =
    decided d (suc a) 0 Greater (slice_cmp nat_cmp x y) _ (All-head (λ b. b < 256) (suc a) as' ha) (omega arith) (greater (suc a) 0 (omega arith)) (inr refl)
text_law d (zero ∷ as') (zero ∷ bs) x y ha hb =
    step d 0 0 (slice_cmp nat_cmp as' bs) (slice_cmp nat_cmp x y) _ (omega arith) (omega arith)
    (step d 1 1 (slice_cmp nat_cmp as' bs) (slice_cmp nat_cmp x y) _ (omega arith) (omega arith)
    (text_law d as' bs x y (All-tail (λ b. b < 256) zero as' ha) (All-tail (λ b. b < 256) zero bs hb)))
text_law d (zero ∷ as') (suc b ∷ bs) x y ha hb =
    decided d 0 (suc b) Less (slice_cmp nat_cmp x y) _ (omega arith) (All-head (λ b. b < 256) (suc b) bs hb) (less 0 (suc b) (omega arith)) (inl refl)
    ∙ ap (λ o. ordering_then (in_direction d (ordering_then o (slice_cmp nat_cmp as' bs))) (slice_cmp nat_cmp x y)) (sym (less 0 (suc b) (omega arith)))
text_law d (suc a ∷ as') (zero ∷ bs) x y ha hb =
    decided d (suc a) 0 Greater (slice_cmp nat_cmp x y) _ (All-head (λ b. b < 256) (suc a) as' ha) (omega arith) (greater (suc a) 0 (omega arith)) (inr refl)
    ∙ ap (λ o. ordering_then (in_direction d (ordering_then o (slice_cmp nat_cmp as' bs))) (slice_cmp nat_cmp x y)) (sym (greater (suc a) 0 (omega arith)))
text_law d (suc a ∷ as') (suc b ∷ bs) x y ha hb =
    step d (suc a) (suc b) (slice_cmp nat_cmp as' bs) (slice_cmp nat_cmp x y) _
    (All-head (λ b. b < 256) (suc a) as' ha) (All-head (λ b. b < 256) (suc b) bs hb)
    (text_law d as' bs x y (All-tail (λ b. b < 256) (suc a) as' ha) (All-tail (λ b. b < 256) (suc b) bs hb))

-- digits in a row, as many on both sides, with what follows them
pub digits_law : (d : Order) (as' bs x y : List ℕ) → length as' ≡ length bs → All (λ b. b < 256) as' → All (λ b. b < 256) bs
    → slice_cmp nat_cmp (map (turned d) as' ++ x) (map (turned d) bs ++ y)
    ≡ ordering_then (in_direction d (slice_cmp nat_cmp as' bs)) (slice_cmp nat_cmp x y)
digits_law d [] [] x y l ha hb = at_end d (slice_cmp nat_cmp x y)
digits_law d [] (b ∷ bs) x y l ha hb = absurd (omega arith)
digits_law d (a ∷ as') [] x y l ha hb = absurd (omega arith)
digits_law d (a ∷ as') (b ∷ bs) x y l ha hb =
    step d a b (slice_cmp nat_cmp as' bs) (slice_cmp nat_cmp x y) _
    (All-head (λ b. b < 256) a as' ha) (All-head (λ b. b < 256) b bs hb)
    (digits_law d as' bs x y (omega arith) (All-tail (λ b. b < 256) a as' ha) (All-tail (λ b. b < 256) b bs hb))

-- two digits order as the numbers that they write
pub two_digits : (m n a b : ℕ) → a < 256 → b < 256 → ordering_then (nat_cmp m n) (nat_cmp a b) ≡ nat_cmp (m * 256 + a) (n * 256 + b)
two_digits m n a b ha hb =
    by_ranked (m < n) (m ≡ n) (n < m) (nat_cmp m n) (ranked m n (nat_cmp m n) refl)
    (λ e h. ap (λ o. ordering_then o (nat_cmp a b)) e ∙ sym (less (m * 256 + a) (n * 256 + b) (omega arith)))
    (λ e h. ap (λ o. ordering_then o (nat_cmp a b)) e ∙ nat_cmp_is (m * 256 + a) (n * 256 + b) (nat_cmp a b)
    (by_ranked (a < b) (a ≡ b) (b < a) (nat_cmp a b) (ranked a b (nat_cmp a b) refl)
    (λ f g. let P : Ordering → Type 0 = λ o. MatchOrdering o (m * 256 + a < n * 256 + b) (m * 256 + a ≡ n * 256 + b) (n * 256 + b < m * 256 + a) in subst P (sym f) (omega arith))
    (λ f g. let P : Ordering → Type 0 = λ o. MatchOrdering o (m * 256 + a < n * 256 + b) (m * 256 + a ≡ n * 256 + b) (n * 256 + b < m * 256 + a) in subst P (sym f) (omega arith))
    (λ f g. let P : Ordering → Type 0 = λ o. MatchOrdering o (m * 256 + a < n * 256 + b) (m * 256 + a ≡ n * 256 + b) (n * 256 + b < m * 256 + a) in subst P (sym f) (omega arith))))
    (λ e h. ap (λ o. ordering_then o (nat_cmp a b)) e ∙ sym (greater (m * 256 + a) (n * 256 + b) (omega arith)))

-- ---- what is written at once

pub ascended : (bytes : List ℕ) → map (turned order.Ascend) bytes ≡ bytes
ascended bytes = map-id bytes

second_is_false : (a b : Bool) → (a || b) ≡ false → b ≡ false
second_is_false true b e = absurd (cc)
second_is_false false b e = e

-- a text in which no byte is 0 stands as it is before its end
text_without_zeros : (d : Order) (text : List ℕ) → list_any (λ y. y == 0) text ≡ false → map (turned d) text ++ map (turned d) (0 ∷ 0 ∷ []) ≡ map (turned d) (text_bytes text)
text_without_zeros d [] none = refl
text_without_zeros d (zero ∷ bs) none = absurd (cc)
text_without_zeros d (suc b ∷ bs) none = ap (λ (l : List ℕ). turned d (suc b) ∷ l) (text_without_zeros d bs (second_is_false (suc b == 0) (list_any (λ y. y == 0) bs) none))

-- so it may be written at once, and then its end
pub text_written : (d : Order) (old text made : List ℕ) → list_any (λ y. y == 0) text ≡ false → made ≡ old ++ map (turned d) text
    → made ++ map (turned d) (0 ∷ 0 ∷ []) ≡ old ++ map (turned d) (text_bytes text)
text_written d old text made none is =
    ap (λ (l : List ℕ). l ++ map (turned d) (0 ∷ 0 ∷ [])) is ∙ append_assoc old (map (turned d) text) (map (turned d) (0 ∷ 0 ∷ []))
    ∙ ap (λ (l : List ℕ). old ++ l) (text_without_zeros d text none)
