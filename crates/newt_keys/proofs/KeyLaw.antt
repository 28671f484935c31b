-- The bytes of keys order as the keys.
use Rattle.std.proofs.Common.{◌≡◌, ℕ, ◌+◌, ◌*◌, ◌/◌, ◌%◌, ◌^◌, ◌<◌, List, [], ◌∷◌, ◌++◌, refl, sym, ◌∙◌, ap, subst, arith, ℤ, pos, negsuc, ◌<ℤ◌, append_assoc, append-nil}
use Rattle.std.proofs.lemmas.List.Elements.{All-cons, All-nil}
use Rattle.std.proofs.lemmas.Int.{ints}
use Rattle.std.specs.Int.{w32}
use Rattle.std.specs.Prelude.{FitsSigned}
use Rattle.std.specs.List.{All}
use Rattle.std.specs.declared.cmp.Ordering.{Ordering}
use Rattle.std.specs.declared.cmp.Ordering.TheVariants.{Less, Equal, Greater}
use Rattle.std.specs.Ordering.{nat_cmp, int_cmp, ordering_then, MatchOrdering}
use Rattle.std.specs.Cmp.{nat_cmp_is}
use Rattle.std.specs.Cmp.Lexicographic.{slice_cmp}
use Rattle.std.proofs.lemmas.Cmp.{int_ranked, by_ranked}
use Rattle.newt_base.specs.Text.{be16, be32}
use Rattle.newt_spec_store.specs.Keys.{Key, IndexSpec, Part, missing, words, whole, letter, name, in_direction, part_cmp, key_cmp}
use Rattle.newt_spec_store.specs.declared.Kind.{Kind}
use Rattle.newt_spec_store.specs.declared.Kind.TheVariants as kind
use Rattle.newt_spec_store.specs.declared.Order.{Order}
use Rattle.newt_spec_query.proofs.Order.{then-equal}
use Rattle.newt_keys.specs.KeyForm.{IsPartOf, AreParts, IsKeyOf, place_of, part_bytes, key_bytes}
use Rattle.newt_keys.proofs.Turned.{then_then, text_law, digits_law, two_digits}

-- ---- numbers

both : (a b m n : ℕ) → a ≡ m → b ≡ n → nat_cmp a b ≡ nat_cmp m n
both a b m n e f i = nat_cmp (e i) (f i)

be16_cmp : (m n : ℕ) → m < 2 ^ 16 → n < 2 ^ 16 → slice_cmp nat_cmp (be16 m) (be16 n) ≡ nat_cmp m n
be16_cmp m n hm hn =
    ap (λ o. ordering_then (nat_cmp (m / 256 % 256) (n / 256 % 256)) o) (then-equal (nat_cmp (m % 256) (n % 256)))
    ∙ two_digits (m / 256 % 256) (n / 256 % 256) (m % 256) (n % 256) (omega arith) (omega arith)
    ∙ both (m / 256 % 256 * 256 + m % 256) (n / 256 % 256 * 256 + n % 256) m n (omega arith) (omega arith)

four : (a b c e : Ordering) → ordering_then a (ordering_then b (ordering_then c (ordering_then e Equal))) ≡ ordering_then (ordering_then (ordering_then a b) c) e
four Less b c e = refl
four Greater b c e = refl
four Equal Less c e = refl
four Equal Greater c e = refl
four Equal Equal Less e = refl
four Equal Equal Greater e = refl
four Equal Equal Equal e = then-equal e

joined : ℕ → ℕ
joined n = ((n / 2 ^ 16 / 256 % 256 * 256 + n / 2 ^ 16 % 256) * 256 + n / 256 % 256) * 256 + n % 256

joined_is : (n : ℕ) → n < 2 ^ 32 → joined n ≡ n
unfolding joined
joined_is n h = omega arith

be32_cmp : (m n : ℕ) → m < 2 ^ 32 → n < 2 ^ 32 → slice_cmp nat_cmp (be32 m) (be32 n) ≡ nat_cmp m n
unfolding joined
be32_cmp m n hm hn =
    let c1 = nat_cmp (m / 2 ^ 16 / 256 % 256) (n / 2 ^ 16 / 256 % 256) in
    let c2 = nat_cmp (m / 2 ^ 16 % 256) (n / 2 ^ 16 % 256) in
    let c3 = nat_cmp (m / 256 % 256) (n / 256 % 256) in
    let c4 = nat_cmp (m % 256) (n % 256) in
    four c1 c2 c3 c4
    ∙ ap (λ o. ordering_then (ordering_then o c3) c4) (two_digits (m / 2 ^ 16 / 256 % 256) (n / 2 ^ 16 / 256 % 256) (m / 2 ^ 16 % 256) (n / 2 ^ 16 % 256) (omega arith) (omega arith))
    ∙ ap (λ o. ordering_then o c4) (two_digits (m / 2 ^ 16 / 256 % 256 * 256 + m / 2 ^ 16 % 256) (n / 2 ^ 16 / 256 % 256 * 256 + n / 2 ^ 16 % 256) (m / 256 % 256) (n / 256 % 256) (omega arith) (omega arith))
    ∙ two_digits ((m / 2 ^ 16 / 256 % 256 * 256 + m / 2 ^ 16 % 256) * 256 + m / 256 % 256) ((n / 2 ^ 16 / 256 % 256 * 256 + n / 2 ^ 16 % 256) * 256 + n / 256 % 256) (m % 256) (n % 256) (omega arith) (omega arith)
    ∙ both (joined m) (joined n) m n (joined_is m hm) (joined_is n hn)

are16 : (n : ℕ) → All (λ b. b < 256) (be16 n)
are16 n = All-cons (λ b. b < 256) (n / 256 % 256) (n % 256 ∷ []) (omega arith) (All-cons (λ b. b < 256) (n % 256) [] (omega arith) (All-nil (λ b. b < 256)))

are32 : (n : ℕ) → All (λ b. b < 256) (be32 n)
are32 n = All-cons (λ b. b < 256) (n / 2 ^ 16 / 256 % 256) (n / 2 ^ 16 % 256 ∷ be16 n) (omega arith) (All-cons (λ b. b < 256) (n / 2 ^ 16 % 256) (be16 n) (omega arith) (are16 n))

place_fits : (z : ℤ) → FitsSigned w32 z → place_of z < 2 ^ 32
place_fits (pos n) h = omega (arith, ints)
place_fits (negsuc n) h = omega (arith, ints)

places_less : (a b : ℤ) → FitsSigned w32 a → FitsSigned w32 b → a <ℤ b → place_of a < place_of b
places_less (pos m) (pos n) ha hb h = omega (arith, ints)
places_less (pos m) (negsuc n) ha hb h = omega (arith, ints)
places_less (negsuc m) (pos n) ha hb h = omega (arith, ints)
places_less (negsuc m) (negsuc n) ha hb h = omega (arith, ints)

place_cmp : (a b : ℤ) → FitsSigned w32 a → FitsSigned w32 b → nat_cmp (place_of a) (place_of b) ≡ int_cmp a b
place_cmp a b ha hb =
    sym (nat_cmp_is (place_of a) (place_of b) (int_cmp a b)
    (by_ranked (a <ℤ b) (a ≡ b) (b <ℤ a) (int_cmp a b) (int_ranked a b (int_cmp a b) refl)
    (λ e h. let P : Ordering → Type 0 = λ o. MatchOrdering o (place_of a < place_of b) (place_of a ≡ place_of b) (place_of b < place_of a) in subst P (sym e) (places_less a b ha hb h))
    (λ e h. let P : Ordering → Type 0 = λ o. MatchOrdering o (place_of a < place_of b) (place_of a ≡ place_of b) (place_of b < place_of a) in subst P (sym e) (ap place_of h))
    (λ e h. let P : Ordering → Type 0 = λ o. MatchOrdering o (place_of a < place_of b) (place_of a ≡ place_of b) (place_of b < place_of a) in subst P (sym e) (places_less b a hb ha h))))

-- ---- parts and keys

pub part_law : (d : Order) (k : Kind) (a b : Part) (x y : List ℕ) → IsPartOf k a → IsPartOf k b
    → slice_cmp nat_cmp (part_bytes d a ++ x) (part_bytes d b ++ y) ≡ ordering_then (part_cmp d a b) (slice_cmp nat_cmp x y)
part_law d kind.Text (words a) (words b) x y ha hb = text_law d a b x y ha hb
part_law d kind.Symbol (name a) (name b) x y ha hb = text_law d a b x y ha hb
part_law d kind.Int (whole a) (whole b) x y ha hb =
    digits_law d (be32 (place_of a)) (be32 (place_of b)) x y refl (are32 (place_of a)) (are32 (place_of b))
    ∙ ap (λ o. ordering_then (in_direction d o) (slice_cmp nat_cmp x y))
    (be32_cmp (place_of a) (place_of b) (place_fits a ha) (place_fits b hb) ∙ place_cmp a b ha hb)
part_law d kind.Char (letter a) (letter b) x y ha hb =
    digits_law d (be16 a) (be16 b) x y refl (are16 a) (are16 b)
    ∙ ap (λ o. ordering_then (in_direction d o) (slice_cmp nat_cmp x y)) (be16_cmp a b ha hb)
part_law d k missing missing x y ha hb = refl
part_law d k missing (words b) x y ha hb = refl
part_law d k missing (whole b) x y ha hb = refl
part_law d k missing (letter b) x y ha hb = refl
part_law d k missing (name b) x y ha hb = refl
part_law d k (words a) missing x y ha hb = refl
part_law d k (whole a) missing x y ha hb = refl
part_law d k (letter a) missing x y ha hb = refl
part_law d k (name a) missing x y ha hb = refl
part_law d k a b x y ha hb = absurd (assumption)

pub key_law : (spec : IndexSpec) (a b : Key) (x y : List ℕ) → AreParts spec a → AreParts spec b
    → slice_cmp nat_cmp (key_bytes spec a ++ x) (key_bytes spec b ++ y) ≡ ordering_then (key_cmp spec a b) (slice_cmp nat_cmp x y)
key_law [] [] [] x y ha hb = refl
key_law [] [] (b ∷ bs) x y ha hb = absurd hb
key_law [] (a ∷ as') b x y ha hb = absurd ha
key_law (p ∷ ps) [] b x y ha hb = absurd ha
key_law (p ∷ ps) (a ∷ as') [] x y ha hb = absurd hb
key_law (p ∷ ps) (a ∷ as') (b ∷ bs) x y ha hb =
    (λ i. slice_cmp nat_cmp (append_assoc (part_bytes p.direction a) (key_bytes ps as') x i) (append_assoc (part_bytes p.direction b) (key_bytes ps bs) y i))
    ∙ part_law p.direction p.kind a b (key_bytes ps as' ++ x) (key_bytes ps bs ++ y) ha.0 hb.0
    ∙ ap (ordering_then (part_cmp p.direction a b)) (key_law ps as' bs x y ha.1 hb.1)
    ∙ sym (then_then (part_cmp p.direction a b) (key_cmp ps as' bs) (slice_cmp nat_cmp x y))

-- the bytes of two keys order as the keys
pub bytes_order : (spec : IndexSpec) (a b : Key) → IsKeyOf spec a → IsKeyOf spec b
    → slice_cmp nat_cmp (key_bytes spec a) (key_bytes spec b) ≡ key_cmp spec a b
bytes_order spec a b ha hb =
    (λ i. slice_cmp nat_cmp (sym (append-nil (key_bytes spec a)) i) (sym (append-nil (key_bytes spec b)) i))
    ∙ key_law spec a b [] [] ha.0 hb.0
    ∙ then-equal (key_cmp spec a b)
