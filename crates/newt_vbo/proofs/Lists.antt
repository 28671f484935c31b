-- Ranges of joined lists, and bytes that are replaced in them.
use Rattle.std.proofs.Common.{◌≡◌, ℕ, zero, suc, ◌+◌, ◌-◌, ◌*◌, ◌≤◌, List, [], ◌∷◌, ◌++◌, length, take, drop, slice_get, Some, refl, sym, ◌∙◌, ap, arith, append_assoc, length-append, length-drop, length-take, take-append-drop}
use Rattle.std.specs.List.{flat_map}
use Rattle.std.proofs.lemmas.List.{append-nil, take_at, drop_at, take-take, take-append-le, drop-append-le, drop-drop, drop-take}
use Rattle.std.proofs.Math.Seq.{take-add}
use Rattle.newt_host.specs.Moments.{overwritten, bytes_from}
use Rattle.newt_host.proofs.Ranges.{length-overwritten}
use Rattle.newt_pagebook.proofs.Tests.{some_inj}

pub range_more : (at a c : ℕ) (l : List ℕ) → bytes_from at (a + c) l ≡ bytes_from at a l ++ bytes_from (at + a) c l
range_more at a c l = take-add a c (drop at l) ∙ ap (λ (m : List ℕ). take a (drop at l) ++ take c m) (drop-drop a at l)

-- a range of the first bytes
pub range_cut : (at c n : ℕ) (l : List ℕ) → at + c ≤ n → bytes_from at c (take n l) ≡ bytes_from at c l
range_cut at c n l fits =
    let e : n ≡ at + (n - at) = omega arith in
    ap (λ (k : ℕ). take c (drop at (take k l))) e ∙ ap (λ (m : List ℕ). take c m) (drop-take at (n - at) l) ∙ take-take c (n - at) (drop at l) (omega arith)

range_left : (a b : List ℕ) (s c : ℕ) → s + c ≤ length a → bytes_from s c (a ++ b) ≡ bytes_from s c a
range_left a b s c fits =
    ap (λ (m : List ℕ). take c m) (drop-append-le s a b (omega arith)) ∙ take-append-le c (drop s a) b (omega (arith, fits, length-drop s a))

range_right : (a b : List ℕ) (q p c : ℕ) → q ≡ length a + p → bytes_from q c (a ++ b) ≡ bytes_from p c b
range_right a b q p c e =
    ap (λ (k : ℕ). take c (drop k (a ++ b))) e ∙ ap (λ (m : List ℕ). take c m) (sym (drop-drop p (length a) (a ++ b)) ∙ ap (λ (m : List ℕ). drop p m) (drop_at a b (length a) refl))

-- a range that lies in one of parts of 500 bytes
pub range_in_part : (d : ℕ → List ℕ) (ns : List ℕ) (k s c n : ℕ) → ((j m : ℕ) → slice_get ns j ≡ Some m → length (d m) ≡ 500) → slice_get ns k ≡ Some n → s + c ≤ 500
    → bytes_from (500 * k + s) c (flat_map d ns) ≡ bytes_from s c (d n)
range_in_part d [] k s c n sizes at fits = absurd (cc)
range_in_part d (m ∷ ns) zero s c n sizes at fits =
    let same : m ≡ n = some_inj m n at in
    let e : 500 * 0 + s ≡ s = omega arith in
    ap (λ (k : ℕ). bytes_from k c (d m ++ flat_map d ns)) e
    ∙ range_left (d m) (flat_map d ns) s c (omega (arith, fits, sizes zero m refl))
    ∙ ap (λ (i : ℕ). bytes_from s c (d i)) same
range_in_part d (m ∷ ns) (suc k) s c n sizes at fits =
    range_right (d m) (flat_map d ns) (500 * suc k + s) (500 * k + s) c (omega (arith, sizes zero m refl))
    ∙ range_in_part d ns k s c n (λ j i e. sizes (suc j) i e) at fits

overwritten_left : (a b : List ℕ) (p : ℕ) (new : List ℕ) → p + length new ≤ length a → overwritten (a ++ b) p new ≡ overwritten a p new ++ b
overwritten_left a b p new fits =
    ap (λ (l : List ℕ). l ++ new ++ drop (p + length new) (a ++ b)) (take-append-le p a b (omega arith))
    ∙ ap (λ (l : List ℕ). take p a ++ new ++ l) (drop-append-le (p + length new) a b fits)
    ∙ sym (append_assoc (take p a ++ new) (drop (p + length new) a) b)

pub overwritten_right : (a b : List ℕ) (p q : ℕ) (new : List ℕ) → q ≡ length a + p → overwritten (a ++ b) q new ≡ a ++ overwritten b p new
overwritten_right a b p q new e =
    let front : take q (a ++ b) ≡ a ++ take p b = ap (λ (k : ℕ). take k (a ++ b)) e ∙ take-add (length a) p (a ++ b)
    ∙ ap (λ (l : List ℕ). l ++ take p (drop (length a) (a ++ b))) (take_at a b (length a) refl)
    ∙ ap (λ (l : List ℕ). a ++ take p l) (drop_at a b (length a) refl) in
    let end : q + length new ≡ length a + (p + length new) = omega arith in
    let back : drop (q + length new) (a ++ b) ≡ drop (p + length new) b = ap (λ (k : ℕ). drop k (a ++ b)) end ∙ sym (drop-drop (p + length new) (length a) (a ++ b))
    ∙ ap (λ (l : List ℕ). drop (p + length new) l) (drop_at a b (length a) refl) in
    ap (λ (l : List ℕ). l ++ new ++ drop (q + length new) (a ++ b)) front
    ∙ ap (λ (l : List ℕ). a ++ take p b ++ new ++ l) back
    ∙ ap (λ (l : List ℕ). l ++ drop (p + length new) b) (append_assoc a (take p b) new)
    ∙ append_assoc a (take p b ++ new) (drop (p + length new) b)

same_parts : (d d' : ℕ → List ℕ) (ns : List ℕ) → ((j m : ℕ) → slice_get ns j ≡ Some m → d' m ≡ d m) → flat_map d' ns ≡ flat_map d ns
same_parts d d' [] same = refl
same_parts d d' (m ∷ ns) same = ap (λ (l : List ℕ). l ++ flat_map d' ns) (same zero m refl) ∙ ap (λ (l : List ℕ). d m ++ l) (same_parts d d' ns (λ j i e. same (suc j) i e))

not_zero : (j : ℕ) → suc j ≡ zero → ⊥
not_zero j e = omega (arith, e)

not_next : (k : ℕ) → zero ≡ suc k → ⊥
not_next k e = omega (arith, e)

not_suc : (j k : ℕ) → (j ≡ k → ⊥) → suc j ≡ suc k → ⊥
not_suc j k ne e = ne (omega (arith, e))

-- bytes of one of parts of 500 bytes are replaced
pub overwritten_part : (d d' : ℕ → List ℕ) (ns : List ℕ) (k s n : ℕ) (new : List ℕ) → ((j m : ℕ) → slice_get ns j ≡ Some m → length (d m) ≡ 500) → slice_get ns k ≡ Some n → s + length new ≤ 500
    → d' n ≡ overwritten (d n) s new → ((j m : ℕ) → slice_get ns j ≡ Some m → (j ≡ k → ⊥) → d' m ≡ d m) → flat_map d' ns ≡ overwritten (flat_map d ns) (500 * k + s) new
overwritten_part d d' [] k s n new sizes at fits here others = absurd (cc)
overwritten_part d d' (m ∷ ns) zero s n new sizes at fits here others =
    let same : m ≡ n = some_inj m n at in
    let e : s ≡ 500 * 0 + s = omega arith in
    ap (λ (l : List ℕ). d' m ++ l) (same_parts d d' ns (λ j i f. others (suc j) i f (not_zero j)))
    ∙ ap (λ (l : List ℕ). l ++ flat_map d ns) (ap d' same ∙ here ∙ ap (λ (i : ℕ). overwritten (d i) s new) (sym same))
    ∙ sym (overwritten_left (d m) (flat_map d ns) s new (omega (arith, fits, sizes zero m refl)))
    ∙ ap (λ (k : ℕ). overwritten (d m ++ flat_map d ns) k new) e
overwritten_part d d' (m ∷ ns) (suc k) s n new sizes at fits here others =
    ap (λ (l : List ℕ). l ++ flat_map d' ns) (others zero m refl (not_next k))
    ∙ ap (λ (l : List ℕ). d m ++ l) (overwritten_part d d' ns k s n new (λ j i e. sizes (suc j) i e) at fits here (λ j i e ne. others (suc j) i e (not_suc j k ne)))
    ∙ sym (overwritten_right (d m) (flat_map d ns) (500 * k + s) (500 * suc k + s) new (omega (arith, sizes zero m refl)))

-- bytes are replaced in the first ones
pub overwritten_cut : (l : List ℕ) (n p : ℕ) (new : List ℕ) → p + length new ≤ n → n ≤ length l → take n (overwritten l p new) ≡ overwritten (take n l) p new
overwritten_cut l n p new fits low =
    let size : length (take n l) ≡ n = omega (arith, low, length-take n l) in
    ap (λ (m : List ℕ). take n (overwritten m p new)) (sym (take-append-drop n l))
    ∙ ap (λ (m : List ℕ). take n m) (overwritten_left (take n l) (drop n l) p new (omega (arith, fits, size)))
    ∙ take_at (overwritten (take n l) p new) (drop n l) n (length-overwritten (take n l) p new (omega (arith, fits, size)) ∙ size)

-- and more of them after those that were replaced
pub overwritten_more : (l : List ℕ) (p : ℕ) (a b : List ℕ) → p ≤ length l → overwritten (overwritten l p a) (p + length a) b ≡ overwritten l p (a ++ b)
overwritten_more l p a b low =
    let front : List ℕ = take p l ++ a in
    let rest : List ℕ = drop (p + length a) l in
    let size : length front ≡ p + length a = omega (arith, low, length-append (take p l) a, length-take p l) in
    let end : p + length a + length b ≡ p + length (a ++ b) = omega (arith, length-append a b) in
    let none : 0 + length b ≡ length b = omega arith in
    let here : overwritten rest 0 b ≡ b ++ drop (length b) rest = ap (λ (k : ℕ). b ++ drop k rest) none in
    let later : drop (length b) rest ≡ drop (p + length (a ++ b)) l = drop-drop (length b) (p + length a) l ∙ ap (λ (k : ℕ). drop k l) end in
    overwritten_right front rest 0 (p + length a) b (omega (arith, size))
    ∙ ap (λ (m : List ℕ). front ++ m) (here ∙ ap (λ (m : List ℕ). b ++ m) later)
    ∙ sym (append_assoc front b (drop (p + length (a ++ b)) l))
    ∙ ap (λ (m : List ℕ). m ++ drop (p + length (a ++ b)) l) (append_assoc (take p l) a b)

pub overwritten_none : (l : List ℕ) (p : ℕ) → overwritten l p [] ≡ l
overwritten_none l p =
    let e : p + 0 ≡ p = omega arith in
    ap (λ (m : List ℕ). m ++ drop (p + 0) l) (append-nil (take p l)) ∙ ap (λ (k : ℕ). take p l ++ drop k l) e ∙ take-append-drop p l
