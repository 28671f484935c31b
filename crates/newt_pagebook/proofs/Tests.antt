-- Small facts on tests and options.
use Rattle.std.proofs.Common.{◌≡◌, ◌⊎◌, inl, inr, ℕ, ◌==◌, Bool, true, false, ◌||◌, Option, Some, None, refl, sym, ◌∙◌, ap, arith, ⊎_elim}
use Rattle.std.specs.declared.cmp.Ordering.{Ordering}
use Rattle.std.specs.declared.cmp.Ordering.TheVariants.{Less, Equal, Greater}
use Rattle.std.specs.Option.{is_some}
use Rattle.std.specs.Ordering.{nat_cmp, is_eq}
use Rattle.std.specs.Cmp.{nat_cmp_total, tied_itself}
use Rattle.std.proofs.lemmas.Bool.{cases_eq}
use Rattle.std.proofs.lemmas.Bool.Decides.{nat_tests}
use Rattle.std.proofs.lemmas.Map.Lookups.{exact_unsigned}

pub true_or_false : (b : Bool) → (b ≡ true) ⊎ (b ≡ false)
true_or_false true = inl refl
true_or_false false = inr refl

pub the_some : {A : Type 0} (r : Option A) → is_some r ≡ true → (x : A) × (r ≡ Some x)
the_some None e = absurd (cc)
the_some (Some x) e = (x, refl)

pub none_is : {A : Type 0} (r : Option A) → is_some r ≡ false → r ≡ None
none_is None e = refl
none_is (Some x) e = absurd (cc)

pub some_inj : {A : Type 0} (x y : A) → Some x ≡ Some y → x ≡ y
some_inj x y e = cc

pub is_equal : (r : Ordering) → is_eq r ≡ true → r ≡ Equal
is_equal Less e = cc
is_equal Equal e = refl
is_equal Greater e = cc

pub neither : (a b : Bool) → (a || b) ≡ false → (a ≡ false) × (b ≡ false)
neither true b e = absurd (cc)
neither false true e = absurd (cc)
neither false false e = (refl, refl)

pub equal_true : (q n : ℕ) → q ≡ n → (q == n) ≡ true
equal_true q n e = grind (arith, nat_tests)

pub equal_false : (q n : ℕ) → (q ≡ n → ⊥) → (q == n) ≡ false
equal_false q n ne = grind (arith, nat_tests)

pub is_same : (q n : ℕ) → (q == n) ≡ true → q ≡ n
is_same q n e = grind (arith, nat_tests)

-- the test of the map's order is equality
pub same_test : (q n : ℕ) → is_eq (nat_cmp q n) ≡ (q == n)
same_test q n = ⊎_elim
    (λ (e : q ≡ n). ap (λ (k : ℕ). is_eq (nat_cmp q k)) (sym e) ∙ ap is_eq (tied_itself nat_cmp_total q) ∙ sym (equal_true q n e))
    (λ (ne : q ≡ n → ⊥). ⊎_elim
    (λ (t : is_eq (nat_cmp q n) ≡ true). absurd (ne (exact_unsigned q n (is_equal _ t))))
    (λ (f : is_eq (nat_cmp q n) ≡ false). f ∙ sym (equal_false q n ne))
    (true_or_false (is_eq (nat_cmp q n))))
    (cases_eq q n)
