-- What three votes choose while one that differs is rewritten.
use Rattle.std.proofs.Common.{◌≡◌, ◌≢◌, ℕ, zero, suc, ◌≤◌, Some, arith}
use Rattle.std.proofs.lemmas.Bool.Decides.{nat_tests}
use Rattle.newt_spec_image.specs.Records.{chosen}

-- where the second or the third vote is not for the chosen bank, the first one is
pub first_if_second : (a b c k : ℕ) → chosen a b c ≡ Some k → b ≢ k → a ≡ k
first_if_second a b c k is differ = grind (arith, nat_tests, is, differ)

pub first_if_third : (a b c k : ℕ) → chosen a b c ≡ Some k → c ≢ k → a ≡ k
first_if_third a b c k is differ = grind (arith, nat_tests, is, differ)

-- where the third vote is for the other bank, the second is not
pub not_both : (a b c k other : ℕ) → chosen a b c ≡ Some k → other ≤ 1 → other ≢ k → c ≡ other → b ≢ other
not_both a b c k other is small differ third second = grind (arith, nat_tests, is, small, differ, third, second)

-- the third one is torn
pub third_torn : (k b x other : ℕ) → k ≤ 1 → other ≤ 1 → other ≢ k → b ≢ other → chosen k b x ≡ Some k
third_torn zero b x other small other_small differ second = grind (arith, nat_tests, other_small, differ, second)
third_torn (suc zero) b x other small other_small differ second = grind (arith, nat_tests, other_small, differ, second)
third_torn (suc (suc n)) b x other small other_small differ second = absurd (omega arith)

-- the second one is torn
pub second_torn : (k x c other : ℕ) → k ≤ 1 → other ≤ 1 → other ≢ k → c ≢ other → chosen k x c ≡ Some k
second_torn zero x c other small other_small differ third = grind (arith, nat_tests, other_small, differ, third)
second_torn (suc zero) x c other small other_small differ third = grind (arith, nat_tests, other_small, differ, third)
second_torn (suc (suc n)) x c other small other_small differ third = absurd (omega arith)
