-- What stands after one call on a card.
use Rattle.std.proofs.Common.{◌≡◌, ℕ, ◌+◌, ◌-◌, ◌≤◌, true, List, ◌∷◌, length, take, drop, Result, Ok, Err, IsOk, is_err, sym, ◌∙◌, ap, subst, arith}
use Rattle.std.proofs.lemmas.Bool.{false≢true}
use Rattle.newt_host.specs.Moments.{Change, Synced, Wrote, On, Moment, overwritten, bytes_after, changes, IsHistory}
use Rattle.newt_host.proofs.Moments.{changes-same}
use Rattle.newt_host.proofs.Ranges.{same-refl, same-is-overwritten}

pub not_both : {T E : Type 0} (r : Result T E) → is_err r ≡ true → IsOk r → ⊥
not_both (Ok x) err ok = false≢true err
not_both (Err e) err ok = false≢true ok

-- a range that is written as it was
pub overwritten-same : (a : List ℕ) (at n : ℕ) → at + n ≤ length a → overwritten a at (take n (drop at a)) ≡ a
overwritten-same a at n fits = sym (same-is-overwritten at n a a fits (same-refl at n a))

pub stands-wrote : (unit at size : ℕ) (reads held next : List ℕ) (m now : Moment) → now ≡ On unit (Wrote at reads) ∷ m → at + length reads ≤ size → overwritten held at reads ≡ next
    → (bytes_after (changes unit m) ≡ held) × IsHistory size (changes unit m) → (bytes_after (changes unit now) ≡ next) × IsHistory size (changes unit now)
stands-wrote unit at size reads held next m now is fits written stood =
    let same : changes unit now ≡ Wrote at reads ∷ changes unit m = ap (λ (k : Moment). changes unit k) is ∙ changes-same unit (Wrote at reads) m in
    (ap bytes_after same ∙ ap (λ (l : List ℕ). overwritten l at reads) stood.0 ∙ written, subst (λ (done : List Change). IsHistory size done) (sym same) (stood.1, fits))

-- the bytes of a range that ends so many bytes on
pub part-same : (at n : ℕ) (a b : List ℕ) → a ≡ b → take ((at + n) - at) (drop at a) ≡ take n (drop at b)
part-same at n a b same =
    let size : (at + n) - at ≡ n = omega arith in
    ap (λ (k : ℕ). take k (drop at a)) size ∙ ap (λ (l : List ℕ). take n (drop at l)) same

pub stands-same : (unit size : ℕ) (held : List ℕ) (m now : Moment) → now ≡ m → (bytes_after (changes unit m) ≡ held) × IsHistory size (changes unit m) → (bytes_after (changes unit now) ≡ held) × IsHistory size (changes unit now)
stands-same unit size held m now is stood = subst (λ (k : Moment). (bytes_after (changes unit k) ≡ held) × IsHistory size (changes unit k)) (sym is) stood

pub stands-synced : (unit size : ℕ) (held : List ℕ) (m now : Moment) → now ≡ On unit Synced ∷ m → (bytes_after (changes unit m) ≡ held) × IsHistory size (changes unit m)
    → (bytes_after (changes unit now) ≡ held) × IsHistory size (changes unit now)
stands-synced unit size held m now is stood =
    let same : changes unit now ≡ Synced ∷ changes unit m = ap (λ (k : Moment). changes unit k) is ∙ changes-same unit Synced m in
    (ap bytes_after same ∙ stood.0, subst (λ (done : List Change). IsHistory size done) (sym same) stood.1)
