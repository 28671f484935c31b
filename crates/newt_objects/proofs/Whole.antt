-- The pages of an image have 512 bytes each.
use Rattle.std.proofs.Common.{◌≡◌, ℕ, zero, suc, ◌+◌, ◌*◌, ◌≤◌, ◌==◌, ◌&&◌, Bool, true, false, cond, if◌then◌else◌, List, [], ◌∷◌, length, take, drop, Option, Some, None, refl, sym, ◌∙◌, ap, subst, arith, ⊎_elim, length-take, length-drop}
use Rattle.std.specs.List.{All}
use Rattle.std.specs.Ordering.{nat_cmp}
use Rattle.std.specs.FinMap as map
use Rattle.std.proofs.lemmas.List.Elements.{All-cons, All-head, All-tail}
use Rattle.newt_spec_image.specs.Records.{and_then, records}
use Rattle.newt_spec_image.specs.Pages.{Pages, Put, Change, short_at, word_at, said_by, is_change, change_in, puts_from, with_puts, without_numbers, after, pages_after, pages}
use Rattle.newt_pagebook.proofs.Tests.{some_inj, true_or_false, is_same}
use Rattle.newt_pagebook.proofs.Changes.{get_insert, get_remove}
use Rattle.newt_objects.specs.Changing.{AreWhole}

abbrev IsWhole : Put → Type 0
IsWhole put = length put.1 ≡ 512

whole_insert : (m : Pages) (n : ℕ) (page : List ℕ) → length page ≡ 512 → AreWhole m → AreWhole (map.insert m n page)
whole_insert m n page size whole q p e = cases (q == n) (map.get m q) (sym (get_insert m n page q) ∙ e) (whole q) where
  cases : (b : Bool) (o : Option (List ℕ)) → cond b (Some page) o ≡ Some p → ((p : List ℕ) → o ≡ Some p → length p ≡ 512) → length p ≡ 512
  cases true o e w = subst (λ (l : List ℕ). length l ≡ 512) (some_inj page p e) size
  cases false o e w = w p e

whole_remove : (m : Pages) (n : ℕ) → AreWhole m → AreWhole (map.remove m n)
whole_remove m n whole q p e = cases (q == n) (map.get m q) (sym (get_remove m n q) ∙ e) (whole q) where
  cases : (b : Bool) (o : Option (List ℕ)) → cond b None o ≡ Some p → ((p : List ℕ) → o ≡ Some p → length p ≡ 512) → length p ≡ 512
  cases true o e w = absurd (cc)
  cases false o e w = w p e

whole_puts : (puts : List Put) (m : Pages) → All IsWhole puts → AreWhole m → AreWhole (with_puts puts m)
whole_puts [] m all whole = whole
whole_puts (p ∷ puts) m all whole = whole_puts puts (map.insert m p.0 p.1) (All-tail IsWhole p puts all) (whole_insert m p.0 p.1 (All-head IsWhole p puts all) whole)

whole_deletes : (ns : List ℕ) (m : Pages) → AreWhole m → AreWhole (without_numbers ns m)
whole_deletes [] m whole = whole
whole_deletes (n ∷ ns) m whole = whole_deletes ns (map.remove m n) (whole_remove m n whole)

-- whole pages are whole after a change that puts whole ones
pub whole_after : (change : Change) (live : Pages) → All (λ put. length put.1 ≡ 512) change.puts → AreWhole live → AreWhole (after change live)
whole_after change live all whole = whole_deletes change.deletes (with_puts change.puts live) (whole_puts change.puts live all whole)

puts_whole : (n : ℕ) (bytes : List ℕ) → 516 * n ≤ length bytes → All IsWhole (puts_from n bytes)
puts_whole zero bytes low = λ k d below. absurd (omega (arith, below))
puts_whole (suc n) bytes low = All-cons IsWhole (word_at 0 bytes, take 512 (drop 4 bytes)) (puts_from n (drop 516 bytes))
    (omega (arith, low, length-take 512 (drop 4 bytes), length-drop 4 bytes))
    (puts_whole n (drop 516 bytes) (omega (arith, low, length-drop 516 bytes)))

first_of : (a b : Bool) → (a && b) ≡ true → a ≡ true
first_of true b e = refl
first_of false b e = absurd (cc)

said_whole : (payload : List ℕ) → is_change payload ≡ true → All IsWhole (said_by payload).puts
said_whole payload is =
    let size : length payload ≡ 4 + 516 * short_at 0 payload + 4 * short_at 2 payload = is_same _ _ (first_of _ _ is) in
    puts_whole (short_at 0 payload) (drop 4 payload) (omega (arith, size, length-drop 4 payload))

payloads_whole : (payloads : List (List ℕ)) (m live : Pages) → AreWhole m → pages_after payloads m ≡ Some live → AreWhole live
payloads_whole [] m live whole e = subst AreWhole (some_inj m live e) whole
payloads_whole (payload ∷ payloads) m live whole e = ⊎_elim
    (λ (t : is_change payload ≡ true).
    let said : change_in payload ≡ Some (said_by payload) = ap (λ (b : Bool). if b then Some (said_by payload) else None) t in
    payloads_whole payloads (after (said_by payload) m) live (whole_after (said_by payload) m (said_whole payload t) whole)
    (sym (ap (λ (o : Option Change). and_then o (λ change. pages_after payloads (after change m))) said) ∙ e))
    (λ (f : is_change payload ≡ false).
    let none : change_in payload ≡ None = ap (λ (b : Bool). if b then Some (said_by payload) else None) f in
    absurd (let n = sym (ap (λ (o : Option Change). and_then o (λ change. pages_after payloads (after change m))) none) ∙ e in cc))
    (true_or_false (is_change payload))

pub image_whole : (image : List ℕ) (live : Pages) → pages image ≡ Some live → AreWhole live
image_whole image live e = cases (records image) e where
  cases : (o : Option (List (List ℕ))) → and_then o (λ payloads. pages_after payloads map.empty) ≡ Some live → AreWhole live
  cases None e = absurd (cc)
  cases (Some payloads) e = payloads_whole payloads map.empty live (λ q p f. absurd (let n = sym (map.get-empty nat_cmp q) ∙ f in cc)) e
