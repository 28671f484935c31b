-- As many numbers as are live leave none that was not read.
use Rattle.std.proofs.Common.{◌≡◌, ℕ, zero, suc, ◌<◌, ◌≤◌, Bool, true, List, ◌∷◌, map as list_map, length, slice_get, Option, Some, None, refl, sym, ◌∙◌, ap, arith, subst, ⊎_elim}
use Rattle.std.specs.Option.{option_map, is_some}
use Rattle.std.specs.FinMap as map
use Rattle.std.specs.FinSet as set
use Rattle.std.proofs.lemmas.Bool.{cases_lt, cases_eq}
use Rattle.std.proofs.lemmas.List.{length-map}
use Rattle.std.proofs.lemmas.Option.{slice_get-map}
use Rattle.newt_pagebook.specs.Book.{Numbers, IsNext}
use Rattle.newt_pagebook.proofs.Tests.{some_inj}
use Rattle.newt_objects.specs.declared.header.Header.{Header}
use Rattle.newt_objects.specs.Unread.{AreSomeBelow}
use Rattle.newt_objects.proofs.Counting.{len_without}
use Rattle.newt_objects.proofs.Scanning.{ScannedTo}

-- a set has as many members as stand here, each once, and more where there is another
module _ (from : ℕ) (numbers : Numbers) (read : List ℕ) (some : AreSomeBelow from numbers read) (q : ℕ) (high : from ≤ q) (live : set.contains numbers q ≡ true) where
  there : (k n : ℕ) → slice_get (q ∷ read) k ≡ Some n → set.contains numbers n ≡ true
  there zero n e = ap (set.contains numbers) (sym (some_inj q n e)) ∙ live
  there (suc k) n e = some.live k n e

  -- the other is none of them
  new : (k n : ℕ) → slice_get read k ≡ Some n → q ≡ n → ⊥
  new k n e is = let low : n < from = some.below k n e in omega (arith, is, high, low)

  once : (k l n : ℕ) → slice_get (q ∷ read) k ≡ Some n → slice_get (q ∷ read) l ≡ Some n → k ≡ l
  once zero zero n e f = refl
  once zero (suc l) n e f = absurd (new l n f (some_inj q n e))
  once (suc k) zero n e f = absurd (new k n e (some_inj q n f))
  once (suc k) (suc l) n e f = ap suc (some.once k l n e f)

  more_live : length read < set.len numbers
  more_live = omega (arith, len_without (q ∷ read) numbers there once)

-- where as many were read there is no next one
pub none_unread : (from count : ℕ) (numbers : Numbers) (read : List ℕ) → set.len numbers ≤ count → AreSomeBelow from numbers read → length read ≡ count → IsNext numbers from None
none_unread from count numbers read enough some size = record {
  found = λ n e. absurd (cc);
  small = λ n e. absurd (cc);
  least = λ n k e. absurd (cc);
  none = λ q e high live. (let more : length read < set.len numbers = more_live from numbers read some q high live in omega arith);
}

-- the numbers of headers
header_at : (o : Option Header) (number : ℕ) → option_map (λ h. h.number) o ≡ Some number → (h : Header) × (o ≡ Some h) × (h.number ≡ number)
header_at None number e = absurd (cc)
header_at (Some h) number e = (h, refl, some_inj h.number number e)

pub numbers_read : (told : Bool) (numbers : Numbers) (image : List ℕ) (from : ℕ) (hs : List Header) → ScannedTo told numbers image from hs → AreSomeBelow from numbers (list_map (λ h. h.number) hs)
numbers_read told numbers image from hs scanned = record {
  live = λ k number e.
      let h = at k number e in
      let page = scanned.headers_are.real k h.0 h.1 in
      sym (scanned.below number (low k number e)) ∙ ap (λ (n : ℕ). map.contains_key scanned.live n) (sym h.2) ∙ ap is_some page.1;
  below = low;
  once = λ k l number e f. same k l number e f;
} where
  at : (k number : ℕ) → slice_get (list_map (λ (h : Header). h.number) hs) k ≡ Some number → (h : Header) × (slice_get hs k ≡ Some h) × (h.number ≡ number)
  at k number e = header_at (slice_get hs k) number (sym (slice_get-map (λ (h : Header). h.number) hs k) ∙ e)

  low : (k number : ℕ) → slice_get (list_map (λ (h : Header). h.number) hs) k ≡ Some number → number < from
  low k number e = let h = at k number e in let under : h.0.number < from = scanned.under k h.0 h.1 in omega (arith, under, h.2)

  same : (k l number : ℕ) → slice_get (list_map (λ (h : Header). h.number) hs) k ≡ Some number → slice_get (list_map (λ (h : Header). h.number) hs) l ≡ Some number → k ≡ l
  same k l number e f =
      let h = at k number e in
      let g = at l number f in
      ⊎_elim
      (λ (s : k ≡ l). s)
      (λ (apart : k ≡ l → ⊥). ⊎_elim
      (λ (less : k < l). absurd (let rises : h.0.number < g.0.number = scanned.rising.rising k l h.0 g.0 h.1 g.1 less in omega (arith, rises, h.2, g.2)))
      (λ (more : l ≤ k). absurd (let rises : g.0.number < h.0.number = scanned.rising.rising l k g.0 h.0 g.1 h.1 (omega (arith, more, apart)) in omega (arith, rises, h.2, g.2)))
      (cases_lt k l))
      (cases_eq k l)

-- what the search answers after the headers that were read
pub next_is : {told : Bool} {numbers now : Numbers} {image : List ℕ} {from : ℕ} {hs : List Header} {next : Option ℕ} (count : ℕ) → now ≡ numbers → ScannedTo told numbers image from hs → count ≡ length hs
    → ((read : List ℕ) → AreSomeBelow from now read → length read ≡ count → IsNext now from next) → IsNext numbers from next
next_is {told} {numbers} {now} {image} {from} {hs} {next} count same scanned size says =
    let read : List ℕ = list_map (λ (h : Header). h.number) hs in
    let some : AreSomeBelow from now read = subst (λ (ns : Numbers). AreSomeBelow from ns read) (sym same) (numbers_read told numbers image from hs scanned) in
    subst (λ (ns : Numbers). IsNext ns from next) same (says read some (length-map hs (λ (h : Header). h.number) ∙ sym size))
