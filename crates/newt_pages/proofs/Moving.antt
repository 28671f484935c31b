-- Places that are noted anew, number by number.
use Rattle.std.proofs.Common.{◌≡◌, ℕ, suc, ◌+◌, ◌*◌, ◌<◌, ◌≤◌, ◌==◌, Bool, true, false, cond, nat_eq, List, [], ◌∷◌, ◌++◌, length, get_or, Option, Some, None, sym, ◌∙◌, ap, subst, arith, ⊎_elim, length-append, append-nil}
use Rattle.std.specs.Map.{lookup}
use Rattle.std.specs.Option.{option_map, is_some}
use Rattle.std.proofs.lemmas.Bool.{cases_eq}
use Rattle.std.proofs.lemmas.List.{map-append, get_or_append_left}
use Rattle.newt_spec_image.specs.Pages.{Put}
use Rattle.newt_journal.specs.declared.journal.Journal.{Journal}
use Rattle.newt_pagebook.proofs.Tests.{none_is, true_or_false, is_same, equal_true, equal_false, some_inj}
use Rattle.newt_pagelog.specs.Kept.{page_in, is_kept}
use Rattle.newt_pagelog.specs.Placed.{Places, lifted, IsPlaced}
use Rattle.newt_pagelog.proofs.Placing.{lookup-lifted, lifted-put}
use Rattle.newt_pages.specs.Copies.{place_at, below}
use Rattle.newt_pages.specs.Disk.{StandAt}
use Rattle.newt_pages.proofs.Copying.{below-more, below-room}
use Rattle.newt_pages.proofs.Tables.{length-lifted}

pub stand-front : (page : ℕ → List ℕ) (first : ℕ) (xs ys : List Put) → StandAt page first (xs ++ ys) → StandAt page first xs
stand-front page first xs ys stand i low = stand i (omega (arith, low, length-append xs ys)) ∙ ap (λ (p : Put). p.1) (get_or_append_left xs ys (0, []) i low)

get-after : (xs ys : List Put) (i : ℕ) (d : Put) → get_or (xs ++ ys) (length xs + i) d ≡ get_or ys i d
get-after [] ys i d = ap (λ (k : ℕ). get_or ys k d) (let e : 0 + i ≡ i = omega arith in e)
get-after (x ∷ xs) ys i d = ap (λ (k : ℕ). get_or (x ∷ (xs ++ ys)) k d) (let e : length (x ∷ xs) + i ≡ suc (length xs + i) = omega arith in e) ∙ get-after xs ys i d

pub stand-after : (page : ℕ → List ℕ) (first : ℕ) (xs ys : List Put) → StandAt page first (xs ++ ys) → StandAt page (first + 516 * length xs) ys
stand-after page first xs ys stand i low =
    ap page (let e : first + 516 * length xs + 516 * i ≡ first + 516 * (length xs + i) = omega arith in e) ∙ stand (length xs + i) (omega (arith, low, length-append xs ys)) ∙ ap (λ (p : Put). p.1) (get-after xs ys i (0, []))

pub stand-same : (page : ℕ → List ℕ) (first : ℕ) (xs ys : List Put) → xs ≡ ys → StandAt page first xs → StandAt page first ys
stand-same page first xs ys is stand = subst (λ (l : List Put). StandAt page first l) is stand

stand-last : (page : ℕ → List ℕ) (first : ℕ) (xs : List Put) (e : Put) → StandAt page first (xs ++ e ∷ []) → page (first + 516 * length xs) ≡ e.1
stand-last page first xs e stand = ap page (let e : first + 516 * length xs ≡ first + 516 * length xs + 516 * 0 = omega arith in e) ∙ stand-after page first xs (e ∷ []) stand 0 (omega arith)

-- a page more, where the number has one
module _ (fn old new : Places) (n at p first : ℕ) (there : lookup (nat_eq n) fn ≡ Some p) (updates : (q : ℕ) → lookup (nat_eq q) new ≡ cond (nat_eq n q) (Some at) (lookup (nat_eq q) old)) where
  pub more-is : below (n + 1) fn ≡ below n fn ++ (n, p) ∷ []
  more-is = below-more n fn ∙ ap (λ (o : Option ℕ). below n fn ++ place_at n o) there

  pub more-long : length (below (n + 1) fn) ≡ length (below n fn) + 1
  more-long = omega (arith, ap (λ (l : Places). length l) more-is, length-append (below n fn) ((n, p) ∷ []))

  other : (q : ℕ) → nat_eq n q ≡ false → lookup (nat_eq q) new ≡ lookup (nat_eq q) old
  other q f = updates q ∙ ap (λ (b : Bool). cond b (Some at) (lookup (nat_eq q) old)) f

  pub more-rest : ((q : ℕ) → n ≤ q → lookup (nat_eq q) old ≡ lookup (nat_eq q) fn) → (q : ℕ) → n + 1 ≤ q → lookup (nat_eq q) new ≡ lookup (nat_eq q) fn
  more-rest rest q low = other q (equal_false n q (λ is. omega (arith, is, low))) ∙ rest q (omega (arith, low))

  pub more-moved : (f g : ℕ → List ℕ) → at ≡ first + 516 * length (below n fn) → StandAt g first (lifted f (below (n + 1) fn))
      → (StandAt g first (lifted f (below n fn)) → (q : ℕ) → q < n → page_in (lifted g old) q ≡ page_in (lifted f fn) q)
      → (q : ℕ) → q < n + 1 → page_in (lifted g new) q ≡ page_in (lifted f fn) q
  more-moved f g at_is stand before q low =
      let entries : lifted f (below (n + 1) fn) ≡ lifted f (below n fn) ++ (n, f p) ∷ [] = ap (lifted f) more-is ∙ map-append (λ (e : ℕ × ℕ). (e.0, f e.1)) (below n fn) ((n, p) ∷ []) in
      let both : StandAt g first (lifted f (below n fn) ++ (n, f p) ∷ []) = stand-same g first (lifted f (below (n + 1) fn)) (lifted f (below n fn) ++ (n, f p) ∷ []) entries stand in
      let this : g at ≡ f p = ap g at_is ∙ ap (λ (k : ℕ). g (first + 516 * k)) (sym (length-lifted f (below n fn))) ∙ stand-last g first (lifted f (below n fn)) (n, f p) both in
      lifted-put g old new n at updates q ∙ ⊎_elim
      (λ (t : (q == n) ≡ true).
      ap (λ (b : Bool). cond b (Some (g at)) (page_in (lifted g old) q)) t ∙ ap (λ (x : List ℕ). Some x) this
      ∙ sym (lookup-lifted f fn q ∙ ap (λ (k : ℕ). option_map f (lookup (nat_eq k) fn)) (is_same q n t) ∙ ap (option_map f) there))
      (λ (un : (q == n) ≡ false).
      ap (λ (b : Bool). cond b (Some (g at)) (page_in (lifted g old) q)) un ∙ before (stand-front g first (lifted f (below n fn)) ((n, f p) ∷ []) both) q (less q n low un))
      (true_or_false (q == n)) where
        less : (q n : ℕ) → q < n + 1 → (q == n) ≡ false → q < n
        less q n low un = ⊎_elim (λ (is : q ≡ n). absurd (let t : (q == n) ≡ true = equal_true q n is in cc)) (λ (ne : q ≡ n → ⊥). omega (arith, low, ne)) (cases_eq q n)

  pub more-kept : ((q : ℕ) → is_kept old q ≡ is_kept fn q) → (q : ℕ) → is_kept new q ≡ is_kept fn q
  more-kept kept q = ⊎_elim
      (λ (t : nat_eq n q ≡ true). ap is_some (updates q ∙ ap (λ (b : Bool). cond b (Some at) (lookup (nat_eq q) old)) t) ∙ sym (ap (λ (k : ℕ). is_kept fn k) (sym (is_same n q t)) ∙ ap is_some there))
      (λ (f : nat_eq n q ≡ false). ap is_some (other q f) ∙ kept q)
      (true_or_false (nat_eq n q))

  pub more-placed : (j : Journal) → IsPlaced j n at → ((q a : ℕ) → q < n → lookup (nat_eq q) old ≡ Some a → IsPlaced j q a) → (q a : ℕ) → q < n + 1 → lookup (nat_eq q) new ≡ Some a → IsPlaced j q a
  more-placed j this before q a low is = ⊎_elim
      (λ (t : nat_eq n q ≡ true).
      let at_is : at ≡ a = some_inj at a (sym (ap (λ (b : Bool). cond b (Some at) (lookup (nat_eq q) old)) t) ∙ sym (updates q) ∙ is) in
      subst (λ (k : ℕ). IsPlaced j k a) (is_same n q t) (subst (λ (x : ℕ). IsPlaced j n x) at_is this))
      (λ (f : nat_eq n q ≡ false). before q a (smaller q n low f) (sym (other q f) ∙ is))
      (true_or_false (nat_eq n q)) where
        smaller : (q n : ℕ) → q < n + 1 → nat_eq n q ≡ false → q < n
        smaller q n low un = ⊎_elim (λ (is : n ≡ q). absurd (let t : (n == q) ≡ true = equal_true n q is in cc)) (λ (ne : n ≡ q → ⊥). omega (arith, low, ne)) (cases_eq n q)

-- and none, where it has none
module _ (fn old : Places) (n first : ℕ) (none : lookup (nat_eq n) fn ≡ None) (here : lookup (nat_eq n) old ≡ lookup (nat_eq n) fn) where
  pub none-is : below (n + 1) fn ≡ below n fn
  none-is = below-more n fn ∙ ap (λ (o : Option ℕ). below n fn ++ place_at n o) none ∙ append-nil (below n fn)

  pub none-moved : (f g : ℕ → List ℕ) → StandAt g first (lifted f (below (n + 1) fn))
      → (StandAt g first (lifted f (below n fn)) → (q : ℕ) → q < n → page_in (lifted g old) q ≡ page_in (lifted f fn) q)
      → (q : ℕ) → q < n + 1 → page_in (lifted g old) q ≡ page_in (lifted f fn) q
  none-moved f g stand before q low = ⊎_elim
      (λ (is : q ≡ n). lookup-lifted g old q ∙ ap (λ (k : ℕ). option_map g (lookup (nat_eq k) old)) is ∙ ap (option_map g) (here ∙ none) ∙ sym (lookup-lifted f fn q ∙ ap (λ (k : ℕ). option_map f (lookup (nat_eq k) fn)) is ∙ ap (option_map f) none))
      (λ (ne : q ≡ n → ⊥). before (stand-same g first (lifted f (below (n + 1) fn)) (lifted f (below n fn)) (ap (lifted f) none-is) stand) q (omega (arith, low, ne)))
      (cases_eq q n)

  pub none-placed : (j : Journal) → ((q a : ℕ) → q < n → lookup (nat_eq q) old ≡ Some a → IsPlaced j q a) → (q a : ℕ) → q < n + 1 → lookup (nat_eq q) old ≡ Some a → IsPlaced j q a
  none-placed j before q a low is = ⊎_elim
      (λ (same : q ≡ n). absurd (let no : Some a ≡ None = sym is ∙ ap (λ (k : ℕ). lookup (nat_eq k) old) same ∙ here ∙ none in cc))
      (λ (ne : q ≡ n → ⊥). before q a (omega (arith, low, ne)) is)
      (cases_eq q n)

pub room-one : (fn : Places) (n m p : ℕ) → n < m → lookup (nat_eq n) fn ≡ Some p → length (below n fn) + 1 ≤ length (below m fn)
room-one fn n m p low there = omega (arith, below-room n m fn low, ap (λ (o : Option ℕ). length (place_at n o)) there)

-- of all numbers, where none is larger
pub all-moved : (f g : ℕ → List ℕ) (old new : Places) → ((q : ℕ) → q < 65536 → page_in (lifted g new) q ≡ page_in (lifted f old) q) → ((q : ℕ) → is_kept new q ≡ is_kept old q) → ((q : ℕ) → is_kept old q ≡ true → q < 65536)
    → (q : ℕ) → page_in (lifted g new) q ≡ page_in (lifted f old) q
all-moved f g old new moved kept small q = ⊎_elim
    (λ (t : is_kept old q ≡ true). moved q (small q t))
    (λ (un : is_kept old q ≡ false).
    lookup-lifted g new q ∙ ap (option_map g) (none_is (lookup (nat_eq q) new) (kept q ∙ un)) ∙ sym (lookup-lifted f old q ∙ ap (option_map f) (none_is (lookup (nat_eq q) old) un)))
    (true_or_false (is_kept old q))
