-- How many numbers there are after a batch.
use Rattle.std.proofs.Common.{◌≡◌, ℕ, zero, suc, ◌+◌, ◌-◌, ◌<◌, ◌≤◌, ◌==◌, Bool, true, false, cond, ◌||◌, not, ◌&&◌, List, [], ◌∷◌, ◌++◌, map as map_list, length, take, get_or, nat_eq, refl, sym, ◌∙◌, ap, arith, ⊎_elim, length-append}
use Rattle.std.specs.List.{list_any, IsDistinct, AllByRecursion}
use Rattle.std.proofs.lemmas.Bool.{and_parts, or_from, or_right, not-true}
use Rattle.std.proofs.lemmas.Map.Keys.{IsDistinct-head, IsDistinct-tail}
use Rattle.std.specs.Map.{keys_of}
use Rattle.std.specs.Ordering.{nat_cmp}
use Rattle.std.specs.Cmp.{nat_cmp_total}
use Rattle.std.specs.FinMap as map
use Rattle.std.specs.FinSet as set
use Rattle.std.proofs.lemmas.List.{take_more}
use Rattle.std.proofs.lemmas.List.Folds.{list_any-append}
use Rattle.newt_spec_image.specs.Pages.{Pages, Put, Change, change_numbers, all_distinct, after}
use Rattle.newt_pagebook.specs.Book.{Numbers, with_put_numbers, without_deleted, changed_numbers}
use Rattle.newt_pagebook.proofs.Tests.{true_or_false, is_same, equal_true, neither}
use Rattle.newt_pagebook.proofs.Numbers.{contains_insert, contains_remove, changed_named}
use Rattle.newt_pagelog.specs.Kept.{Entries, map_of, numbers_in, named_in}
use Rattle.newt_pagelog.proofs.Maps.{turned, no_put}

-- an element is found in its list
any_at : (ns : List ℕ) (k : ℕ) → k < length ns → list_any (λ m. get_or ns k 0 == m) ns ≡ true
any_at [] k low = absurd (omega arith)
any_at (n ∷ ns) zero low = ap (λ (b : Bool). b || list_any (λ m. n == m) ns) (equal_true n n refl)
any_at (n ∷ ns) (suc k) low = or_right (get_or ns k 0 == n) (list_any (λ m. get_or ns k 0 == m) ns) (any_at ns k (omega arith))

-- of distinct numbers none stands before itself
pub distinct_at : (ns : List ℕ) (k : ℕ) → all_distinct ns ≡ true → k < length ns → list_any (λ m. get_or ns k 0 == m) (take k ns) ≡ false
distinct_at [] k distinct low = absurd (omega arith)
distinct_at (n ∷ ns) zero distinct low = refl
distinct_at (n ∷ ns) (suc k) distinct low =
    let d = and_parts (not (list_any (λ m. n == m) ns)) (all_distinct ns) distinct in
    let g = get_or ns k 0 in
    or_from (g == n) (list_any (λ m. g == m) (take k ns)) (⊎_elim
    (λ (t : (g == n) ≡ true). absurd (
    let found : list_any (λ m. n == m) ns ≡ true = ap (λ (x : ℕ). list_any (λ m. x == m) ns) (sym (is_same g n t)) ∙ any_at ns k (omega arith) in
    let none : list_any (λ m. n == m) ns ≡ false = not-true (list_any (λ m. n == m) ns) d.0 in cc))
    (λ (f : (g == n) ≡ false). f)
    (true_or_false (g == n))) (distinct_at ns k d.1 (omega arith))

numbers_get : (puts : List Put) (rest : List ℕ) (i : ℕ) → i < length puts → get_or (map_list (λ (put : Put). put.0) puts ++ rest) i 0 ≡ (get_or puts i no_put).0
numbers_get [] rest i low = absurd (omega arith)
numbers_get (p ∷ puts) rest zero low = refl
numbers_get (p ∷ puts) rest (suc i) low = numbers_get puts rest i (omega arith)

numbers_take : (puts : List Put) (rest : List ℕ) (i : ℕ) → i ≤ length puts → take i (map_list (λ (put : Put). put.0) puts ++ rest) ≡ map_list (λ (put : Put). put.0) (take i puts)
numbers_take puts rest zero low = take_zero (map_list (λ (put : Put). put.0) puts ++ rest) ∙ ap (map_list (λ (put : Put). put.0)) (sym (take_zero puts)) where
  take_zero : {A : Type 0} (xs : List A) → take 0 xs ≡ []
  take_zero [] = refl
  take_zero (x ∷ xs) = refl
numbers_take [] rest (suc i) low = absurd (omega arith)
numbers_take (p ∷ puts) rest (suc i) low = ap (λ (l : List ℕ). p.0 ∷ l) (numbers_take puts rest i (omega arith))

deletes_get : (puts : List Put) (rest : List ℕ) (j : ℕ) → get_or (map_list (λ (put : Put). put.0) puts ++ rest) (length puts + j) 0 ≡ get_or rest j 0
deletes_get [] rest j = ap (λ (k : ℕ). get_or rest k 0) (let e : 0 + j ≡ j = omega arith in e)
deletes_get (p ∷ puts) rest j = ap (λ (k : ℕ). get_or (p.0 ∷ map_list (λ (put : Put). put.0) puts ++ rest) k 0) (let e : length (p ∷ puts) + j ≡ suc (length puts + j) = omega arith in e) ∙ deletes_get puts rest j

deletes_take : (puts : List Put) (rest : List ℕ) (j : ℕ) → take (length puts + j) (map_list (λ (put : Put). put.0) puts ++ rest) ≡ map_list (λ (put : Put). put.0) puts ++ take j rest
deletes_take [] rest j = ap (λ (k : ℕ). take k rest) (let e : 0 + j ≡ j = omega arith in e)
deletes_take (p ∷ puts) rest j = ap (λ (k : ℕ). take k (p.0 ∷ map_list (λ (put : Put). put.0) puts ++ rest)) (let e : length (p ∷ puts) + j ≡ suc (length puts + j) = omega arith in e)
    ∙ ap (λ (l : List ℕ). p.0 ∷ l) (deletes_take puts rest j)

pub any_numbers : (q : ℕ) (puts : List Put) → list_any (λ m. q == m) (map_list (λ (put : Put). put.0) puts) ≡ list_any (λ put. q == put.0) puts
any_numbers q [] = refl
any_numbers q (p ∷ puts) = ap (λ (b : Bool). (q == p.0) || b) (any_numbers q puts)

map_length : (puts : List Put) → length (map_list (λ (put : Put). put.0) puts) ≡ length puts
map_length [] = refl
map_length (p ∷ puts) = ap suc (map_length puts)

-- the next put names no number that was put before
pub put_is_other : (change : Change) → all_distinct (change_numbers change) ≡ true → (i : ℕ) → i < length change.puts → list_any (λ put. (get_or change.puts i no_put).0 == put.0) (take i change.puts) ≡ false
put_is_other change distinct i low =
    let n = (get_or change.puts i no_put).0 in
    let ns = change_numbers change in
    let long : i < length ns = omega (arith, low, length-append (map_list (λ (put : Put). put.0) change.puts) change.deletes, map_length change.puts) in
    sym (any_numbers n (take i change.puts)) ∙ ap (list_any (λ m. n == m)) (sym (numbers_take change.puts change.deletes i (omega (arith, low))))
    ∙ ap (λ (x : ℕ). list_any (λ m. x == m) (take i ns)) (sym (numbers_get change.puts change.deletes i low)) ∙ distinct_at ns i distinct long

-- and the next delete none that was put, or deleted before
pub delete_is_other : (change : Change) → all_distinct (change_numbers change) ≡ true → (j : ℕ) → j < length change.deletes
    → (list_any (λ put. get_or change.deletes j 0 == put.0) change.puts ≡ false) × (list_any (λ m. get_or change.deletes j 0 == m) (take j change.deletes) ≡ false)
delete_is_other change distinct j low =
    let n = get_or change.deletes j 0 in
    let ns = change_numbers change in
    let k = length change.puts + j in
    let long : k < length ns = omega (arith, low, length-append (map_list (λ (put : Put). put.0) change.puts) change.deletes, map_length change.puts) in
    let none : list_any (λ m. n == m) (map_list (λ (put : Put). put.0) change.puts ++ take j change.deletes) ≡ false =
    ap (list_any (λ m. n == m)) (sym (deletes_take change.puts change.deletes j)) ∙ ap (λ (x : ℕ). list_any (λ m. x == m) (take k ns)) (sym (deletes_get change.puts change.deletes j)) ∙ distinct_at ns k distinct long in
    let parts = neither (list_any (λ m. n == m) (map_list (λ (put : Put). put.0) change.puts)) (list_any (λ m. n == m) (take j change.deletes))
    (sym (list_any-append (λ m. n == m) (map_list (λ (put : Put). put.0) change.puts) (take j change.deletes)) ∙ none) in
    (sym (any_numbers n change.puts) ∙ parts.0, parts.1)

-- the numbers that are there after puts, and after deletes
or_mid : (a b c : Bool) → (a || (b || c)) ≡ ((b || a) || c)
or_mid true true c = refl
or_mid true false c = refl
or_mid false true c = refl
or_mid false false c = refl

pub contains-puts : (puts : List Put) (s : Numbers) (q : ℕ) → set.contains (with_put_numbers puts s) q ≡ (list_any (λ put. q == put.0) puts || set.contains s q)
contains-puts [] s q = refl
contains-puts (p ∷ puts) s q = contains-puts puts (set.insert s p.0) q ∙ ap (λ (b : Bool). list_any (λ put. q == put.0) puts || b) (contains_insert s p.0 q)
    ∙ or_mid (list_any (λ put. q == put.0) puts) (q == p.0) (set.contains s q)

and_mid : (a b c : Bool) → (not a && (not b && c)) ≡ (not (b || a) && c)
and_mid true true c = refl
and_mid true false c = refl
and_mid false true c = refl
and_mid false false c = refl

pub contains-deletes : (ns : List ℕ) (s : Numbers) (q : ℕ) → set.contains (without_deleted ns s) q ≡ (not (list_any (λ n. q == n) ns) && set.contains s q)
contains-deletes [] s q = refl
contains-deletes (n ∷ ns) s q = contains-deletes ns (set.remove s n) q ∙ ap (λ (b : Bool). not (list_any (λ n. q == n) ns) && b) (contains_remove s n q)
    ∙ and_mid (list_any (λ n. q == n) ns) (q == n) (set.contains s q)

numbers-push : (puts : List Put) (p : Put) (s : Numbers) → with_put_numbers (puts ++ p ∷ []) s ≡ set.insert (with_put_numbers puts s) p.0
numbers-push [] p s = refl
numbers-push (o ∷ puts) p s = numbers-push puts p (set.insert s o.0)

deleted-push : (ns : List ℕ) (n : ℕ) (s : Numbers) → without_deleted (ns ++ n ∷ []) s ≡ set.remove (without_deleted ns s) n
deleted-push [] n s = refl
deleted-push (k ∷ ns) n s = deleted-push ns n (set.remove s k)

module _ (change : Change) (distinct : all_distinct (change_numbers change) ≡ true) (s : Numbers) where
  pub len-put : (i : ℕ) → i < length change.puts → set.len (with_put_numbers (take (i + 1) change.puts) s)
      ≡ cond (set.contains s (get_or change.puts i no_put).0) (set.len (with_put_numbers (take i change.puts) s)) (set.len (with_put_numbers (take i change.puts) s) + 1)
  len-put i low =
      let p = get_or change.puts i no_put in
      let before = with_put_numbers (take i change.puts) s in
      let new : set.contains before p.0 ≡ set.contains s p.0 = contains-puts (take i change.puts) s p.0 ∙ ap (λ (b : Bool). b || set.contains s p.0) (put_is_other change distinct i low) in
      ap (λ (l : List Put). set.len (with_put_numbers l s)) (take_more change.puts i no_put low) ∙ ap (λ (t : Numbers). set.len t) (numbers-push (take i change.puts) p s)
      ∙ set.len-insert nat_cmp_total before p.0 ∙ ap (λ (b : Bool). cond b (set.len before) (set.len before + 1)) new

  pub len-delete : (j : ℕ) → j < length change.deletes → set.len (without_deleted (take (j + 1) change.deletes) (with_put_numbers change.puts s))
      ≡ cond (set.contains s (get_or change.deletes j 0)) (set.len (without_deleted (take j change.deletes) (with_put_numbers change.puts s)) - 1) (set.len (without_deleted (take j change.deletes) (with_put_numbers change.puts s)))
  len-delete j low =
      let n = get_or change.deletes j 0 in
      let put = with_put_numbers change.puts s in
      let before = without_deleted (take j change.deletes) put in
      let other = delete_is_other change distinct j low in
      let new : set.contains before n ≡ set.contains s n = contains-deletes (take j change.deletes) put n ∙ ap (λ (b : Bool). not b && set.contains put n) other.1
      ∙ contains-puts change.puts s n ∙ ap (λ (b : Bool). b || set.contains s n) other.0 in
      ap (λ (l : List ℕ). set.len (without_deleted l put)) (take_more change.deletes j 0 low) ∙ ap (λ (t : Numbers). set.len t) (deleted-push (take j change.deletes) n put)
      ∙ set.len-remove nat_cmp_total before n ∙ ap (λ (b : Bool). cond b (set.len before - 1) (set.len before)) new

  pub some-left : (j : ℕ) → j < length change.deletes → set.contains s (get_or change.deletes j 0) ≡ true → 0 < set.len (without_deleted (take j change.deletes) (with_put_numbers change.puts s))
  some-left j low there =
      let n = get_or change.deletes j 0 in
      let put = with_put_numbers change.puts s in
      let before = without_deleted (take j change.deletes) put in
      let other = delete_is_other change distinct j low in
      let new : set.contains before n ≡ true = contains-deletes (take j change.deletes) put n ∙ ap (λ (b : Bool). not b && set.contains put n) other.1
      ∙ contains-puts change.puts s n ∙ ap (λ (b : Bool). b || set.contains s n) other.0 ∙ there in
      not_zero (set.len before) (λ none. absurd (let f : set.contains before n ≡ false = ap (λ (t : Numbers). set.contains t n) (set.empty_of_len before none) ∙ set.contains-empty nat_cmp n in cc))
    where
      not_zero : (n : ℕ) → (n ≡ 0 → ⊥) → 0 < n
      not_zero zero h = absurd (h refl)
      not_zero (suc n) h = omega arith

none_equal : (n : ℕ) (ns : List ℕ) → AllByRecursion (λ m. (n == m) ≡ false) ns → list_any (λ m. m == n) ns ≡ false
none_equal n [] all = refl
none_equal n (m ∷ ns) all = or_from (m == n) (list_any (λ m. m == n) ns) (turned m n ∙ all.0) (none_equal n ns all.1)

-- distinct numbers are as many as their set has
pub len-distinct : (ns : List ℕ) → IsDistinct nat_eq ns → set.len (set.from_list {R = nat_cmp} ns) ≡ length ns
len-distinct [] d = set.len-empty nat_cmp
len-distinct (n ∷ ns) d =
    let new : set.contains (set.from_list {R = nat_cmp} ns) n ≡ false = set.contains-from_list_nat ns n ∙ none_equal n ns (IsDistinct-head nat_eq n ns d) in
    set.len-insert nat_cmp_total (set.from_list ns) n ∙ ap (λ (b : Bool). cond b (set.len (set.from_list {R = nat_cmp} ns)) (set.len (set.from_list {R = nat_cmp} ns) + 1)) new
    ∙ ap (λ (k : ℕ). k + 1) (len-distinct ns (IsDistinct-tail nat_eq n ns d)) ∙ omega arith

pub live-is : {V : Type 0} (es : List (ℕ × V)) → IsDistinct nat_eq (keys_of es) → set.len (numbers_in es) ≡ length es
live-is {V = V} es d = len-distinct (keys_of es) d ∙ keys_length es where
  keys_length : (es : List (ℕ × V)) → length (keys_of es) ≡ length es
  keys_length [] = refl
  keys_length (e ∷ es) = ap suc (keys_length es)

-- the numbers after a batch, where the map is that after it
pub numbers-after : (old new : Entries) (change : Change) → map_of new ≡ after change (map_of old) → numbers_in new ≡ changed_numbers change (numbers_in old)
numbers-after old new change is = set.same_set nat_cmp_total map.nat_cmp-IsAntisymmetric (numbers_in new) (changed_numbers change (numbers_in old)) (λ q.
    sym (named_in new q) ∙ ap (λ (m : Pages). map.contains_key m q) is ∙ changed_named change (map_of old) (numbers_in old) (named_in old) q)
