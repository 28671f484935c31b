-- A payload that was written says the change that it was written for.
use Rattle.std.proofs.Common.{◌≡◌, ℕ, ◌+◌, ◌*◌, ◌<◌, ◌==◌, Bool, true, false, not, cond, ◌||◌, ◌&&◌, nat_eq, List, [], ◌∷◌, ◌++◌, map as map_list, length, take, drop, Some, refl, sym, ◌∙◌, ap, subst, arith, ⊎_elim, append_assoc, length-append}
use Rattle.std.specs.List.{All, list_any, filter, flat_map, IsDistinct, AllByRecursion}
use Rattle.std.specs.Int.{to_be_bytes, from_be_bytes, w16, w32}
use Rattle.std.proofs.lemmas.Bool.{and_parts, or_right, not-true}
use Rattle.std.proofs.lemmas.List.{take_at, drop_at}
use Rattle.std.proofs.lemmas.List.Folds.{list_any-append}
use Rattle.std.proofs.lemmas.List.Elements.{All-head, All-tail, All-cons, All-nil}
use Rattle.std.proofs.lemmas.Nat.{from_be_bytes-to_be_bytes_2, from_be_bytes-to_be_bytes_4}
use Rattle.std.proofs.lemmas.Map.Keys.{IsDistinct-head, IsDistinct-tail}
use Rattle.newt_spec_image.specs.Pages.{Put, Change, all_distinct, short_at, word_at, puts_from, deletes_from, said_by, change_in, written_put, written_delete, written_change}
use Rattle.newt_pagebook.specs.Batch.{IsBatch}
use Rattle.newt_pagebook.proofs.Tests.{true_or_false, neither, is_same}
use Rattle.newt_pagelog.proofs.Payloads.{batch_is_change, the_change_in}
use Rattle.newt_pagelog.proofs.Stepping.{deletes-size}

-- numbers of changes are below 2 ^ 32, and the pages are whole
pub front_small : (xs ys : List ℕ) → All (λ n. n < 65536) (xs ++ ys) → All (λ n. n < 65536) xs
front_small [] ys all = All-nil (λ n. n < 65536)
front_small (x ∷ xs) ys all = All-cons (λ n. n < 65536) x xs (All-head (λ n. n < 65536) x (xs ++ ys) all) (front_small xs ys (All-tail (λ n. n < 65536) x (xs ++ ys) all))

back_small : (xs ys : List ℕ) → All (λ n. n < 65536) (xs ++ ys) → All (λ n. n < 65536) ys
back_small [] ys all = all
back_small (x ∷ xs) ys all = back_small xs ys (All-tail (λ n. n < 65536) x (xs ++ ys) all)

puts-size : (puts : List Put) → All (λ put. length put.1 ≡ 512) puts → length (flat_map written_put puts) ≡ 516 * length puts
puts-size [] whole = refl
puts-size (p ∷ puts) whole = let size : length p.1 ≡ 512 = All-head (λ (put : Put). length put.1 ≡ 512) p puts whole in
    omega (arith, size, puts-size puts (All-tail (λ (put : Put). length put.1 ≡ 512) p puts whole), length-append (written_put p) (flat_map written_put puts))

puts_read : (puts : List Put) (rest : List ℕ) → All (λ put. length put.1 ≡ 512) puts → All (λ n. n < 65536) (map_list (λ (p : Put). p.0) puts) → puts_from (length puts) (flat_map written_put puts ++ rest) ≡ puts
puts_read [] rest whole small = refl
puts_read (p ∷ puts) rest whole small =
    let size : length p.1 ≡ 512 = All-head (λ (put : Put). length put.1 ≡ 512) p puts whole in
    let low : p.0 < 65536 = All-head (λ n. n < 65536) p.0 (map_list (λ (p : Put). p.0) puts) small in
    let others : List ℕ = flat_map written_put puts ++ rest in
    let bytes : List ℕ = flat_map written_put (p ∷ puts) ++ rest in
    let is : bytes ≡ to_be_bytes w32 p.0 ++ (p.1 ++ others) = append_assoc (written_put p) (flat_map written_put puts) rest ∙ append_assoc (to_be_bytes w32 p.0) p.1 others in
    let number : word_at 0 bytes ≡ p.0 = ap (λ (l : List ℕ). from_be_bytes w32 (take 4 l)) is ∙ ap (from_be_bytes w32) (take_at (to_be_bytes w32 p.0) (p.1 ++ others) 4 refl) ∙ from_be_bytes-to_be_bytes_4 p.0 (omega arith) in
    let after : drop 4 bytes ≡ p.1 ++ others = ap (λ (l : List ℕ). drop 4 l) is ∙ drop_at (to_be_bytes w32 p.0) (p.1 ++ others) 4 refl in
    let page : take 512 (drop 4 bytes) ≡ p.1 = ap (λ (l : List ℕ). take 512 l) after ∙ take_at p.1 others 512 size in
    let next : drop 516 bytes ≡ others = ap (λ (l : List ℕ). drop 516 l) (append_assoc (written_put p) (flat_map written_put puts) rest) ∙ drop_at (written_put p) others 516 (omega (arith, size)) in
    ap (λ (n : ℕ). (n, take 512 (drop 4 bytes)) ∷ puts_from (length puts) (drop 516 bytes)) number
    ∙ ap (λ (l : List ℕ). (p.0, l) ∷ puts_from (length puts) (drop 516 bytes)) page
    ∙ ap (λ (l : List Put). p ∷ l) (ap (puts_from (length puts)) next ∙ puts_read puts rest (All-tail (λ (put : Put). length put.1 ≡ 512) p puts whole) (All-tail (λ n. n < 65536) p.0 (map_list (λ (p : Put). p.0) puts) small))

deletes_read : (ns : List ℕ) → All (λ n. n < 65536) ns → deletes_from (length ns) (flat_map written_delete ns) ≡ ns
deletes_read [] small = refl
deletes_read (n ∷ ns) small =
    let low : n < 65536 = All-head (λ n. n < 65536) n ns small in
    let others : List ℕ = flat_map written_delete ns in
    let number : word_at 0 (to_be_bytes w32 n ++ others) ≡ n = ap (from_be_bytes w32) (take_at (to_be_bytes w32 n) others 4 refl) ∙ from_be_bytes-to_be_bytes_4 n (omega arith) in
    ap (λ (k : ℕ). k ∷ deletes_from (length ns) (drop 4 (to_be_bytes w32 n ++ others))) number
    ∙ ap (λ (l : List ℕ). n ∷ l) (ap (deletes_from (length ns)) (drop_at (to_be_bytes w32 n) others 4 refl) ∙ deletes_read ns (All-tail (λ n. n < 65536) n ns small))

module _ (change : Change) (batch : IsBatch change) (few_puts : length change.puts < 65536) (few_deletes : length change.deletes < 65536) where
  abbrev puts_bytes : List ℕ
  puts_bytes = flat_map written_put change.puts

  abbrev deletes_bytes : List ℕ
  deletes_bytes = flat_map written_delete change.deletes

  abbrev rest_bytes : List ℕ
  rest_bytes = puts_bytes ++ deletes_bytes

  split : written_change change ≡ to_be_bytes w16 (length change.puts) ++ (to_be_bytes w16 (length change.deletes) ++ rest_bytes)
  unfolding written_change
  split = append_assoc (to_be_bytes w16 (length change.puts) ++ to_be_bytes w16 (length change.deletes)) puts_bytes deletes_bytes
      ∙ append_assoc (to_be_bytes w16 (length change.puts)) (to_be_bytes w16 (length change.deletes)) rest_bytes

  first : short_at 0 (written_change change) ≡ length change.puts
  first = ap (λ (l : List ℕ). from_be_bytes w16 (take 2 l)) split ∙ ap (from_be_bytes w16) (take_at (to_be_bytes w16 (length change.puts)) (to_be_bytes w16 (length change.deletes) ++ rest_bytes) 2 refl)
      ∙ from_be_bytes-to_be_bytes_2 (length change.puts) (omega (arith, few_puts))

  second : short_at 2 (written_change change) ≡ length change.deletes
  second = ap (λ (l : List ℕ). from_be_bytes w16 (take 2 (drop 2 l))) split
      ∙ ap (λ (l : List ℕ). from_be_bytes w16 (take 2 l)) (drop_at (to_be_bytes w16 (length change.puts)) (to_be_bytes w16 (length change.deletes) ++ rest_bytes) 2 refl)
      ∙ ap (from_be_bytes w16) (take_at (to_be_bytes w16 (length change.deletes)) rest_bytes 2 refl) ∙ from_be_bytes-to_be_bytes_2 (length change.deletes) (omega (arith, few_deletes))

  past_counts : drop 4 (written_change change) ≡ rest_bytes
  past_counts = ap (λ (l : List ℕ). drop 4 l) (split ∙ sym (append_assoc (to_be_bytes w16 (length change.puts)) (to_be_bytes w16 (length change.deletes)) rest_bytes))
      ∙ drop_at (to_be_bytes w16 (length change.puts) ++ to_be_bytes w16 (length change.deletes)) rest_bytes 4 refl

  size_of_puts : length puts_bytes ≡ 516 * length change.puts
  size_of_puts = puts-size change.puts batch.whole_pages

  after_puts : drop (4 + 516 * length change.puts) (written_change change) ≡ deletes_bytes
  after_puts =
      let front : List ℕ = to_be_bytes w16 (length change.puts) ++ to_be_bytes w16 (length change.deletes) in
      let is : written_change change ≡ (front ++ puts_bytes) ++ deletes_bytes = split ∙ sym (append_assoc (to_be_bytes w16 (length change.puts)) (to_be_bytes w16 (length change.deletes)) rest_bytes) ∙ sym (append_assoc front puts_bytes deletes_bytes) in
      ap (λ (l : List ℕ). drop (4 + 516 * length change.puts) l) is ∙ drop_at (front ++ puts_bytes) deletes_bytes (4 + 516 * length change.puts) (omega (arith, size_of_puts, length-append front puts_bytes))

  pub written-length : length (written_change change) ≡ 4 + 516 * length change.puts + 4 * length change.deletes
  written-length = omega (
    arith,
    ap (λ (l : List ℕ). length l) split,
    length-append (to_be_bytes w16 (length change.puts)) (to_be_bytes w16 (length change.deletes) ++ rest_bytes),
    length-append (to_be_bytes w16 (length change.deletes)) rest_bytes,
    length-append puts_bytes deletes_bytes,
    size_of_puts,
    deletes-size change.deletes,
  )

  said : said_by (written_change change) ≡ change
  said =
      let numbers = map_list (λ (p : Put). p.0) change.puts in
      ap (λ (n : ℕ). record { puts = puts_from n (drop 4 (written_change change)); deletes = deletes_from (short_at 2 (written_change change)) (drop (4 + 516 * n) (written_change change)) }) first
      ∙ ap (λ (l : List Put). record { puts = l; deletes = deletes_from (short_at 2 (written_change change)) (drop (4 + 516 * length change.puts) (written_change change)) })
      (ap (puts_from (length change.puts)) past_counts ∙ puts_read change.puts deletes_bytes batch.whole_pages (front_small numbers change.deletes batch.small))
      ∙ ap (λ (l : List ℕ). record { puts = change.puts; deletes = l })
      (ap (λ (n : ℕ). deletes_from n (drop (4 + 516 * length change.puts) (written_change change))) second ∙ ap (deletes_from (length change.deletes)) after_puts ∙ deletes_read change.deletes (back_small numbers change.deletes batch.small))

  pub written-says : change_in (written_change change) ≡ Some change
  written-says =
      let whole : length (written_change change) ≡ 4 + 516 * short_at 0 (written_change change) + 4 * short_at 2 (written_change change) = omega (arith, written-length, first, second) in
      the_change_in (written_change change) (batch_is_change (written_change change) whole (subst IsBatch (sym said) batch)) ∙ ap Some said

-- A change without some of its deletes.
small_filter : (p : ℕ → Bool) (xs ys : List ℕ) → All (λ n. n < 65536) (xs ++ ys) → All (λ n. n < 65536) (xs ++ filter p ys)
small_filter p [] [] all = all
small_filter p [] (y ∷ ys) all = choose (p y) (All-head (λ n. n < 65536) y ys all) (small_filter p [] ys (All-tail (λ n. n < 65536) y ys all)) where
  choose : (b : Bool) → y < 65536 → All (λ n. n < 65536) (filter p ys) → All (λ n. n < 65536) (cond b (y ∷ filter p ys) (filter p ys))
  choose true low rest = All-cons (λ n. n < 65536) y (filter p ys) low rest
  choose false low rest = rest
small_filter p (x ∷ xs) ys all = All-cons (λ n. n < 65536) x (xs ++ filter p ys) (All-head (λ n. n < 65536) x (xs ++ ys) all) (small_filter p xs ys (All-tail (λ n. n < 65536) x (xs ++ ys) all))

or_left : (a b c : Bool) → (a || c) ≡ false → (b ≡ true → c ≡ true) → (a || b) ≡ false
or_left true b c e h = absurd (cc)
or_left false true c e h = absurd (let t : c ≡ true = h refl in cc)
or_left false false c e h = refl

filter_step : (n y : ℕ) (b : Bool) (zs ys : List ℕ) → (list_any (λ m. n == m) zs ≡ true → list_any (λ m. n == m) ys ≡ true) → list_any (λ m. n == m) (cond b (y ∷ zs) zs) ≡ true → ((n == y) || list_any (λ m. n == m) ys) ≡ true
filter_step n y true zs ys more t = ⊎_elim
    (λ (here : (n == y) ≡ true). ap (λ (b : Bool). b || list_any (λ m. n == m) ys) here)
    (λ (not_here : (n == y) ≡ false). or_right (n == y) (list_any (λ m. n == m) ys) (more (sym (ap (λ (b : Bool). b || list_any (λ m. n == m) zs) not_here) ∙ t)))
    (true_or_false (n == y))
filter_step n y false zs ys more t = or_right (n == y) (list_any (λ m. n == m) ys) (more t)

any_filter : (n : ℕ) (p : ℕ → Bool) (ys : List ℕ) → list_any (λ m. n == m) (filter p ys) ≡ true → list_any (λ m. n == m) ys ≡ true
any_filter n p [] e = e
any_filter n p (y ∷ ys) e = filter_step n y (p y) (filter p ys) ys (any_filter n p ys) e

distinct_filter : (p : ℕ → Bool) (xs ys : List ℕ) → all_distinct (xs ++ ys) ≡ true → all_distinct (xs ++ filter p ys) ≡ true
distinct_filter p [] [] d = d
distinct_filter p [] (y ∷ ys) d =
    let parts = and_parts (not (list_any (λ m. y == m) ys)) (all_distinct ys) d in
    choose (p y) (not-true (list_any (λ m. y == m) ys) parts.0) (distinct_filter p [] ys parts.1) where
      none : list_any (λ m. y == m) ys ≡ false → list_any (λ m. y == m) (filter p ys) ≡ false
      none e = or_left false (list_any (λ m. y == m) (filter p ys)) (list_any (λ m. y == m) ys) e (any_filter y p ys)

      choose : (b : Bool) → list_any (λ m. y == m) ys ≡ false → all_distinct (filter p ys) ≡ true → all_distinct (cond b (y ∷ filter p ys) (filter p ys)) ≡ true
      choose true e rest = ap (λ (b : Bool). not b && all_distinct (filter p ys)) (none e) ∙ rest
      choose false e rest = rest
distinct_filter p (x ∷ xs) ys d =
    let parts = and_parts (not (list_any (λ m. x == m) (xs ++ ys))) (all_distinct (xs ++ ys)) d in
    let old : (list_any (λ m. x == m) xs || list_any (λ m. x == m) ys) ≡ false = sym (list_any-append (λ m. x == m) xs ys) ∙ not-true (list_any (λ m. x == m) (xs ++ ys)) parts.0 in
    let new : list_any (λ m. x == m) (xs ++ filter p ys) ≡ false = list_any-append (λ m. x == m) xs (filter p ys) ∙ or_left (list_any (λ m. x == m) xs) (list_any (λ m. x == m) (filter p ys)) (list_any (λ m. x == m) ys) old (any_filter x p ys) in
    ap (λ (b : Bool). not b && all_distinct (xs ++ filter p ys)) new ∙ distinct_filter p xs ys parts.1

pub fewer_deletes : (p : ℕ → Bool) (change : Change) → IsBatch change → IsBatch (record { puts = change.puts; deletes = filter p change.deletes })
fewer_deletes p change batch = record {
  whole_pages = batch.whole_pages;
  small = small_filter p (map_list (λ (put : Put). put.0) change.puts) change.deletes batch.small;
  distinct = distinct_filter p (map_list (λ (put : Put). put.0) change.puts) change.deletes batch.distinct;
}

-- distinct by one word are distinct by the other
none_of : (n : ℕ) (ns : List ℕ) → list_any (λ m. n == m) ns ≡ false → AllByRecursion (λ m. (n == m) ≡ false) ns
none_of n [] e = tt
none_of n (m ∷ ns) e = let parts = neither (n == m) (list_any (λ m. n == m) ns) e in (parts.0, none_of n ns parts.1)

pub distinct_is : (ns : List ℕ) → all_distinct ns ≡ true → IsDistinct nat_eq ns
unfolding IsDistinct
distinct_is [] d = tt
distinct_is (n ∷ ns) d =
    let parts = and_parts (not (list_any (λ m. n == m) ns)) (all_distinct ns) d in
    (none_of n ns (not-true (list_any (λ m. n == m) ns) parts.0), distinct_is ns parts.1)

any_none : (n : ℕ) (ns : List ℕ) → AllByRecursion (λ m. (n == m) ≡ false) ns → list_any (λ m. n == m) ns ≡ false
any_none n [] all = refl
any_none n (m ∷ ns) all = ap (λ (b : Bool). b || list_any (λ m. n == m) ns) all.0 ∙ any_none n ns all.1

pub is_distinct : (ns : List ℕ) → IsDistinct nat_eq ns → all_distinct ns ≡ true
is_distinct [] d = refl
is_distinct (n ∷ ns) d = ap (λ (b : Bool). not b && all_distinct ns) (any_none n ns (IsDistinct-head nat_eq n ns d)) ∙ is_distinct ns (IsDistinct-tail nat_eq n ns d)

pub back_distinct : (xs ys : List ℕ) → all_distinct (xs ++ ys) ≡ true → all_distinct ys ≡ true
back_distinct [] ys d = d
back_distinct (x ∷ xs) ys d = back_distinct xs ys (and_parts (not (list_any (λ m. x == m) (xs ++ ys))) (all_distinct (xs ++ ys)) d).1

-- a number that is deleted is not put
pub not_put : (xs ys : List ℕ) (q : ℕ) → all_distinct (xs ++ ys) ≡ true → list_any (λ m. q == m) ys ≡ true → list_any (λ m. q == m) xs ≡ false
not_put [] ys q d there = refl
not_put (x ∷ xs) ys q d there =
    let parts = and_parts (not (list_any (λ m. x == m) (xs ++ ys))) (all_distinct (xs ++ ys)) d in
    let no : (list_any (λ m. x == m) xs || list_any (λ m. x == m) ys) ≡ false = sym (list_any-append (λ m. x == m) xs ys) ∙ not-true (list_any (λ m. x == m) (xs ++ ys)) parts.0 in
    ⊎_elim
    (λ (t : (q == x) ≡ true). absurd (let there' : list_any (λ m. x == m) ys ≡ true = ap (λ (k : ℕ). list_any (λ m. k == m) ys) (sym (is_same q x t)) ∙ there in let none = (neither (list_any (λ m. x == m) xs) (list_any (λ m. x == m) ys) no).1 in cc))
    (λ (f : (q == x) ≡ false). ap (λ (b : Bool). b || list_any (λ m. q == m) xs) f ∙ not_put xs ys q parts.1 there)
    (true_or_false (q == x))
