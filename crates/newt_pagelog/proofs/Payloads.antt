-- What a payload says, read number by number.
use Rattle.std.proofs.Common.{◌≡◌, ◌⊎◌, inl, inr, ℕ, zero, suc, ◌+◌, ◌-◌, ◌*◌, ◌<◌, ◌≤◌, ◌==◌, nat_le, Bool, true, false, if◌then◌else◌, ◌||◌, ◌&&◌, not, List, [], ◌∷◌, ◌++◌, map as map_list, length, get_or, take, drop, Some, None, refl, sym, ◌∙◌, ap, arith, ⊎_elim, append_assoc}
use Rattle.std.specs.List.{All, list_any, list_all}
use Rattle.std.proofs.lemmas.Bool.{or_right}
use Rattle.std.proofs.lemmas.List.{drop-drop, append-nil, map-append}
use Rattle.std.proofs.lemmas.List.Elements.{All-head, All-tail}
use Rattle.std.proofs.lemmas.Bool.Decides.{nat_tests}
use Rattle.newt_spec_image.specs.Pages.{Put, Change, change_numbers, all_distinct, word_at, short_at, puts_from, deletes_from, said_by, is_change, change_in}
use Rattle.newt_pagebook.specs.Batch.{IsBatch, names, puts_one, deletes_one}
use Rattle.newt_pagebook.proofs.Tests.{some_inj, true_or_false, is_same, equal_true}
use Rattle.newt_pagebook.proofs.Changes.{names_put, names_delete}
use Rattle.newt_pagelog.specs.Replay.{IsSeen, IsTaken, IsRefused}

puts_from-split : (i m n : ℕ) (bytes : List ℕ) → n ≡ i + m → puts_from n bytes ≡ puts_from i bytes ++ puts_from m (drop (516 * i) bytes)
puts_from-split zero m n bytes e = ap (λ (k : ℕ). puts_from k bytes) (let s : n ≡ m = omega arith in s)
puts_from-split (suc i) m zero bytes e = absurd (omega arith)
puts_from-split (suc i) m (suc n) bytes e = ap (λ (l : List Put). (word_at 0 bytes, take 512 (drop 4 bytes)) ∷ l) (puts_from-split i m n (drop 516 bytes) (omega arith)
    ∙ ap (λ (l : List ℕ). puts_from i (drop 516 bytes) ++ puts_from m l) (drop-drop (516 * i) 516 bytes ∙ ap (λ (k : ℕ). drop k bytes) (let s : 516 + 516 * i ≡ 516 * suc i = omega arith in s)))

deletes_from-split : (i m n : ℕ) (bytes : List ℕ) → n ≡ i + m → deletes_from n bytes ≡ deletes_from i bytes ++ deletes_from m (drop (4 * i) bytes)
deletes_from-split zero m n bytes e = ap (λ (k : ℕ). deletes_from k bytes) (let s : n ≡ m = omega arith in s)
deletes_from-split (suc i) m zero bytes e = absurd (omega arith)
deletes_from-split (suc i) m (suc n) bytes e = ap (λ (l : List ℕ). word_at 0 bytes ∷ l) (deletes_from-split i m n (drop 4 bytes) (omega arith)
    ∙ ap (λ (l : List ℕ). deletes_from i (drop 4 bytes) ++ deletes_from m l) (drop-drop (4 * i) 4 bytes ∙ ap (λ (k : ℕ). drop k bytes) (let s : 4 + 4 * i ≡ 4 * suc i = omega arith in s)))

pub puts-length : (n : ℕ) (bytes : List ℕ) → length (puts_from n bytes) ≡ n
puts-length zero bytes = refl
puts-length (suc n) bytes = ap suc (puts-length n (drop 516 bytes))

-- the put at a place, and the delete
module _ (payload : List ℕ) where
  abbrev pub put_at : ℕ → Put
  put_at i = (word_at (4 + 516 * i) payload, take 512 (drop (4 + 516 * i + 4) payload))

  put_there : (i : ℕ) → (word_at 0 (drop (516 * i) (drop 4 payload)), take 512 (drop 4 (drop (516 * i) (drop 4 payload)))) ≡ put_at i
  put_there i =
      let place : drop (516 * i) (drop 4 payload) ≡ drop (4 + 516 * i) payload = drop-drop (516 * i) 4 payload in
      ap (λ (l : List ℕ). (word_at 0 l, take 512 (drop 4 l))) place ∙ ap (λ (l : List ℕ). (word_at (4 + 516 * i) payload, take 512 l)) (drop-drop 4 (4 + 516 * i) payload)

  pub puts-push : (i : ℕ) → puts_from (i + 1) (drop 4 payload) ≡ puts_from i (drop 4 payload) ++ put_at i ∷ []
  puts-push i = puts_from-split i 1 (i + 1) (drop 4 payload) refl ∙ ap (λ (p : Put). puts_from i (drop 4 payload) ++ p ∷ []) (put_there i)

  abbrev pub delete_at : ℕ → ℕ → ℕ
  delete_at puts i = word_at (4 + 516 * puts + 4 * i) payload

  delete_there : (puts i : ℕ) → word_at 0 (drop (4 * i) (drop (4 + 516 * puts) payload)) ≡ delete_at puts i
  delete_there puts i = ap (λ (l : List ℕ). word_at 0 l) (drop-drop (4 * i) (4 + 516 * puts) payload)

  pub deletes-push : (puts i : ℕ) → deletes_from (i + 1) (drop (4 + 516 * puts) payload) ≡ deletes_from i (drop (4 + 516 * puts) payload) ++ delete_at puts i ∷ []
  deletes-push puts i = deletes_from-split i 1 (i + 1) (drop (4 + 516 * puts) payload) refl ∙ ap (λ (n : ℕ). deletes_from i (drop (4 + 516 * puts) payload) ++ n ∷ []) (delete_there puts i)

  -- the numbers of the payload, from one that is put on, and from one that is deleted on
  abbrev puts_in : ℕ
  puts_in = short_at 0 payload

  abbrev deletes_in : ℕ
  deletes_in = short_at 2 payload

  put_numbers : (i : ℕ) → i < puts_in → (rest : List ℕ) × (change_numbers (said_by payload) ≡ map_list (λ (p : Put). p.0) (puts_from i (drop 4 payload)) ++ (put_at i).0 ∷ rest)
  put_numbers i low =
      let m = puts_in - i - 1 in
      let more = puts_from m (drop 516 (drop (516 * i) (drop 4 payload))) in
      let ds = deletes_from deletes_in (drop (4 + 516 * puts_in) payload) in
      let split : puts_from puts_in (drop 4 payload) ≡ puts_from i (drop 4 payload) ++ put_at i ∷ more = puts_from-split i (suc m) puts_in (drop 4 payload) (omega arith)
      ∙ ap (λ (p : Put). puts_from i (drop 4 payload) ++ p ∷ more) (put_there i) in (
        map_list (λ (p : Put). p.0) more ++ ds,
        ap (λ (l : List Put). map_list (λ (p : Put). p.0) l ++ ds) split
            ∙ ap (λ (l : List ℕ). l ++ ds) (map-append (λ (p : Put). p.0) (puts_from i (drop 4 payload)) (put_at i ∷ more))
            ∙ append_assoc (map_list (λ (p : Put). p.0) (puts_from i (drop 4 payload))) ((put_at i).0 ∷ map_list (λ (p : Put). p.0) more) ds,
      )

  delete_numbers : (i : ℕ) → i < deletes_in → (rest : List ℕ)
      × (change_numbers (said_by payload) ≡ change_numbers (record { puts = puts_from puts_in (drop 4 payload); deletes = deletes_from i (drop (4 + 516 * puts_in) payload) }) ++ delete_at puts_in i ∷ rest)
  delete_numbers i low =
      let m = deletes_in - i - 1 in
      let place = drop (4 + 516 * puts_in) payload in
      let more = deletes_from m (drop 4 (drop (4 * i) place)) in
      let split : deletes_from deletes_in place ≡ deletes_from i place ++ delete_at puts_in i ∷ more = deletes_from-split i (suc m) deletes_in place (omega arith)
      ∙ ap (λ (n : ℕ). deletes_from i place ++ n ∷ more) (delete_there puts_in i) in (
        more,
        ap (λ (l : List ℕ). map_list (λ (p : Put). p.0) (puts_from puts_in (drop 4 payload)) ++ l) split
            ∙ sym (append_assoc (map_list (λ (p : Put). p.0) (puts_from puts_in (drop 4 payload))) (deletes_from i place) (delete_at puts_in i ∷ more)),
      )

and_false : (a : Bool) → (a && false) ≡ false
and_false true = refl
and_false false = refl

big_false : (n : ℕ) → 65536 ≤ n → nat_le n 65535 ≡ false
big_false n big = grind (arith, nat_tests)

small_true : (n : ℕ) → n < 65536 → nat_le n 65535 ≡ true
small_true n low = grind (arith, nat_tests)

not_all : (xs ys : List ℕ) (n : ℕ) → 65536 ≤ n → list_all (λ m. nat_le m 65535) (xs ++ n ∷ ys) ≡ false
not_all [] ys n big = ap (λ (b : Bool). b && list_all (λ m. nat_le m 65535) ys) (big_false n big)
not_all (x ∷ xs) ys n big = ap (λ (b : Bool). nat_le x 65535 && b) (not_all xs ys n big) ∙ and_false (nat_le x 65535)

middle_found : (xs ys : List ℕ) (n : ℕ) → list_any (λ m. n == m) (xs ++ n ∷ ys) ≡ true
middle_found [] ys n = ap (λ (b : Bool). b || list_any (λ m. n == m) ys) (equal_true n n refl)
middle_found (x ∷ xs) ys n = ap (λ (b : Bool). (n == x) || b) (middle_found xs ys n) ∙ or_right (n == x) true refl

not_distinct : (xs ys : List ℕ) (n : ℕ) → list_any (λ m. n == m) xs ≡ true → all_distinct (xs ++ n ∷ ys) ≡ false
not_distinct [] ys n there = absurd (cc)
not_distinct (x ∷ xs) ys n there = ⊎_elim
    (λ (t : (n == x) ≡ true).
    let found : list_any (λ m. x == m) (xs ++ n ∷ ys) ≡ true = ap (λ (k : ℕ). list_any (λ m. k == m) (xs ++ n ∷ ys)) (sym (is_same n x t)) ∙ middle_found xs ys n in
    ap (λ (b : Bool). not b && all_distinct (xs ++ n ∷ ys)) found)
    (λ (f : (n == x) ≡ false).
    ap (λ (b : Bool). not (list_any (λ m. x == m) (xs ++ n ∷ ys)) && b) (not_distinct xs ys n (sym (ap (λ (b : Bool). b || list_any (λ m. n == m) xs) f) ∙ there)) ∙ and_false (not (list_any (λ m. x == m) (xs ++ n ∷ ys))))
    (true_or_false (n == x))

-- a number that is refused spoils the payload
refused : (payload xs ys : List ℕ) (n : ℕ) → change_numbers (said_by payload) ≡ xs ++ n ∷ ys → (65536 ≤ n) ⊎ (list_any (λ m. n == m) xs ≡ true) → is_change payload ≡ false
refused payload xs ys n is why =
    let size : Bool = length payload == 4 + 516 * short_at 0 payload + 4 * short_at 2 payload in
    let test : (list_all (λ m. nat_le m 65535) (xs ++ n ∷ ys) && all_distinct (xs ++ n ∷ ys)) ≡ false = ⊎_elim
    (λ (big : 65536 ≤ n). ap (λ (b : Bool). b && all_distinct (xs ++ n ∷ ys)) (not_all xs ys n big))
    (λ (there : list_any (λ m. n == m) xs ≡ true). ap (λ (b : Bool). list_all (λ m. nat_le m 65535) (xs ++ n ∷ ys) && b) (not_distinct xs ys n there) ∙ and_false (list_all (λ m. nat_le m 65535) (xs ++ n ∷ ys)))
    why in
    ap (λ (l : List ℕ). size && (list_all (λ m. nat_le m 65535) l && all_distinct l)) is ∙ ap (λ (b : Bool). size && b) test ∙ and_false size

seen_why : (seen : ℕ → Bool) (change : Change) (n : ℕ) → IsSeen seen change → IsRefused n seen → (65536 ≤ n) ⊎ (list_any (λ m. n == m) (change_numbers change) ≡ true)
seen_why seen change n is why = ⊎_elim (λ (big : 65536 ≤ n). inl big) (λ (there : seen n ≡ true). inr (sym (is n) ∙ there)) why

pub put_refused : (payload : List ℕ) (seen : ℕ → Bool) (change : Change) (i : ℕ) → i < short_at 0 payload → change ≡ record { puts = puts_from i (drop 4 payload); deletes = [] } → IsSeen seen change
    → IsRefused (put_at payload i).0 seen → is_change payload ≡ false
put_refused payload seen change i low is seen_is why =
    let w = put_numbers payload i low in
    let front : change_numbers change ≡ map_list (λ (p : Put). p.0) (puts_from i (drop 4 payload)) = ap change_numbers is ∙ append-nil (map_list (λ (p : Put). p.0) (puts_from i (drop 4 payload))) in
    refused payload (change_numbers change) w.0 (put_at payload i).0 (w.1 ∙ ap (λ (l : List ℕ). l ++ (put_at payload i).0 ∷ w.0) (sym front)) (seen_why seen change (put_at payload i).0 seen_is why)

pub delete_refused : (payload : List ℕ) (seen : ℕ → Bool) (change : Change) (i : ℕ) → i < short_at 2 payload
    → change ≡ record { puts = puts_from (short_at 0 payload) (drop 4 payload); deletes = deletes_from i (drop (4 + 516 * short_at 0 payload) payload) } → IsSeen seen change
    → IsRefused (delete_at payload (short_at 0 payload) i) seen → is_change payload ≡ false
delete_refused payload seen change i low is seen_is why =
    let w = delete_numbers payload i low in
    let n = delete_at payload (short_at 0 payload) i in
    refused payload (change_numbers change) w.0 n (w.1 ∙ ap (λ (c : Change). change_numbers c ++ n ∷ w.0) (sym is)) (seen_why seen change n seen_is why)

or_turn : (a b : Bool) → (a || b) ≡ (b || a)
or_turn true true = refl
or_turn true false = refl
or_turn false true = refl
or_turn false false = refl

pub seen-put : (old new : ℕ → Bool) (change : Change) (n : ℕ) (page : List ℕ) → IsSeen old change → IsTaken n old new → IsSeen new (puts_one change n page)
seen-put old new change n page is taken q = taken.now q ∙ ap (λ (b : Bool). (q == n) || b) (is q) ∙ or_turn (q == n) (names change q) ∙ sym (names_put change n page q)

pub seen-delete : (old new : ℕ → Bool) (change : Change) (n : ℕ) → IsSeen old change → IsTaken n old new → IsSeen new (deletes_one change n)
seen-delete old new change n is taken q = taken.now q ∙ ap (λ (b : Bool). (q == n) || b) (is q) ∙ or_turn (q == n) (names change q) ∙ sym (names_delete change n q)

all_small : (ns : List ℕ) → All (λ n. n < 65536) ns → list_all (λ n. nat_le n 65535) ns ≡ true
all_small [] all = refl
all_small (n ∷ ns) all = ap (λ (b : Bool). b && list_all (λ n. nat_le n 65535) ns) (small_true n (All-head (λ n. n < 65536) n ns all)) ∙ all_small ns (All-tail (λ n. n < 65536) n ns all)

-- numbers that hold of a batch, and the right length, are a change
pub batch_is_change : (payload : List ℕ) → length payload ≡ 4 + 516 * short_at 0 payload + 4 * short_at 2 payload → IsBatch (said_by payload) → is_change payload ≡ true
batch_is_change payload whole batch =
    let numbers = change_numbers (said_by payload) in
    ap (λ (b : Bool). b && (list_all (λ n. nat_le n 65535) numbers && all_distinct numbers)) (equal_true (length payload) (4 + 516 * short_at 0 payload + 4 * short_at 2 payload) whole)
    ∙ ap (λ (b : Bool). b && all_distinct numbers) (all_small numbers batch.small) ∙ batch.distinct

pub the_change_in : (payload : List ℕ) → is_change payload ≡ true → change_in payload ≡ Some (said_by payload)
the_change_in payload e = ap (λ (b : Bool). if b then Some (said_by payload) else None) e

-- the pages that a payload puts, one by one
get-puts : (n i : ℕ) (bytes : List ℕ) (d : Put) → i < n → get_or (puts_from n bytes) i d ≡ (word_at (516 * i) bytes, take 512 (drop (516 * i + 4) bytes))
get-puts zero i bytes d low = absurd (omega arith)
get-puts (suc n) zero bytes d low = refl
get-puts (suc n) (suc i) bytes d low =
    let at : 516 + 516 * i ≡ 516 * suc i = omega arith in
    let after : 516 + (516 * i + 4) ≡ 516 * suc i + 4 = omega arith in
    get-puts n i (drop 516 bytes) d (omega arith)
    ∙ ap (λ (l : List ℕ). (word_at 0 l, take 512 (drop (516 * i + 4) (drop 516 bytes)))) (drop-drop (516 * i) 516 bytes ∙ ap (λ (k : ℕ). drop k bytes) at)
    ∙ ap (λ (l : List ℕ). (word_at (516 * suc i) bytes, take 512 l)) (drop-drop (516 * i + 4) 516 bytes ∙ ap (λ (k : ℕ). drop k bytes) after)

says-what : (b : Bool) (said change : Change) → (if b then Some said else None) ≡ Some change → said ≡ change
says-what true said change is = some_inj said change is
says-what false said change is = absurd (cc)

pub page-put : (payload : List ℕ) (change : Change) → change_in payload ≡ Some change → (i : ℕ) (d : Put) → i < length change.puts → take 512 (drop (8 + 516 * i) payload) ≡ (get_or change.puts i d).1
page-put payload change says i d low =
    let is : said_by payload ≡ change = says-what (is_change payload) (said_by payload) change says in
    let n = short_at 0 payload in
    let few : i < n = omega (arith, low, ap (λ (c : Change). length c.puts) is, puts-length n (drop 4 payload)) in
    let place : 4 + (516 * i + 4) ≡ 8 + 516 * i = omega arith in
    sym (ap (λ (k : ℕ). take 512 (drop k payload)) place) ∙ ap (λ (l : List ℕ). take 512 l) (sym (drop-drop (516 * i + 4) 4 payload)) ∙ sym (ap (λ (p : Put). p.1) (get-puts n i (drop 4 payload) d few)) ∙ ap (λ (c : Change). (get_or c.puts i d).1) is
