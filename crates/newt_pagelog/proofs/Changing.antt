-- What the pages are once a record is committed.
use Rattle.std.proofs.Common.{◌≡◌, ◌⊎◌, inl, inr, ℕ, zero, suc, ◌+◌, ◌*◌, ◌<◌, ◌≤◌, ◌==◌, Bool, true, false, not, cond, ◌||◌, ◌&&◌, nat_eq, List, [], ◌∷◌, ◌++◌, map as map_list, length, slice_get, Option, Some, None, IsSome, refl, sym, ◌∙◌, ap, subst, arith, ⊎_elim}
use Rattle.std.specs.List.{All, list_any, filter, IsDistinct, AllByRecursion}
use Rattle.std.proofs.lemmas.List.Elements.{All-head, All-tail, All-cons, All-nil}
use Rattle.std.proofs.lemmas.Map.Entries.{lookup_from_place}
use Rattle.std.specs.Map.{keys_of, lookup}
use Rattle.std.proofs.lemmas.Bool.{and_parts, not-true}
use Rattle.std.proofs.lemmas.Bool.Decides.{nat_tests}
use Rattle.std.specs.Option.{is_some}
use Rattle.std.specs.Ordering.{nat_cmp}
use Rattle.std.specs.Cmp.{nat_eq_equiv}
use Rattle.std.specs.FinMap as map
use Rattle.std.specs.FinSet as set
use Rattle.std.proofs.lemmas.List.{append-nil}
use Rattle.std.proofs.lemmas.List.Folds.{list_any-append}
use Rattle.std.proofs.lemmas.Map.Keys.{IsDistinct-head, IsDistinct-tail}
use Rattle.std.proofs.lemmas.Map.Steps.{length-le_from_keys}
use Rattle.newt_host.specs.Moments.{image}
use Rattle.newt_spec_image.specs.Records.{and_then, records, bank_size}
use Rattle.newt_spec_image.specs.Pages.{Pages, Put, Change, change_numbers, all_distinct, change_in, with_puts, without_numbers, after, pages, pages_after, cap}
use Rattle.newt_journal.specs.Journal.{appended}
use Rattle.newt_pagebook.specs.Batch.{IsBatch}
use Rattle.newt_pagebook.specs.Book.{Numbers, changed_numbers}
use Rattle.newt_pagebook.proofs.Tests.{true_or_false, is_same, some_inj, none_is, neither}
use Rattle.newt_pagebook.proofs.Changes.{get_insert, get_without}
use Rattle.newt_pagelog.specs.Kept.{Entries, page_in, map_of, numbers_in, get_map, is_kept, needed, all_of, AreSound}
use Rattle.newt_pagelog.proofs.Maps.{turned, same_maps}
use Rattle.newt_pagelog.proofs.Counts.{live-is, numbers-after, any_numbers}
use Rattle.newt_pagelog.proofs.Spelling.{fewer_deletes, is_distinct, distinct_is, back_distinct, not_put, front_small}

-- a record more
after-append : (ps : List (List ℕ)) (payload : List ℕ) (m live : Pages) (change : Change) → pages_after ps m ≡ Some live → change_in payload ≡ Some change → pages_after (ps ++ payload ∷ []) m ≡ Some (after change live)
after-append [] payload m live change is says = ap (λ (o : Option Change). and_then o (λ c. Some (after c m))) says ∙ ap (λ (l : Pages). Some (after change l)) (some_inj m live is)
after-append (p ∷ ps) payload m live change is says = through (change_in p) (λ c. pages_after ps (after c m)) (λ c. pages_after (ps ++ payload ∷ []) (after c m)) is (λ c e. after-append ps payload (after c m) live change e says) where
  through : (o : Option Change) (f g : Change → Option Pages) → and_then o f ≡ Some live → ((c : Change) → f c ≡ Some live → g c ≡ Some (after change live)) → and_then o g ≡ Some (after change live)
  through None f g e h = absurd (cc)
  through (Some c) f g e h = h c e

pub read-appended : (before : Option (List (List ℕ))) (payload : List ℕ) (live : Pages) (change : Change) (image : List ℕ) → records image ≡ appended before payload → and_then before (λ ps. pages_after ps map.empty) ≡ Some live
    → change_in payload ≡ Some change → pages image ≡ Some (after change live)
read-appended None payload live change image is old says = absurd (cc)
read-appended (Some ps) payload live change image is old says = ap (λ (r : Option (List (List ℕ))). and_then r (λ ps. pages_after ps map.empty)) is ∙ after-append ps payload map.empty live change old says

pub read-alone : (payload : List ℕ) (change : Change) (image : List ℕ) → records image ≡ Some (payload ∷ []) → change_in payload ≡ Some change → pages image ≡ Some (after change map.empty)
read-alone payload change image is says = ap (λ (r : Option (List (List ℕ))). and_then r (λ ps. pages_after ps map.empty)) is ∙ ap (λ (o : Option Change). and_then o (λ c. Some (after c map.empty))) says

pub read-same : (image other : List ℕ) → records image ≡ records other → pages image ≡ pages other
read-same image other same = ap (λ (r : Option (List (List ℕ))). and_then r (λ ps. pages_after ps map.empty)) same

-- the map after a change, at a number
not_by_puts : (puts : List Put) (m : Pages) (q : ℕ) → list_any (λ put. q == put.0) puts ≡ false → map.get (with_puts puts m) q ≡ map.get m q
not_by_puts [] m q e = refl
not_by_puts (p ∷ puts) m q e =
    let n = neither (q == p.0) (list_any (λ put. q == put.0) puts) e in
    not_by_puts puts (map.insert m p.0 p.1) q n.1 ∙ get_insert m p.0 p.1 q ∙ ap (λ (b : Bool). cond b (Some p.1) (map.get m q)) n.0

-- of the numbers that pass, q is one where it is one of all and passes
filtered_step : (q n : ℕ) (p : ℕ → Bool) (b a : Bool) (zs : List ℕ) → p n ≡ b → list_any (λ m. q == m) zs ≡ (a && p q) → list_any (λ m. q == m) (cond b (n ∷ zs) zs) ≡ (((q == n) || a) && p q)
filtered_step q n p true a zs e more = ⊎_elim
    (λ (t : (q == n) ≡ true).
    let passes : p q ≡ true = ap p (is_same q n t) ∙ e in
    ap (λ (c : Bool). c || list_any (λ m. q == m) zs) t ∙ sym (ap (λ (c : Bool). (c || a) && p q) t ∙ passes))
    (λ (f : (q == n) ≡ false). ap (λ (c : Bool). c || list_any (λ m. q == m) zs) f ∙ more ∙ sym (ap (λ (c : Bool). (c || a) && p q) f))
    (true_or_false (q == n))
filtered_step q n p false a zs e more = ⊎_elim
    (λ (t : (q == n) ≡ true).
    let fails : p q ≡ false = ap p (is_same q n t) ∙ e in
    more ∙ ap (λ (c : Bool). a && c) fails ∙ and_false a ∙ sym (ap (λ (c : Bool). ((q == n) || a) && c) fails ∙ and_false ((q == n) || a)))
    (λ (f : (q == n) ≡ false). more ∙ sym (ap (λ (c : Bool). (c || a) && p q) f))
    (true_or_false (q == n)) where
      and_false : (a : Bool) → (a && false) ≡ false
      and_false true = refl
      and_false false = refl

any_filtered : (q : ℕ) (p : ℕ → Bool) (ns : List ℕ) → list_any (λ n. q == n) (filter p ns) ≡ (list_any (λ n. q == n) ns && p q)
any_filtered q p [] = refl
any_filtered q p (n ∷ ns) = filtered_step q n p (p n) (list_any (λ m. q == m) ns) (filter p ns) refl (any_filtered q p ns)

-- deletes of pages that are not there do nothing
pub needed-after : (entries : Entries) (change : Change) → all_distinct (change_numbers change) ≡ true → after (needed entries change) (map_of entries) ≡ after change (map_of entries)
needed-after entries change distinct = same_maps (after (needed entries change) (map_of entries)) (after change (map_of entries)) (λ q.
    let puts : Pages = with_puts change.puts (map_of entries) in
    let all : Bool = list_any (λ n. q == n) change.deletes in
    get_without (filter (is_kept entries) change.deletes) puts q ∙ ap (λ (b : Bool). cond b None (map.get puts q)) (any_filtered q (is_kept entries) change.deletes)
    ∙ ⊎_elim
    (λ (t : all ≡ true). ⊎_elim
    (λ (k : is_kept entries q ≡ true). ap (λ (b : Bool). cond (b && is_kept entries q) None (map.get puts q)) t ∙ ap (λ (b : Bool). cond b None (map.get puts q)) k ∙ sym (ap (λ (b : Bool). cond b None (map.get puts q)) t))
    (λ (k : is_kept entries q ≡ false).
    let none : map.get puts q ≡ None = not_by_puts change.puts (map_of entries) q (sym (any_numbers q change.puts) ∙ not_put (map_list (λ (put : Put). put.0) change.puts) change.deletes q distinct t) ∙ get_map entries q ∙ none_is (page_in entries q) k in
    ap (λ (b : Bool). cond (b && is_kept entries q) None (map.get puts q)) t ∙ ap (λ (b : Bool). cond b None (map.get puts q)) k ∙ none ∙ sym (ap (λ (b : Bool). cond b None (map.get puts q)) t))
    (true_or_false (is_kept entries q)))
    (λ (f : all ≡ false). ap (λ (b : Bool). cond (b && is_kept entries q) None (map.get puts q)) f ∙ sym (ap (λ (b : Bool). cond b None (map.get puts q)) f))
    (true_or_false all)
    ∙ sym (get_without change.deletes puts q))

-- all pages, put into an empty map
absent : (q : ℕ) (es : Entries) → list_any (λ n. n == q) (keys_of es) ≡ false → page_in es q ≡ None
absent q [] e = refl
absent q (d ∷ es) e =
    let n = neither (d.0 == q) (list_any (λ n. n == q) (keys_of es)) e in
    ap (λ (b : Bool). cond b (Some d.1) (page_in es q)) (turned q d.0 ∙ n.0) ∙ absent q es n.1

unequal : (k : ℕ) (es : Entries) → IsDistinct nat_eq (k ∷ keys_of es) → page_in es k ≡ None
unequal k es d = absent k es (go (keys_of es) (IsDistinct-head nat_eq k (keys_of es) d)) where
  go : (ns : List ℕ) → AllByRecursion (λ m. (k == m) ≡ false) ns → list_any (λ n. n == k) ns ≡ false
  go [] all = refl
  go (n ∷ ns) all = ap (λ (b : Bool). b || list_any (λ n. n == k) ns) (turned n k ∙ all.0) ∙ go ns all.1

pub put_all : (es : Entries) (m : Pages) (q : ℕ) → IsDistinct nat_eq (keys_of es) → map.get (with_puts es m) q ≡ cond (is_some (page_in es q)) (page_in es q) (map.get m q)
put_all [] m q d = refl
put_all (e ∷ es) m q d =
    let rest : Option (List ℕ) = page_in es q in
    put_all es (map.insert m e.0 e.1) q (IsDistinct-tail nat_eq e.0 (keys_of es) d) ∙ ap (λ (o : Option (List ℕ)). cond (is_some rest) rest o) (get_insert m e.0 e.1 q) ∙ ⊎_elim
    (λ (t : (q == e.0) ≡ true).
    let none : rest ≡ None = ap (page_in es) (is_same q e.0 t) ∙ unequal e.0 es d in
    ap (λ (o : Option (List ℕ)). cond (is_some o) o (cond (q == e.0) (Some e.1) (map.get m q))) none ∙ ap (λ (b : Bool). cond b (Some e.1) (map.get m q)) t
    ∙ sym (ap (λ (b : Bool). cond (is_some (cond b (Some e.1) rest)) (cond b (Some e.1) rest) (map.get m q)) t))
    (λ (f : (q == e.0) ≡ false). ap (λ (b : Bool). cond (is_some rest) rest (cond b (Some e.1) (map.get m q))) f ∙ sym (ap (λ (b : Bool). cond (is_some (cond b (Some e.1) rest)) (cond b (Some e.1) rest) (map.get m q)) f))
    (true_or_false (q == e.0))

pub all-after : (es : Entries) → IsDistinct nat_eq (keys_of es) → after (all_of es) map.empty ≡ map_of es
all-after es d = same_maps (after (all_of es) map.empty) (map_of es) (λ q. put_all es map.empty q d ∙ ap (λ (o : Option (List ℕ)). cond (is_some (page_in es q)) (page_in es q) o) (map.get-empty nat_cmp q)
    ∙ itself (page_in es q) ∙ sym (get_map es q)) where
      itself : (o : Option (List ℕ)) → cond (is_some o) o None ≡ o
      itself None = refl
      itself (Some x) = refl

-- and they are a batch
entry_kept : (es : Entries) (k : ℕ) (e : Put) → IsDistinct nat_eq (keys_of es) → slice_get es k ≡ Some e → page_in es e.0 ≡ Some e.1
entry_kept es k e d at = lookup_from_place nat_eq_equiv es k e.0 e.1 d at

pub all_is_batch : (es : Entries) → AreSound es → IsBatch (all_of es)
all_is_batch es s = record {
  whole_pages = All_from (λ put. length put.1 ≡ 512) es (λ k e at. s.whole e.0 e.1 (entry_kept es k e s.unique at));
  small = subst (All (λ n. n < 65536)) (sym (append-nil (map_list (λ (p : Put). p.0) es))) (All_map es (λ k e at. s.small e.0 e.1 (entry_kept es k e s.unique at)));
  distinct = ap all_distinct (append-nil (map_list (λ (p : Put). p.0) es)) ∙ is_distinct (keys_of es) s.unique;
} where
  All_from : (P : Put → Type 0) (es : Entries) → ((k : ℕ) (e : Put) → slice_get es k ≡ Some e → P e) → All P es
  All_from P [] each = All-nil P
  All_from P (e ∷ es) each = All-cons P e es (each zero e refl) (All_from P es (λ k d at. each (suc k) d at))

  All_map : (es : Entries) → ((k : ℕ) (e : Put) → slice_get es k ≡ Some e → e.0 < 65536) → All (λ n. n < 65536) (map_list (λ (p : Put). p.0) es)
  All_map [] each = All-nil (λ n. n < 65536)
  All_map (e ∷ es) each = All-cons (λ n. n < 65536) e.0 (map_list (λ (p : Put). p.0) es) (each zero e refl) (All_map es (λ k d at. each (suc k) d at))

-- what is there after a batch was there, or is put
after_from : (puts : List Put) (ns : List ℕ) (m : Pages) (q : ℕ) (page : List ℕ) → map.get (without_numbers ns (with_puts puts m)) q ≡ Some page → (map.get m q ≡ Some page) ⊎ ((k : ℕ) × (slice_get puts k ≡ Some (q, page)))
after_from puts ns m q page e = by_puts puts m (kept (list_any (λ n. q == n) ns) (map.get (with_puts puts m) q) (sym (get_without ns (with_puts puts m) q) ∙ e)) where
  kept : (b : Bool) (o : Option (List ℕ)) → cond b None o ≡ Some page → o ≡ Some page
  kept true o h = absurd (cc)
  kept false o h = h

  by_puts : (puts : List Put) (m : Pages) → map.get (with_puts puts m) q ≡ Some page → (map.get m q ≡ Some page) ⊎ ((k : ℕ) × (slice_get puts k ≡ Some (q, page)))
  by_puts [] m h = inl h
  by_puts (p ∷ puts) m h = ⊎_elim
      (λ (old : map.get (map.insert m p.0 p.1) q ≡ Some page). ⊎_elim
      (λ (t : (q == p.0) ≡ true).
      let same : p.1 ≡ page = some_inj p.1 page (sym (ap (λ (b : Bool). cond b (Some p.1) (map.get m q)) t) ∙ sym (get_insert m p.0 p.1 q) ∙ old) in
      inr (zero, ap Some (λ i. (sym (is_same q p.0 t) i, same i))))
      (λ (f : (q == p.0) ≡ false). inl (sym (get_insert m p.0 p.1 q ∙ ap (λ (b : Bool). cond b (Some p.1) (map.get m q)) f) ∙ old))
      (true_or_false (q == p.0)))
      (λ (w : (k : ℕ) × (slice_get puts k ≡ Some (q, page))). inr (suc w.0, w.1))
      (by_puts puts (map.insert m p.0 p.1) h)

put_number : (puts : List Put) (rest : List ℕ) (k : ℕ) (p : Put) → slice_get puts k ≡ Some p → All (λ n. n < 65536) (map_list (λ (p : Put). p.0) puts ++ rest) → p.0 < 65536
put_number [] rest k p at all = absurd (cc)
put_number (d ∷ puts) rest zero p at all = let same : d ≡ p = some_inj d p at in subst (λ (p : Put). p.0 < 65536) same (All-head (λ n. n < 65536) d.0 (map_list (λ (p : Put). p.0) puts ++ rest) all)
put_number (d ∷ puts) rest (suc k) p at all = put_number puts rest k p at (All-tail (λ n. n < 65536) d.0 (map_list (λ (p : Put). p.0) puts ++ rest) all)

put_whole : (puts : List Put) (k : ℕ) (p : Put) → slice_get puts k ≡ Some p → All (λ put. length put.1 ≡ 512) puts → length p.1 ≡ 512
put_whole [] k p at all = absurd (cc)
put_whole (d ∷ puts) zero p at all = let same : d ≡ p = some_inj d p at in subst (λ (p : Put). length p.1 ≡ 512) same (All-head (λ (put : Put). length put.1 ≡ 512) d puts all)
put_whole (d ∷ puts) (suc k) p at all = put_whole puts k p at (All-tail (λ (put : Put). length put.1 ≡ 512) d puts all)

pub sound-after : (old new : Entries) (change : Change) → AreSound old → IsBatch change → map_of new ≡ after change (map_of old) → IsDistinct nat_eq (keys_of new) → length new < 65536 → AreSound new
sound-after old new change s batch is unique few = record {
  unique = unique;
  few = few;
  small = λ q page e. ⊎_elim
      (λ (was : map.get (map_of old) q ≡ Some page). s.small q page (sym (get_map old q) ∙ was))
      (λ (w : (k : ℕ) × (slice_get change.puts k ≡ Some (q, page))). put_number change.puts change.deletes w.0 (q, page) w.1 batch.small)
      (where_from q page e);
  whole = λ q page e. ⊎_elim
      (λ (was : map.get (map_of old) q ≡ Some page). s.whole q page (sym (get_map old q) ∙ was))
      (λ (w : (k : ℕ) × (slice_get change.puts k ≡ Some (q, page))). put_whole change.puts w.0 (q, page) w.1 batch.whole_pages)
      (where_from q page e);
} where
  where_from : (q : ℕ) (page : List ℕ) → page_in new q ≡ Some page → (map.get (map_of old) q ≡ Some page) ⊎ ((k : ℕ) × (slice_get change.puts k ≡ Some (q, page)))
  where_from q page e = after_from change.puts change.deletes (map_of old) q page (ap (λ (m : Pages). map.get m q) (sym is) ∙ get_map new q ∙ e)

-- how many pages there are after a batch
pub live-after : (old new : Entries) (change : Change) → map_of new ≡ after change (map_of old) → IsDistinct nat_eq (keys_of new) → length new ≡ set.len (changed_numbers change (numbers_in old))
live-after old new change is unique = sym (live-is new unique) ∙ ap (λ (s : Numbers). set.len s) (numbers-after old new change is)

-- of distinct numbers, those that are there are no more than the pages
pub few_kept : {V : Type 0} (entries : List (ℕ × V)) (change : Change) → IsBatch change → length (filter (is_kept entries) change.deletes) ≤ length entries
few_kept entries change batch =
    let less = fewer_deletes (is_kept entries) change batch in
    let gone : List ℕ = filter (is_kept entries) change.deletes in
    let distinct : IsDistinct nat_eq gone = distinct_is gone (back_distinct (map_list (λ (put : Put). put.0) change.puts) gone less.distinct) in
    length-le_from_keys nat_eq_equiv gone entries distinct (λ q there. kept_there q (sym (any_filtered q (is_kept entries) change.deletes) ∙ there)) where
      kept_there : (q : ℕ) → (list_any (λ n. q == n) change.deletes && is_kept entries q) ≡ true → IsSome (lookup (nat_eq q) entries)
      kept_there q e = right (list_any (λ n. q == n) change.deletes) (is_kept entries q) e where
        right : (a b : Bool) → (a && b) ≡ true → b ≡ true
        right true b h = h
        right false b h = absurd (cc)

-- those of a list that pass are no more than all
pub fewer : (p : ℕ → Bool) (ns : List ℕ) → length (filter p ns) ≤ length ns
fewer p [] = omega arith
fewer p (n ∷ ns) = choose (p n) (fewer p ns) where
  choose : (b : Bool) → length (filter p ns) ≤ length ns → length (cond b (n ∷ filter p ns) (filter p ns)) ≤ suc (length ns)
  choose true low = omega (arith, low)
  choose false low = omega (arith, low)

-- distinct numbers below some number are at most so many
down : ℕ → Entries
down zero = []
down (suc m) = (m, []) ∷ down m

down-length : (m : ℕ) → length (down m) ≡ m
unfolding down
down-length zero = refl
down-length (suc m) = ap suc (down-length m)

down-there : (m q : ℕ) → q < m → IsSome (page_in (down m) q)
unfolding down
down-there zero q low = absurd (omega (arith, low))
down-there (suc m) q low = ⊎_elim
    (λ (t : (q == m) ≡ true). subst (λ (b : Bool). IsSome (cond b (Some []) (page_in (down m) q))) (sym t) refl)
    (λ (f : (q == m) ≡ false). subst (λ (b : Bool). IsSome (cond b (Some []) (page_in (down m) q))) (sym f) (down-there m q (grind (arith, nat_tests, low, f))))
    (true_or_false (q == m))

low_of : (m q : ℕ) (ns : List ℕ) → All (λ n. n < m) ns → list_any (λ n. q == n) ns ≡ true → q < m
low_of m q [] all there = absurd (cc)
low_of m q (n ∷ ns) all there = ⊎_elim
    (λ (t : (q == n) ≡ true). subst (λ (k : ℕ). k < m) (sym (is_same q n t)) (All-head (λ n. n < m) n ns all))
    (λ (f : (q == n) ≡ false). low_of m q ns (All-tail (λ n. n < m) n ns all) (sym (ap (λ (b : Bool). b || list_any (λ n. q == n) ns) f) ∙ there))
    (true_or_false (q == n))

pigeons : (m : ℕ) (ns : List ℕ) → IsDistinct nat_eq ns → All (λ n. n < m) ns → length ns ≤ m
pigeons m ns distinct small = subst (λ (k : ℕ). length ns ≤ k) (down-length m) (length-le_from_keys nat_eq_equiv ns (down m) distinct (λ q there. down-there m q (low_of m q ns small there)))

pub front_distinct : (xs ys : List ℕ) → all_distinct (xs ++ ys) ≡ true → all_distinct xs ≡ true
front_distinct [] ys d = refl
front_distinct (x ∷ xs) ys d =
    let parts = and_parts (not (list_any (λ m. x == m) (xs ++ ys))) (all_distinct (xs ++ ys)) d in
    let n = neither (list_any (λ m. x == m) xs) (list_any (λ m. x == m) ys) (sym (list_any-append (λ m. x == m) xs ys) ∙ not-true (list_any (λ m. x == m) (xs ++ ys)) parts.0) in
    ap (λ (b : Bool). not b && all_distinct xs) n.0 ∙ front_distinct xs ys parts.1

put-count : (puts : List Put) → length (map_list (λ (p : Put). p.0) puts) ≡ length puts
put-count [] = refl
put-count (p ∷ puts) = ap suc (put-count puts)

pub few_puts : (change : Change) → IsBatch change → length change.puts ≤ 65536
few_puts change batch =
    let numbers : List ℕ = map_list (λ (p : Put). p.0) change.puts in
    let low : length numbers ≤ 65536 = pigeons 65536 numbers (distinct_is numbers (front_distinct numbers change.deletes batch.distinct)) (front_small numbers change.deletes batch.small) in
    omega (arith, low, put-count change.puts)

-- as many pages as a unit takes are few, and one record with them fits its bank
pub cap-few : (blocks n : ℕ) → blocks ≤ 4099 → n ≤ cap blocks → n < 65536
cap-few blocks n few low = omega (arith, few, low)

pub cap-fits : (blocks n : ℕ) → 13 ≤ blocks → n ≤ cap blocks → 25 + 516 * n ≤ bank_size blocks
cap-fits blocks n enough low = omega (arith, enough, low)
