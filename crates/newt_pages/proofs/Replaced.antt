-- What the pages are once all of them are one record, and where they stand.
use Rattle.std.proofs.Common.{IsTrue, ◌≡◌, ℕ, zero, suc, ◌+◌, ◌-◌, ◌<◌, ◌≤◌, ◌==◌, ◌||◌, Bool, true, false, cond, nat_eq, List, [], ◌∷◌, ◌++◌, length, map as map_list, drop, Option, Some, None, refl, sym, ◌∙◌, ap, subst, arith, ⊎_elim, append-nil, append_assoc, length-append, length-take, length-drop}
use Rattle.std.specs.List.{list_any, IsDistinct}
use Rattle.std.specs.Map.{lookup, keys_of}
use Rattle.std.specs.Option.{option_map, is_some}
use Rattle.std.specs.FinMap as map
use Rattle.std.specs.FinSet as set
use Rattle.std.proofs.lemmas.Bool.{cases_eq, cases_lt}
use Rattle.std.proofs.lemmas.List.{map-append}
use Rattle.std.proofs.lemmas.List.Folds.{list_any-append}
use Rattle.std.proofs.lemmas.Map.Made.{is_some-lookup}
use Rattle.newt_host.specs.Moments.{image}
use Rattle.newt_host.specs.Outside.{Outside}
use Rattle.newt_spec_image.specs.Records.{records}
use Rattle.newt_spec_image.specs.Pages.{Pages, Put, Change, all_distinct, with_puts, after, change_in, written_change}
use Rattle.newt_journal.specs.Journal.{records_bytes, Stands}
use Rattle.newt_journal.specs.Places.{first_place}
use Rattle.newt_journal.specs.declared.journal.Journal.{Journal}
use Rattle.newt_journal.proofs.Recorded.{end-told}
use Rattle.newt_pagebook.specs.Batch.{IsBatch}
use Rattle.newt_pagebook.specs.Book.{Numbers, changed_numbers}
use Rattle.newt_pagebook.proofs.Batches.{distinct-middle}
use Rattle.newt_pagebook.proofs.Changes.{get_without}
use Rattle.newt_pagebook.proofs.Tests.{some_inj, true_or_false, the_some, none_is, equal_true, equal_false}
use Rattle.newt_pagelog.specs.Kept.{Entries, AreSound, page_in, map_of, numbers_in, is_kept, get_map, all_of}
use Rattle.newt_pagelog.specs.Placed.{Places, lifted, page_of, AreNumbered, ArePlaced}
use Rattle.newt_pagelog.proofs.Maps.{map_is}
use Rattle.newt_pagelog.proofs.Counts.{any_numbers}
use Rattle.newt_pagelog.proofs.Spelling.{written-says, not_put, distinct_is}
use Rattle.newt_pagelog.proofs.Changing.{all_is_batch, sound-after, live-after, put_all, front_distinct}
use Rattle.newt_pagelog.proofs.Placing.{lookup-lifted}
use Rattle.newt_pages.specs.Copies.{below, place_at}
use Rattle.newt_pages.specs.Disk.{StandAt, keys-lifted}
use Rattle.newt_pages.proofs.Copying.{below-none, below-more}
use Rattle.newt_pages.proofs.Tables.{length-lifted, numbers-lifted, kept-lifted}
use Rattle.newt_pages.proofs.Committed.{stand-appended}

-- a look-up in two lists
abbrev or_else : {A : Type 0} → Option A → Option A → Option A
or_else (Some x) o = Some x
or_else None o = o

else_step : {A : Type 0} (b : Bool) (x : A) (r o : Option A) → cond b (Some x) (or_else r o) ≡ or_else (cond b (Some x) r) o
else_step true x r o = refl
else_step false x r o = refl

lookup-two : {A : Type 0} (t : ℕ → Bool) (xs ys : List (ℕ × A)) → lookup t (xs ++ ys) ≡ or_else (lookup t xs) (lookup t ys)
lookup-two t [] ys = refl
lookup-two t (x ∷ xs) ys = ap (cond (t x.0) (Some x.1)) (lookup-two t xs ys) ∙ else_step (t x.0) x.1 (lookup t xs) (lookup t ys)

or_none : {A : Type 0} (o : Option A) → or_else o None ≡ o
or_none None = refl
or_none (Some x) = refl

-- what is below a number
place-here : (n : ℕ) (o : Option ℕ) → lookup (nat_eq n) (place_at n o) ≡ o
place-here n None = refl
place-here n (Some at) = ap (λ (b : Bool). cond b (Some at) None) (equal_true n n refl)

place-else : (n q : ℕ) (o : Option ℕ) → (q ≡ n → ⊥) → lookup (nat_eq q) (place_at n o) ≡ None
place-else n q None ne = refl
place-else n q (Some at) ne = ap (λ (b : Bool). cond b (Some at) None) (equal_false q n ne)

one-more : (front : Places) (n : ℕ) (o : Option ℕ) (others : List ℕ) → all_distinct (keys_of front ++ others) ≡ true → list_any (λ m. n == m) (keys_of front) ≡ false → (is_some o ≡ true → list_any (λ m. n == m) others ≡ false)
    → all_distinct (keys_of (front ++ place_at n o) ++ others) ≡ true
one-more front n None others distinct fresh apart = ap (λ (l : Places). all_distinct (keys_of l ++ others)) (append-nil front) ∙ distinct
one-more front n (Some at) others distinct fresh apart =
    ap (λ (l : List ℕ). all_distinct (l ++ others)) (map-append (λ (e : ℕ × ℕ). e.0) front ((n, at) ∷ [])) ∙ ap all_distinct (append_assoc (keys_of front) (n ∷ []) others)
    ∙ distinct-middle (keys_of front) others n distinct (list_any-append (λ m. n == m) (keys_of front) others ∙ both fresh (apart refl)) where
      both : {a b : Bool} → a ≡ false → b ≡ false → (a || b) ≡ false
      both {a = a} {b = b} e f = ap (λ (x : Bool). x || b) e ∙ f

module _ (places : Places) where
  pub below-not : (n q : ℕ) → n ≤ q → lookup (nat_eq q) (below n places) ≡ None
  below-not zero q low = ap (λ (l : Places). lookup (nat_eq q) l) (below-none places)
  below-not (suc n) q low =
      ap (λ (l : Places). lookup (nat_eq q) l) (ap (λ (k : ℕ). below k places) (let e : suc n ≡ n + 1 = omega arith in e) ∙ below-more n places) ∙ lookup-two (nat_eq q) (below n places) (place_at n (lookup (nat_eq n) places))
      ∙ ap (λ (o : Option ℕ). or_else o (lookup (nat_eq q) (place_at n (lookup (nat_eq n) places)))) (below-not n q (omega (arith, low))) ∙ place-else n q (lookup (nat_eq n) places) (λ is. omega (arith, is, low))

  pub below-has : (n q : ℕ) → q < n → lookup (nat_eq q) (below n places) ≡ lookup (nat_eq q) places
  below-has zero q low = absurd (omega (arith, low))
  below-has (suc n) q low =
      let o = lookup (nat_eq n) places in
      ap (λ (l : Places). lookup (nat_eq q) l) (ap (λ (k : ℕ). below k places) (let e : suc n ≡ n + 1 = omega arith in e) ∙ below-more n places) ∙ lookup-two (nat_eq q) (below n places) (place_at n o)
      ∙ ⊎_elim
      (λ (is : q ≡ n). ap (λ (r : Option ℕ). or_else r (lookup (nat_eq q) (place_at n o))) (below-not n q (omega (arith, is)))
      ∙ ap (λ (k : ℕ). lookup (nat_eq k) (place_at n o)) is ∙ place-here n o ∙ ap (λ (k : ℕ). lookup (nat_eq k) places) (sym is))
      (λ (ne : q ≡ n → ⊥). ap (λ (r : Option ℕ). or_else r (lookup (nat_eq q) (place_at n o))) (below-has n q (omega (arith, low, ne)))
      ∙ ap (or_else (lookup (nat_eq q) places)) (place-else n q o ne) ∙ or_none (lookup (nat_eq q) places))
      (cases_eq q n)

  -- all of them, where no number is larger
  pub below-all : (n : ℕ) → ((q : ℕ) → is_kept places q ≡ true → q < n) → (q : ℕ) → lookup (nat_eq q) (below n places) ≡ lookup (nat_eq q) places
  below-all n small q = ⊎_elim
      (λ (t : is_kept places q ≡ true). below-has n q (small q t))
      (λ (f : is_kept places q ≡ false). ⊎_elim
      (λ (low : q < n). below-has n q low)
      (λ (high : n ≤ q). below-not n q high ∙ sym (none_is (lookup (nat_eq q) places) f))
      (cases_lt q n))
      (true_or_false (is_kept places q))

  -- their numbers, and others that are none of them
  pub below-distinct : (n : ℕ) (others : List ℕ) → all_distinct others ≡ true → ((q : ℕ) → is_kept places q ≡ true → list_any (λ m. q == m) others ≡ false) → all_distinct (keys_of (below n places) ++ others) ≡ true
  below-distinct zero others distinct apart = ap (λ (l : Places). all_distinct (keys_of l ++ others)) (below-none places) ∙ distinct
  below-distinct (suc n) others distinct apart =
      let before = below-distinct n others distinct apart in
      let fresh : list_any (λ m. n == m) (keys_of (below n places)) ≡ false = sym (is_some-lookup (nat_eq n) (below n places)) ∙ ap is_some (below-not n n (omega arith)) in
      ap (λ (l : Places). all_distinct (keys_of l ++ others)) (ap (λ (k : ℕ). below k places) (let e : suc n ≡ n + 1 = omega arith in e) ∙ below-more n places)
      ∙ one-more (below n places) n (lookup (nat_eq n) places) others before fresh (apart n)

-- the pages that stay, with those that are put, are those after the batch
abbrev pub put_there : Change → ℕ → Bool
put_there batch q = list_any (λ put. q == put.0) batch.puts

abbrev pub gone_there : Change → ℕ → Bool
gone_there batch q = list_any (λ n. q == n) batch.deletes

-- what is left of the places: those of no number of the batch
abbrev pub AreLeft : Change → Places → Places → Type 0
AreLeft batch old left = (q : ℕ) → lookup (nat_eq q) left ≡ cond (gone_there batch q) None (cond (put_there batch q) None (lookup (nat_eq q) old))

put_some : (batch : Change) (q : ℕ) → is_some (page_in batch.puts q) ≡ put_there batch q
put_some batch q = is_some-lookup (nat_eq q) batch.puts ∙ any_numbers q batch.puts

not_both : (batch : Change) → IsBatch batch → (q : ℕ) → gone_there batch q ≡ true → put_there batch q ≡ false
not_both batch is q gone = sym (any_numbers q batch.puts) ∙ not_put (map_list (λ (put : Put). put.0) batch.puts) batch.deletes q is.distinct gone

puts-unique : (batch : Change) → IsBatch batch → IsDistinct nat_eq (keys_of batch.puts)
puts-unique batch is = distinct_is (map_list (λ (put : Put). put.0) batch.puts) (front_distinct (map_list (λ (put : Put). put.0) batch.puts) batch.deletes is.distinct)

-- either way of putting the two together
either_way : (p d : Bool) (new old : Option (List ℕ)) → is_some new ≡ p → (d ≡ true → p ≡ false) → or_else (cond d None (cond p None old)) new ≡ cond d None (cond (is_some new) new old)
either_way p true None old some apart = refl
either_way p true (Some x) old some apart = absurd (let no : p ≡ false = apart refl in cc)
either_way true false None old some apart = absurd (cc)
either_way false false None old some apart = or_none old
either_way true false (Some x) old some apart = refl
either_way false false (Some x) old some apart = absurd (cc)

other_way : (p d : Bool) (new old : Option (List ℕ)) → is_some new ≡ p → (d ≡ true → p ≡ false) → cond (is_some new) new (cond d None (cond p None old)) ≡ cond d None (cond (is_some new) new old)
other_way p true None old some apart = refl
other_way p true (Some x) old some apart = absurd (let no : p ≡ false = apart refl in cc)
other_way true false None old some apart = absurd (cc)
other_way false false None old some apart = refl
other_way p false (Some x) old some apart = refl

module _ (batch : Change) (is : IsBatch batch) (old left : Places) (numbered : AreNumbered old) (are_left : AreLeft batch old left) where
  gone : (o : Option ℕ) (d p : Bool) → is_some (cond d None (cond p None o)) ≡ true → (is_some o ≡ true) × (p ≡ false) × (d ≡ false)
  gone o true p e = absurd (cc)
  gone o false true e = absurd (cc)
  gone o false false e = (e, refl, refl)

  left-kept : (q : ℕ) → is_kept left q ≡ true → (is_kept old q ≡ true) × (put_there batch q ≡ false) × (gone_there batch q ≡ false)
  left-kept q there = gone (lookup (nat_eq q) old) (gone_there batch q) (put_there batch q) (sym (ap is_some (are_left q)) ∙ there)

  pub left-small : (q : ℕ) → is_kept left q ≡ true → q < 65536
  left-small q there = numbered.small q (left-kept q there).0

  -- the pages that stay
  pub left-pages : (page : ℕ → List ℕ) (q : ℕ) → page_in (lifted page left) q ≡ cond (gone_there batch q) None (cond (put_there batch q) None (page_in (lifted page old) q))
  left-pages page q = lookup-lifted page left q ∙ ap (option_map page) (are_left q) ∙ two (gone_there batch q) (put_there batch q) (lookup (nat_eq q) old)
      ∙ ap (λ (o : Option (List ℕ)). cond (gone_there batch q) None (cond (put_there batch q) None o)) (sym (lookup-lifted page old q)) where
        two : (d p : Bool) (o : Option ℕ) → option_map page (cond d None (cond p None o)) ≡ cond d None (cond p None (option_map page o))
        two true p o = refl
        two false true o = refl
        two false false o = refl

  -- and those that are put, after them
  abbrev pub whole : (ℕ → List ℕ) → Entries
  whole page = lifted page (below 65536 left) ++ batch.puts

  abbrev old_pages : (ℕ → List ℕ) → Pages
  old_pages page = map_of (lifted page old)

  after-at : (page : ℕ → List ℕ) (q : ℕ) → map.get (after batch (old_pages page)) q ≡ cond (gone_there batch q) None (cond (is_some (page_in batch.puts q)) (page_in batch.puts q) (page_in (lifted page old) q))
  after-at page q = get_without batch.deletes (with_puts batch.puts (old_pages page)) q
      ∙ ap (λ (o : Option (List ℕ)). cond (gone_there batch q) None o) (put_all batch.puts (old_pages page) q (puts-unique batch is) ∙ ap (λ (o : Option (List ℕ)). cond (is_some (page_in batch.puts q)) (page_in batch.puts q) o) (get_map (lifted page old) q))

  below-pages : (page : ℕ → List ℕ) (q : ℕ) → page_in (lifted page (below 65536 left)) q ≡ page_in (lifted page left) q
  below-pages page q = lookup-lifted page (below 65536 left) q ∙ ap (option_map page) (below-all left 65536 left-small q) ∙ sym (lookup-lifted page left q)

  pub whole-after : (page : ℕ → List ℕ) → map_of (whole page) ≡ after batch (old_pages page)
  whole-after page = map_is (whole page) (after batch (old_pages page)) (λ q.
      lookup-two (nat_eq q) (lifted page (below 65536 left)) batch.puts ∙ ap (λ (o : Option (List ℕ)). or_else o (page_in batch.puts q)) (below-pages page q ∙ left-pages page q)
      ∙ either_way (put_there batch q) (gone_there batch q) (page_in batch.puts q) (page_in (lifted page old) q) (put_some batch q) (not_both batch is q) ∙ sym (after-at page q))

  pub whole-unique : (page : ℕ → List ℕ) → IsDistinct nat_eq (keys_of (whole page))
  whole-unique page = distinct_is (keys_of (whole page)) (
      ap all_distinct (map-append (λ (e : ℕ × List ℕ). e.0) (lifted page (below 65536 left)) batch.puts ∙ ap (λ (l : List ℕ). l ++ keys_of batch.puts) (keys-lifted page (below 65536 left)))
      ∙ below-distinct left 65536 (keys_of batch.puts) (front_distinct (map_list (λ (put : Put). put.0) batch.puts) batch.deletes is.distinct)
      (λ q there. any_numbers q batch.puts ∙ (left-kept q there).1))

  -- so they are as many as there are then
  pub whole-count : length (below 65536 left) + length batch.puts ≡ set.len (changed_numbers batch (numbers_in old))
  whole-count =
      let page : ℕ → List ℕ = λ _. [] in
      let count : length (whole page) ≡ set.len (changed_numbers batch (numbers_in (lifted page old))) = live-after (lifted page old) (whole page) batch (whole-after page) (whole-unique page) in
      omega (arith, count, ap (λ (s : Numbers). set.len (changed_numbers batch s)) (numbers-lifted page old), length-append (lifted page (below 65536 left)) batch.puts, length-lifted page (below 65536 left))

  -- the pages at the new places
  module _ (f g : ℕ → List ℕ) (moved new : Places) (same : (q : ℕ) → page_in (lifted g moved) q ≡ page_in (lifted f left) q)
      (placed : (q : ℕ) → page_in (lifted g new) q ≡ map.get (with_puts batch.puts (map_of (lifted g moved))) q) where
    pub moved-after : map_of (lifted g new) ≡ after batch (old_pages f)
    moved-after = map_is (lifted g new) (after batch (old_pages f)) (λ q.
        placed q ∙ put_all batch.puts (map_of (lifted g moved)) q (puts-unique batch is)
        ∙ ap (λ (o : Option (List ℕ)). cond (is_some (page_in batch.puts q)) (page_in batch.puts q) o) (get_map (lifted g moved) q ∙ same q ∙ left-pages f q)
        ∙ other_way (put_there batch q) (gone_there batch q) (page_in batch.puts q) (page_in (lifted f old) q) (put_some batch q) (not_both batch is q) ∙ sym (after-at f q))

-- the pages at places of the records are whole
pub length-recorded : (j : Journal) (payloads : List (List ℕ)) (at : ℕ) → j.end ≡ first_place j + length (records_bytes payloads) → first_place j ≤ at → at + 512 ≤ j.end → length (page_of j payloads at) ≡ 512
length-recorded j payloads at end low high =
    let k = at - first_place j in
    omega (arith, end, low, high, length-take 512 (drop k (records_bytes payloads)), length-drop k (records_bytes payloads))

pub sound-lifted : (told : Bool) (j : Journal) (o : Outside) (payloads : List (List ℕ)) (places : Places) → Stands told j o → IsTrue told → records (image j.unit o.now) ≡ Some payloads → AreNumbered places → ArePlaced j places → AreSound (lifted (page_of j payloads) places)
sound-lifted told j o payloads places stands tells is numbered placed =
    let f = page_of j payloads in
    let end = end-told told j o stands tells payloads is in
    record {
      unique = subst (λ (l : List ℕ). IsDistinct nat_eq l) (sym (keys-lifted f places)) numbered.unique;
      few = omega (arith, numbered.few, length-lifted f places);
      small = λ q page there. numbered.small q (sym (kept-lifted f places q) ∙ ap is_some there);
      whole = λ q page there.
          let at = the_some (lookup (nat_eq q) places) (sym (kept-lifted f places q) ∙ ap is_some there) in
          let p = placed q at.0 at.1 in
          let is_page : f at.0 ≡ page = some_inj (f at.0) page (sym (lookup-lifted f places q ∙ ap (option_map f) at.1) ∙ there) in
          ap (λ (l : List ℕ). length l) (sym is_page) ∙ length-recorded j payloads at.0 end p.low p.high;
    }

-- where its pages stand
pub stand-alone : (k : Journal) (entries : Entries) (first : ℕ) → AreSound entries → first ≡ first_place k + 13 → StandAt (page_of k (written_change (all_of entries) ∷ [])) first entries
stand-alone k entries first sound place =
    let says : change_in (written_change (all_of entries)) ≡ Some (all_of entries) = written-says (all_of entries) (all_is_batch entries sound) sound.few (omega arith) in
    stand-appended k [] (written_change (all_of entries)) (all_of entries) first says (omega (arith, place))

-- what the two removals leave
pub left-of : (batch : Change) (puts : List Put) (deletes : List ℕ) (old mid left : Places) → puts ≡ batch.puts → deletes ≡ batch.deletes
    → ((q : ℕ) → lookup (nat_eq q) mid ≡ cond (list_any (λ put. q == put.0) puts) None (lookup (nat_eq q) old))
    → ((q : ℕ) → lookup (nat_eq q) left ≡ cond (list_any (λ n. q == n) deletes) None (lookup (nat_eq q) mid)) → AreLeft batch old left
left-of batch puts deletes old mid left puts_are deletes_are first second q =
    second q ∙ ap (λ (ns : List ℕ). cond (list_any (λ n. q == n) ns) None (lookup (nat_eq q) mid)) deletes_are
    ∙ ap (λ (o : Option ℕ). cond (gone_there batch q) None o) (first q ∙ ap (λ (ps : List Put). cond (list_any (λ put. q == put.0) ps) None (lookup (nat_eq q) old)) puts_are)

-- the pages after the batch are sound
pub sound-whole : (told : Bool) (j : Journal) (o : Outside) (payloads : List (List ℕ)) (batch : Change) (is : IsBatch batch) (old left : Places) (numbered : AreNumbered old) (are_left : AreLeft batch old left)
    → Stands told j o → IsTrue told → records (image j.unit o.now) ≡ Some payloads → ArePlaced j old → length (below 65536 left) + length batch.puts < 65536 → AreSound (whole batch is old left numbered are_left (page_of j payloads))
sound-whole told j o payloads batch is old left numbered are_left stands tells read placed few =
    let f = page_of j payloads in
    sound-after (lifted f old) (whole batch is old left numbered are_left f) batch (sound-lifted told j o payloads old stands tells read numbered placed) is (whole-after batch is old left numbered are_left f) (whole-unique batch is old left numbered are_left f)
    (omega (arith, few, length-append (lifted f (below 65536 left)) batch.puts, length-lifted f (below 65536 left)))
