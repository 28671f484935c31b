-- Places of pages, step by step.
use Rattle.std.proofs.Common.{IsTrue, Result, ◌≡◌, ℕ, ◌+◌, ◌-◌, ◌*◌, ◌<◌, ◌≤◌, ◌==◌, ◌&&◌, nat_le, Bool, true, false, cond, nat_eq, List, [], length, take, drop, Option, Some, None, refl, sym, ◌∙◌, ap, subst, arith, ⊎_elim, length-take, length-drop}
use Rattle.std.proofs.lemmas.List.{drop-drop, drop-take, take-take}
use Rattle.std.proofs.lemmas.Map.Made.{lookup-map_values}
use Rattle.std.specs.Int.{from_be_bytes, w16, w32}
use Rattle.std.specs.List.{list_all, IsDistinct}
use Rattle.std.proofs.lemmas.List.Elements.{All-nil}
use Rattle.std.specs.Map.{lookup, keys_of}
use Rattle.std.specs.Option.{option_map}
use Rattle.newt_host.specs.Moments.{Moment, image}
use Rattle.newt_host.specs.Outside.{Outside, OnlyReads}
use Rattle.newt_host.proofs.Outside.{Touches-append, Touches-refl}
use Rattle.newt_spec_image.specs.Pages.{Pages, Change, change_numbers, all_distinct, word_at, short_at, after, puts_from, deletes_from, said_by, is_change, change_in, pages as pages_of_image, pages_after}
use Rattle.newt_journal.specs.Calls.{OpensJournal, Reads}
use Rattle.newt_journal.specs.declared.fault.JournalFault.{JournalFault}
use Rattle.newt_journal.specs.Journal.{Stands}
use Rattle.newt_journal.specs.declared.journal.Journal.{Journal}
use Rattle.newt_journal.proofs.Steps.{bank-fits}
use Rattle.newt_journal.proofs.Walking.{read}
use Rattle.newt_journal.proofs.Recorded.{recorded-told}
use Rattle.newt_spec_image.specs.Records.{and_then, with_first}
use Rattle.newt_pagebook.specs.Batch.{names, puts_one, deletes_one}
use Rattle.newt_pagebook.proofs.Batches.{is_batch-put, is_batch-delete}
use Rattle.newt_pagebook.proofs.Changes.{after_put, after_delete}
use Rattle.newt_pagebook.proofs.Tests.{the_some, true_or_false, is_same, some_inj, equal_false}
use Rattle.newt_pagelog.specs.Kept.{page_in, map_of, get_map}
use Rattle.newt_pagelog.specs.Replay.{IsSeen, IsTaken}
use Rattle.newt_pagelog.specs.Placed.{Places, lifted, page_from, page_of, AreNumbered, HoldsAt, IsPlaced, ArePlaced, Replayed, ReplaysRecord}
use Rattle.newt_pagelog.proofs.Maps.{turned, map_is, same_entries}
use Rattle.newt_pagelog.proofs.Payloads.{batch_is_change, the_change_in, seen-put, seen-delete, puts-push, deletes-push}
use Rattle.newt_pagelog.proofs.Replaying.{stands-on, step-read, step-none}

-- reads, one after the other
pub looks-stands : (told : Bool) (j : Journal) (a b : Outside) → OnlyReads j.unit a b → Stands told j a → Stands told j b
looks-stands told j a b looks stands = stands-on told j a b looks.alone looks.moment stands

pub looks-image : (u : ℕ) (a b : Outside) → OnlyReads u a b → image u b.now ≡ image u a.now
looks-image u a b looks = ap (λ (m : Moment). image u m) looks.moment

pub looks-read : {T E : Type 0} {r : Result T E} {u n : ℕ} {a b : Outside} → Reads u n r a b → OnlyReads u a b
looks-read reads = record { moment = reads.moment; alone = reads.alone; programmed = omega (arith, reads.costs.programmed); wears = reads.wears }

pub opened-looks : {T : Type 0} {r : Result T JournalFault} {u n : ℕ} {a b : Outside} → OpensJournal u n r a b → OnlyReads u a b
opened-looks opens = record { moment = opens.moment; alone = opens.alone; programmed = omega (arith, opens.costs.programmed); wears = opens.wears }

-- what stands within a piece of an image
pub held-inside : (told : Bool) (j : Journal) (o : Outside) → Stands told j o → IsTrue told → j.end ≤ length (image j.unit o.now)
held-inside told j o stands tells = let held = stands.held tells in omega (arith, held.bank.size, bank-fits j.blocks j.bank j.enough, j.high)

pub length-page : (img : List ℕ) (at : ℕ) → at + 512 ≤ length img → length (page_from img at) ≡ 512
length-page img at fits = omega (arith, fits, length-take 512 (drop at img), length-drop at img)

pub piece : (img : List ℕ) (at len k n : ℕ) → k + n ≤ len → take n (drop k (take len (drop at img))) ≡ take n (drop (at + k) img)
piece img at len k n fits =
    let m = len - k in
    let split : len ≡ k + m = omega (arith, fits) in
    ap (λ (l : ℕ). take n (drop k (take l (drop at img)))) split ∙ ap (λ (l : List ℕ). take n l) (drop-take k m (drop at img)) ∙ take-take n m (drop k (drop at img)) (omega (arith, fits))
    ∙ ap (λ (l : List ℕ). take n l) (drop-drop k at img)

pub word-piece : (img : List ℕ) (at len k : ℕ) → k + 4 ≤ len → word_at k (take len (drop at img)) ≡ word_at (at + k) img
word-piece img at len k fits = ap (λ (l : List ℕ). from_be_bytes w32 l) (piece img at len k 4 fits)

pub short-piece : (img : List ℕ) (at len k : ℕ) → k + 2 ≤ len → short_at k (take len (drop at img)) ≡ short_at (at + k) img
short-piece img at len k fits = ap (λ (l : List ℕ). from_be_bytes w16 l) (piece img at len k 2 fits)

pub grown-one : (b : Bool) (m n : ℕ) → m ≡ n + cond b 0 1 → m ≤ n + 1
grown-one true m n is = omega (arith, is)
grown-one false m n is = omega (arith, is)

pub shrunk : (b : Bool) (m n : ℕ) → m + cond b 1 0 ≡ n → m ≤ n
shrunk true m n is = omega (arith, is)
shrunk false m n is = omega (arith, is)

-- look-ups
pub lookup-lifted : (page : ℕ → List ℕ) (places : Places) (q : ℕ) → page_in (lifted page places) q ≡ option_map page (lookup (nat_eq q) places)
lookup-lifted page places q = lookup-map_values page (nat_eq q) places

map_cond : (page : ℕ → List ℕ) (b : Bool) (x y : Option ℕ) → option_map page (cond b x y) ≡ cond b (option_map page x) (option_map page y)
map_cond page true x y = refl
map_cond page false x y = refl

same-map : (f g : ℕ → List ℕ) (o : Option ℕ) → ((at : ℕ) → o ≡ Some at → f at ≡ g at) → option_map f o ≡ option_map g o
same-map f g None same = refl
same-map f g (Some at) same = ap (λ (x : List ℕ). Some x) (same at refl)

-- what stands at the places is the same
pub lifted-same : (f g : ℕ → List ℕ) (places : Places) → ((q at : ℕ) → lookup (nat_eq q) places ≡ Some at → f at ≡ g at) → map_of (lifted f places) ≡ map_of (lifted g places)
lifted-same f g places same = same_entries (lifted g places) (lifted f places) (λ q. lookup-lifted f places q ∙ same-map f g (lookup (nat_eq q) places) (same q) ∙ sym (lookup-lifted g places q))

-- the places of a journal that stands are those of its records
pub holds-from : (told : Bool) (j : Journal) (o : Outside) (places : Places) → Stands told j o → IsTrue told → ArePlaced j places → pages_of_image (image j.unit o.now) ≡ Some (map_of (lifted (page_from (image j.unit o.now)) places))
    → HoldsAt j (image j.unit o.now) places
holds-from told j o places stands tells placed is =
    let held = stands.held tells in
    let read_is = read j o.now held in
    record {
      payloads = held.payloads;
      read = read_is;
      holds = is ∙ ap (λ (m : Pages). Some m) (lifted-same (page_from (image j.unit o.now)) (page_of j held.payloads) places (λ q at there. recorded-told told j o stands tells held.payloads read_is at 512 (placed q at there).low (placed q at there).high));
    }

-- and the pages of an image are those that stand there
pub pages-from : (told : Bool) (j : Journal) (o : Outside) (places : Places) → Stands told j o → IsTrue told → ArePlaced j places → HoldsAt j (image j.unit o.now) places → pages_of_image (image j.unit o.now) ≡ Some (map_of (lifted (page_from (image j.unit o.now)) places))
pages-from told j o places stands tells placed h =
    h.holds ∙ ap (λ (m : Pages). Some m) (sym (lifted-same (page_from (image j.unit o.now)) (page_of j h.payloads) places (λ q at there. recorded-told told j o stands tells h.payloads h.read at 512 (placed q at there).low (placed q at there).high)))

pub numbered-placed : (j : Journal) (places : Places) → IsDistinct nat_eq (keys_of places) → length places < 65536 → ArePlaced j places → AreNumbered places
numbered-placed j places unique few placed = record {
  unique = unique;
  few = few;
  small = λ q there. let at = the_some (lookup (nat_eq q) places) there in (placed q at.0 at.1).small;
}

-- one record more
pub replay-step : (rest at_rest : Option (List (List ℕ))) (img payload : List ℕ) (old new : Places) (whole : Option Pages) → whole ≡ and_then at_rest (λ ps. pages_after ps (map_of (lifted (page_from img) old)))
    → at_rest ≡ with_first payload rest → ReplaysRecord img payload old new → whole ≡ and_then rest (λ ps. pages_after ps (map_of (lifted (page_from img) new)))
replay-step rest at_rest img payload old new whole read found r =
    let m : Pages = map_of (lifted (page_from img) old) in
    read ∙ ap (λ (r : Option (List (List ℕ))). and_then r (λ ps. pages_after ps m)) found ∙ step-read rest payload r.change m r.says
    ∙ ap (λ (m : Pages). and_then rest (λ ps. pages_after ps m)) (sym r.pages)

pub replay-bad : (rest at_rest : Option (List (List ℕ))) (payload : List ℕ) (live : Pages) (whole : Option Pages) → whole ≡ and_then at_rest (λ ps. pages_after ps live)
    → at_rest ≡ with_first payload rest → change_in payload ≡ None → whole ≡ None
replay-bad rest at_rest payload live whole read found says = read ∙ ap (λ (r : Option (List (List ℕ))). and_then r (λ ps. pages_after ps live)) found ∙ step-none rest payload live says

-- one place more, or one less
pub lifted-put : (page : ℕ → List ℕ) (old new : Places) (n at : ℕ) → ((q : ℕ) → lookup (nat_eq q) new ≡ cond (nat_eq n q) (Some at) (lookup (nat_eq q) old))
    → (q : ℕ) → page_in (lifted page new) q ≡ cond (q == n) (Some (page at)) (page_in (lifted page old) q)
lifted-put page old new n at updates q =
    lookup-lifted page new q ∙ ap (option_map page) (updates q) ∙ map_cond page (nat_eq n q) (Some at) (lookup (nat_eq q) old)
    ∙ ap (λ (b : Bool). cond b (Some (page at)) (option_map page (lookup (nat_eq q) old))) (turned n q)
    ∙ ap (λ (o : Option (List ℕ)). cond (q == n) (Some (page at)) o) (sym (lookup-lifted page old q))

pub lifted-remove : (page : ℕ → List ℕ) (old new : Places) (n : ℕ) → ((q : ℕ) → lookup (nat_eq q) new ≡ cond (nat_eq n q) None (lookup (nat_eq q) old))
    → (q : ℕ) → page_in (lifted page new) q ≡ cond (q == n) None (page_in (lifted page old) q)
lifted-remove page old new n updates q =
    lookup-lifted page new q ∙ ap (option_map page) (updates q) ∙ map_cond page (nat_eq n q) None (lookup (nat_eq q) old)
    ∙ ap (λ (b : Bool). cond b None (option_map page (lookup (nat_eq q) old))) (turned n q)
    ∙ ap (λ (o : Option (List ℕ)). cond (q == n) None o) (sym (lookup-lifted page old q))

pub placed-put : (j : Journal) (old new : Places) (n at : ℕ) → ArePlaced j old → IsPlaced j n at → ((q : ℕ) → lookup (nat_eq q) new ≡ cond (nat_eq n q) (Some at) (lookup (nat_eq q) old)) → ArePlaced j new
placed-put j old new n at placed this updates q p is = ⊎_elim
    (λ (t : nat_eq n q ≡ true).
    let at_is : at ≡ p = some_inj at p (sym (ap (λ (b : Bool). cond b (Some at) (lookup (nat_eq q) old)) t) ∙ sym (updates q) ∙ is) in
    subst (λ (k : ℕ). IsPlaced j k p) (is_same n q t) (subst (λ (a : ℕ). IsPlaced j n a) at_is this))
    (λ (f : nat_eq n q ≡ false). placed q p (sym (ap (λ (b : Bool). cond b (Some at) (lookup (nat_eq q) old)) f) ∙ sym (updates q) ∙ is))
    (true_or_false (nat_eq n q))

pub placed-remove : (j : Journal) (old new : Places) (n : ℕ) → ArePlaced j old → ((q : ℕ) → lookup (nat_eq q) new ≡ cond (nat_eq n q) None (lookup (nat_eq q) old)) → ArePlaced j new
placed-remove j old new n placed updates q p is = ⊎_elim
    (λ (t : nat_eq n q ≡ true). absurd (let none : Some p ≡ None = sym is ∙ updates q ∙ ap (λ (b : Bool). cond b None (lookup (nat_eq q) old)) t in cc))
    (λ (f : nat_eq n q ≡ false). placed q p (sym (ap (λ (b : Bool). cond b None (lookup (nat_eq q) old)) f) ∙ sym (updates q) ∙ is))
    (true_or_false (nat_eq n q))

-- the pages after one put more, and after one delete more
pub replayed-none : (img : List ℕ) (old : Places) (seen : ℕ → Bool) → IsSeen seen (record { puts = []; deletes = [] }) → Replayed img (record { puts = []; deletes = [] }) old old seen
replayed-none img old seen none = record {
  batch = record { whole_pages = All-nil (λ (put : ℕ × List ℕ). length put.1 ≡ 512); small = All-nil (λ n. n < 65536); distinct = refl };
  marks = none;
  pages = λ q. sym (get_map (lifted (page_from img) old) q);
}

pub replayed-put : (img : List ℕ) (change : Change) (old mid new : Places) (seen marked : ℕ → Bool) (n at : ℕ) → Replayed img change old mid seen → IsTaken n seen marked → at + 512 ≤ length img
    → ((q : ℕ) → lookup (nat_eq q) new ≡ cond (nat_eq n q) (Some at) (lookup (nat_eq q) mid)) → Replayed img (puts_one change n (page_from img at)) old new marked
replayed-put img change old mid new seen marked n at r taken fits updates =
    let fresh : names change n ≡ false = sym (r.marks n) ∙ taken.fresh in
    record {
      batch = is_batch-put change r.batch n taken.small fresh (page_from img at) (length-page img at fits);
      marks = seen-put seen marked change n (page_from img at) r.marks taken;
      pages = λ q. lifted-put (page_from img) mid new n at updates q ∙ ap (λ (o : Option (List ℕ)). cond (q == n) (Some (page_from img at)) o) (r.pages q)
          ∙ sym (after_put change (map_of (lifted (page_from img) old)) n (page_from img at) q fresh);
    }

pub replayed-delete : (img : List ℕ) (change : Change) (old mid new : Places) (seen marked : ℕ → Bool) (n : ℕ) → Replayed img change old mid seen → IsTaken n seen marked
    → ((q : ℕ) → lookup (nat_eq q) new ≡ cond (nat_eq n q) None (lookup (nat_eq q) mid)) → Replayed img (deletes_one change n) old new marked
replayed-delete img change old mid new seen marked n r taken updates =
    let fresh : names change n ≡ false = sym (r.marks n) ∙ taken.fresh in
    record {
      batch = is_batch-delete change r.batch n taken.small fresh;
      marks = seen-delete seen marked change n r.marks taken;
      pages = λ q. lifted-remove (page_from img) mid new n updates q ∙ ap (λ (o : Option (List ℕ)). cond (q == n) None o) (r.pages q)
          ∙ sym (after_delete change (map_of (lifted (page_from img) old)) n q);
    }

-- so the record was taken over
pub replayed-says : (img payload : List ℕ) (old new : Places) (seen : ℕ → Bool) → length payload ≡ 4 + 516 * short_at 0 payload + 4 * short_at 2 payload → Replayed img (said_by payload) old new seen → ReplaysRecord img payload old new
replayed-says img payload old new seen whole r = record {
  change = said_by payload;
  says = the_change_in payload (batch_is_change payload whole r.batch);
  pages = map_is (lifted (page_from img) new) (after (said_by payload) (map_of (lifted (page_from img) old))) r.pages;
}

-- a payload of another length says nothing
pub no_change_in : (payload : List ℕ) → is_change payload ≡ false → change_in payload ≡ None
no_change_in payload bad = ap (λ (b : Bool). cond b (Some (said_by payload)) None) bad

pub bad-length : (payload : List ℕ) → (length payload ≡ 4 + 516 * short_at 0 payload + 4 * short_at 2 payload → ⊥) → change_in payload ≡ None
bad-length payload other = no_change_in payload (ap (λ (b : Bool). b && (list_all (λ n. nat_le n 65535) (change_numbers (said_by payload)) && all_distinct (change_numbers (said_by payload))))
    (equal_false (length payload) (4 + 516 * short_at 0 payload + 4 * short_at 2 payload) other))

pub length-piece : (img : List ℕ) (at len : ℕ) → at + len ≤ length img → length (take len (drop at img)) ≡ len
length-piece img at len fits = omega (arith, fits, length-take len (drop at img), length-drop at img)

pub length-short : (img : List ℕ) (at len : ℕ) → length (take len (drop at img)) ≤ len
length-short img at len = omega (arith, length-take len (drop at img))

pub counts-there : (img : List ℕ) (at len p d : ℕ) → 4 ≤ len → p ≡ short_at at img → d ≡ short_at (at + 2) img
    → (p ≡ short_at 0 (take len (drop at img))) × (d ≡ short_at 2 (take len (drop at img)))
counts-there img at len p d long first second = (
  first ∙ ap (λ (k : ℕ). short_at k img) (let e : at ≡ at + 0 = omega arith in e) ∙ sym (short-piece img at len 0 (omega (arith, long))),
  second ∙ sym (short-piece img at len 2 (omega (arith, long))),
)

-- the puts and the deletes of a payload that stands in an image
pub put-there : (img : List ℕ) (at len i : ℕ) → 4 + 516 * i + 516 ≤ len
    → record { puts = puts_from (i + 1) (drop 4 (take len (drop at img))); deletes = [] } ≡ puts_one (record { puts = puts_from i (drop 4 (take len (drop at img))); deletes = [] }) (word_at (at + 4 + 516 * i) img) (page_from img (at + 4 + 516 * i + 4))
put-there img at len i fits =
    let payload = take len (drop at img) in
    let number : word_at (4 + 516 * i) payload ≡ word_at (at + 4 + 516 * i) img = word-piece img at len (4 + 516 * i) (omega (arith, fits)) ∙ ap (λ (k : ℕ). word_at k img) (let e : at + (4 + 516 * i) ≡ at + 4 + 516 * i = omega arith in e) in
    let page : take 512 (drop (4 + 516 * i + 4) payload) ≡ page_from img (at + 4 + 516 * i + 4) = piece img at len (4 + 516 * i + 4) 512 (omega (arith, fits)) ∙ ap (λ (k : ℕ). page_from img k) (let e : at + (4 + 516 * i + 4) ≡ at + 4 + 516 * i + 4 = omega arith in e) in
    ap (λ (l : List (ℕ × List ℕ)). record { puts = l; deletes = [] }) (puts-push payload i)
    ∙ (λ k. puts_one (record { puts = puts_from i (drop 4 payload); deletes = [] }) (number k) (page k))

pub delete-there : (img : List ℕ) (at len puts i : ℕ) (before : List (ℕ × List ℕ)) → 4 + 516 * puts + 4 * i + 4 ≤ len
    → record { puts = before; deletes = deletes_from (i + 1) (drop (4 + 516 * puts) (take len (drop at img))) } ≡ deletes_one (record { puts = before; deletes = deletes_from i (drop (4 + 516 * puts) (take len (drop at img))) }) (word_at (at + 4 + 516 * puts + 4 * i) img)
delete-there img at len puts i before fits =
    let payload = take len (drop at img) in
    let number : word_at (4 + 516 * puts + 4 * i) payload ≡ word_at (at + 4 + 516 * puts + 4 * i) img = word-piece img at len (4 + 516 * puts + 4 * i) (omega (arith, fits)) ∙ ap (λ (k : ℕ). word_at k img) (let e : at + (4 + 516 * puts + 4 * i) ≡ at + 4 + 516 * puts + 4 * i = omega arith in e) in
    ap (λ (l : List ℕ). record { puts = before; deletes = l }) (deletes-push payload puts i)
    ∙ ap (λ (n : ℕ). deletes_one (record { puts = before; deletes = deletes_from i (drop (4 + 516 * puts) payload) }) n) number
