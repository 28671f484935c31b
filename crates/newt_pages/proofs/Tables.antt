-- The table of places, step by step.
use Rattle.std.proofs.Common.{◌≡◌, ℕ, zero, suc, ◌+◌, ◌*◌, ◌<◌, ◌==◌, Bool, true, false, cond, ◌||◌, nat_eq, List, [], ◌∷◌, ◌++◌, length, map as map_list, take, get_or, ◌-◌, ◌/◌, Option, Some, None, refl, sym, ◌∙◌, ap, arith}
use Rattle.std.specs.List.{All, list_any, filter}
use Rattle.std.specs.Option.{option_map, is_some}
use Rattle.std.specs.Ordering.{nat_cmp}
use Rattle.std.specs.FinSet as set
use Rattle.std.specs.Map.{lookup}
use Rattle.std.specs.FinMap as map
use Rattle.std.specs.Cmp.{nat_cmp_total}
use Rattle.std.proofs.lemmas.List.{take_more}
use Rattle.std.proofs.lemmas.List.Folds.{list_any-append}
use Rattle.std.proofs.lemmas.List.Elements.{All-head, All-tail, All-cons, All-nil}
use Rattle.newt_spec_image.specs.Pages.{Pages, Put, Change, with_puts, after}
use Rattle.newt_journal.specs.declared.journal.Journal.{Journal}
use Rattle.newt_pagebook.specs.Book.{Numbers, changed_numbers}
use Rattle.newt_pagebook.proofs.Changes.{get_insert}
use Rattle.newt_pagelog.specs.Kept.{page_in, map_of, numbers_in, is_kept, needed, kept_number}
use Rattle.newt_pagelog.specs.Placed.{Places, lifted, IsPlaced, ArePlaced}
use Rattle.newt_pagelog.proofs.Counts.{numbers-after}
use Rattle.newt_pages.specs.Disk.{StandAt, keys-lifted}
use Rattle.newt_pagelog.proofs.Maps.{turned, no_put, same_entries}
use Rattle.newt_pagelog.proofs.Placing.{lifted-put, lookup-lifted}

with_puts-push : (puts : List Put) (n : ℕ) (page : List ℕ) (m : Pages) → with_puts (puts ++ (n, page) ∷ []) m ≡ map.insert (with_puts puts m) n page
with_puts-push [] n page m = refl
with_puts-push (p ∷ puts) n page m = with_puts-push puts n page (map.insert m p.0 p.1)

-- a place more
pub place-step : (page : ℕ → List ℕ) (m : Pages) (puts : List Put) (i at : ℕ) (old new : Places) → i < length puts → page at ≡ (get_or puts i no_put).1
    → ((q : ℕ) → page_in (lifted page old) q ≡ map.get (with_puts (take i puts) m) q)
    → ((q : ℕ) → lookup (nat_eq q) new ≡ cond (nat_eq (get_or puts i no_put).0 q) (Some at) (lookup (nat_eq q) old))
    → (q : ℕ) → page_in (lifted page new) q ≡ map.get (with_puts (take (i + 1) puts) m) q
place-step page m puts i at old new low is same updates q =
    let n = (get_or puts i no_put).0 in
    lifted-put page old new n at updates q ∙ ap (λ (x : List ℕ). cond (q == n) (Some x) (page_in (lifted page old) q)) is
    ∙ ap (λ (o : Option (List ℕ)). cond (q == n) (Some (get_or puts i no_put).1) o) (same q)
    ∙ sym (ap (λ (l : List Put). map.get (with_puts l m) q) (take_more puts i no_put low) ∙ ap (λ (w : Pages). map.get w q) (with_puts-push (take i puts) n (get_or puts i no_put).1 m) ∙ get_insert (with_puts (take i puts) m) n (get_or puts i no_put).1 q)

none_more : (a b : Bool) (o : Option ℕ) → cond (a || (b || false)) None o ≡ cond b None (cond a None o)
none_more true true o = refl
none_more true false o = refl
none_more false true o = refl
none_more false false o = refl

-- a number less
pub number-step : {A : Type 0} (number : A → ℕ) (xs : List A) (i : ℕ) (d : A) (whole old new : Places) → i < length xs
    → ((q : ℕ) → lookup (nat_eq q) old ≡ cond (list_any (λ x. q == number x) (take i xs)) None (lookup (nat_eq q) whole))
    → ((q : ℕ) → lookup (nat_eq q) new ≡ cond (nat_eq (number (get_or xs i d)) q) None (lookup (nat_eq q) old))
    → (q : ℕ) → lookup (nat_eq q) new ≡ cond (list_any (λ x. q == number x) (take (i + 1) xs)) None (lookup (nat_eq q) whole)
number-step {A = A} number xs i d whole old new low same updates q =
    let n = number (get_or xs i d) in
    updates q ∙ ap (λ (b : Bool). cond b None (lookup (nat_eq q) old)) (turned n q) ∙ ap (λ (o : Option ℕ). cond (q == n) None o) (same q)
    ∙ sym (ap (λ (l : List A). cond (list_any (λ x. q == number x) l) None (lookup (nat_eq q) whole)) (take_more xs i d low)
    ∙ ap (λ (b : Bool). cond b None (lookup (nat_eq q) whole)) (list_any-append (λ (x : A). q == number x) (take i xs) (get_or xs i d ∷ []))
    ∙ none_more (list_any (λ x. q == number x) (take i xs)) (q == n) (lookup (nat_eq q) whole))

pub small-at : (puts : List Put) (i : ℕ) → All (λ put. put.0 < 65536) puts → i < length puts → (get_or puts i no_put).0 < 65536
small-at [] i all low = absurd (omega arith)
small-at (p ∷ puts) zero all low = All-head (λ (put : Put). put.0 < 65536) p puts all
small-at (p ∷ puts) (suc i) all low = small-at puts i (All-tail (λ (put : Put). put.0 < 65536) p puts all) (omega arith)

pub small-puts : (puts : List Put) (rest : List ℕ) → All (λ n. n < 65536) (map_list (λ (put : Put). put.0) puts ++ rest) → All (λ put. put.0 < 65536) puts
small-puts [] rest all = All-nil (λ (put : Put). put.0 < 65536)
small-puts (p ∷ puts) rest all = All-cons (λ (put : Put). put.0 < 65536) p puts (All-head (λ n. n < 65536) p.0 (map_list (λ (put : Put). put.0) puts ++ rest) all) (small-puts puts rest (All-tail (λ n. n < 65536) p.0 (map_list (λ (put : Put). put.0) puts ++ rest) all))

-- numbers less
map_gone : (page : ℕ → List ℕ) (b : Bool) (o : Option ℕ) → option_map page (cond b None o) ≡ cond b None (option_map page o)
map_gone page true o = refl
map_gone page false o = refl

pub lifted-gone : (page : ℕ → List ℕ) (gone : ℕ → Bool) (old new : Places) → ((q : ℕ) → lookup (nat_eq q) new ≡ cond (gone q) None (lookup (nat_eq q) old)) → (q : ℕ) → page_in (lifted page new) q ≡ cond (gone q) None (page_in (lifted page old) q)
lifted-gone page gone old new updates q =
    lookup-lifted page new q ∙ ap (option_map page) (updates q) ∙ map_gone page (gone q) (lookup (nat_eq q) old) ∙ ap (λ (o : Option (List ℕ)). cond (gone q) None o) (sym (lookup-lifted page old q))

pub placed-gone : (j : Journal) (gone : ℕ → Bool) (old new : Places) → ((q : ℕ) → lookup (nat_eq q) new ≡ cond (gone q) None (lookup (nat_eq q) old)) → ArePlaced j old → ArePlaced j new
placed-gone j gone old new updates placed q at is = there (gone q) (sym (updates q) ∙ is) where
  there : (b : Bool) → cond b None (lookup (nat_eq q) old) ≡ Some at → IsPlaced j q at
  there true e = absurd (cc)
  there false e = placed q at e

pub length-lifted : (page : ℕ → List ℕ) (places : Places) → length (lifted page places) ≡ length places
length-lifted page [] = refl
length-lifted page (e ∷ places) = ap suc (length-lifted page places)

pub numbers-lifted : (page : ℕ → List ℕ) (places : Places) → numbers_in (lifted page places) ≡ numbers_in places
numbers-lifted page places = ap (λ (ns : List ℕ). set.from_list {R = nat_cmp} ns) (keys-lifted page places)

some_mapped : (page : ℕ → List ℕ) (o : Option ℕ) → is_some (option_map page o) ≡ is_some o
some_mapped page None = refl
some_mapped page (Some at) = refl

pub kept-lifted : (page : ℕ → List ℕ) (places : Places) (q : ℕ) → is_kept (lifted page places) q ≡ is_kept places q
kept-lifted page places q = ap is_some (lookup-lifted page places q) ∙ some_mapped page (lookup (nat_eq q) places)

pub needed-lifted : (page : ℕ → List ℕ) (places : Places) (change : Change) → needed (lifted page places) change ≡ needed places change
needed-lifted page places change = λ i. record { puts = change.puts; deletes = filter (λ q. kept-lifted page places q i) change.deletes }

-- pages that stand one after the other, whatever they are
abbrev pub any_pages : ℕ → List Put → ℕ → List ℕ
any_pages first puts at = (get_or puts ((at - first) / 516) no_put).1

pub any_stand : (first : ℕ) (puts : List Put) → StandAt (any_pages first puts) first puts
any_stand first puts i low = ap (λ (k : ℕ). (get_or puts k no_put).1) (let e : (first + 516 * i - first) / 516 ≡ i = omega arith in e)

-- so the numbers are those after the change
pub numbers-moved : (old new : Places) (change : Change) (first : ℕ) → ((page : ℕ → List ℕ) → StandAt page first change.puts → map_of (lifted page new) ≡ after change (map_of (lifted page old))) → numbers_in new ≡ changed_numbers change (numbers_in old)
numbers-moved old new change first moved =
    let page = any_pages first change.puts in
    sym (numbers-lifted page new) ∙ numbers-after (lifted page old) (lifted page new) change (moved page (any_stand first change.puts)) ∙ ap (λ (s : Numbers). changed_numbers change s) (numbers-lifted page old)

-- the same places in another order
pub numbers-same : (old new : Places) → ((q : ℕ) → lookup (nat_eq q) new ≡ lookup (nat_eq q) old) → numbers_in new ≡ numbers_in old
numbers-same old new same = set.same_set nat_cmp_total map.nat_cmp-IsAntisymmetric (numbers_in new) (numbers_in old) (λ q. kept_number new q ∙ ap is_some (same q) ∙ sym (kept_number old q))

pub pages-same : (page : ℕ → List ℕ) (old new : Places) → ((q : ℕ) → lookup (nat_eq q) new ≡ lookup (nat_eq q) old) → map_of (lifted page new) ≡ map_of (lifted page old)
pages-same page old new same = same_entries (lifted page old) (lifted page new) (λ q. lookup-lifted page new q ∙ ap (option_map page) (same q) ∙ sym (lookup-lifted page old q))
