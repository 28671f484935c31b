-- The map in memory after a batch.
use Rattle.std.proofs.Common.{◌≡◌, ℕ, ◌+◌, ◌<◌, ◌==◌, Bool, true, false, cond, if◌then◌else◌, nat_eq, List, [], ◌∷◌, ◌++◌, length, take, get_or, Option, Some, None, refl, sym, ◌∙◌, ap, ⊎_elim}
use Rattle.std.specs.Option.{is_some}
use Rattle.std.specs.Cmp.{nat_cmp_total}
use Rattle.std.specs.FinMap as map
use Rattle.std.specs.FinSet as set
use Rattle.std.proofs.lemmas.List.{take_more}
use Rattle.newt_spec_image.specs.Pages.{Pages, Put, with_puts, without_numbers}
use Rattle.newt_pagebook.proofs.Tests.{true_or_false, is_same, equal_true, equal_false}
use Rattle.newt_pagebook.proofs.Changes.{get_insert, get_remove}
use Rattle.newt_pagelog.specs.Kept.{Entries, page_in, map_of, numbers_in, get_map, kept_number}

abbrev pub no_put : Put
no_put = (0, [])

pub turned : (a b : ℕ) → (a == b) ≡ (b == a)
turned a b = ⊎_elim
    (λ (t : (a == b) ≡ true). t ∙ sym (equal_true b a (sym (is_same a b t))))
    (λ (f : (a == b) ≡ false). f ∙ sym (equal_false b a (λ e. let t : (a == b) ≡ true = equal_true a b (sym e) in absurd (cc))))
    (true_or_false (a == b))

with_puts-push : (puts : List Put) (n : ℕ) (page : List ℕ) (m : Pages) → with_puts (puts ++ (n, page) ∷ []) m ≡ map.insert (with_puts puts m) n page
with_puts-push [] n page m = refl
with_puts-push (p ∷ puts) n page m = with_puts-push puts n page (map.insert m p.0 p.1)

without-push : (ns : List ℕ) (n : ℕ) (m : Pages) → without_numbers (ns ++ n ∷ []) m ≡ map.remove (without_numbers ns m) n
without-push [] n m = refl
without-push (k ∷ ns) n m = without-push ns n (map.remove m k)

-- a put more
pub put-step : (m : Pages) (puts : List Put) (i : ℕ) (d : Put) (old new : Entries) → i < length puts → ((q : ℕ) → page_in old q ≡ map.get (with_puts (take i puts) m) q)
    → ((q : ℕ) → page_in new q ≡ (if nat_eq (get_or puts i d).0 q then Some (get_or puts i d).1 else page_in old q))
    → (q : ℕ) → page_in new q ≡ map.get (with_puts (take (i + 1) puts) m) q
put-step m puts i d old new low same now q =
    let n = (get_or puts i d).0 in
    let page = (get_or puts i d).1 in
    now q ∙ ap (λ (b : Bool). cond b (Some page) (page_in old q)) (turned n q) ∙ ap (λ (o : Option (List ℕ)). cond (q == n) (Some page) o) (same q)
    ∙ sym (ap (λ (l : List Put). map.get (with_puts l m) q) (take_more puts i d low) ∙ ap (λ (w : Pages). map.get w q) (with_puts-push (take i puts) n page m) ∙ get_insert (with_puts (take i puts) m) n page q)

-- a delete more
pub delete-step : (m : Pages) (ns : List ℕ) (i : ℕ) (old new : Entries) → i < length ns → ((q : ℕ) → page_in old q ≡ map.get (without_numbers (take i ns) m) q)
    → ((q : ℕ) → page_in new q ≡ cond (nat_eq (get_or ns i 0) q) None (page_in old q))
    → (q : ℕ) → page_in new q ≡ map.get (without_numbers (take (i + 1) ns) m) q
delete-step m ns i old new low same now q =
    let n = get_or ns i 0 in
    now q ∙ ap (λ (b : Bool). cond b None (page_in old q)) (turned n q) ∙ ap (λ (o : Option (List ℕ)). cond (q == n) None o) (same q)
    ∙ sym (ap (λ (l : List ℕ). map.get (without_numbers l m) q) (take_more ns i 0 low) ∙ ap (λ (w : Pages). map.get w q) (without-push (take i ns) n m) ∙ get_remove (without_numbers (take i ns) m) n q)

pub same_maps : (a b : Pages) → ((q : ℕ) → map.get a q ≡ map.get b q) → a ≡ b
same_maps a b same = map.same_map nat_cmp_total map.nat_cmp-IsAntisymmetric a b same

pub map_is : (es : Entries) (m : Pages) → ((q : ℕ) → page_in es q ≡ map.get m q) → map_of es ≡ m
map_is es m same = same_maps (map_of es) m (λ q. get_map es q ∙ same q)

-- the same pages in another order
pub same_entries : (old new : Entries) → ((q : ℕ) → page_in new q ≡ page_in old q) → map_of new ≡ map_of old
same_entries old new same = map_is new (map_of old) (λ q. same q ∙ sym (get_map old q))

pub same_numbers : (old new : Entries) → ((q : ℕ) → page_in new q ≡ page_in old q) → numbers_in new ≡ numbers_in old
same_numbers old new same = set.same_set nat_cmp_total map.nat_cmp-IsAntisymmetric (numbers_in new) (numbers_in old) (λ q. kept_number new q ∙ ap is_some (same q) ∙ sym (kept_number old q))
