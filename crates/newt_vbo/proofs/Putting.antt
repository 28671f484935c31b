-- Pages of an object are put one after another.
use Rattle.std.proofs.Common.{◌≡◌, ℕ, ◌+◌, ◌*◌, ◌<◌, ◌≤◌, ◌==◌, ◌||◌, Bool, true, false, cond, List, [], ◌∷◌, ◌++◌, length, take, drop, get_or, slice_get, Option, Some, refl, sym, ◌∙◌, ap, subst, arith, ⊎_elim, length-take, length-drop, append_assoc}
use Rattle.std.specs.Cmp.{nat_cmp_total}
use Rattle.std.specs.FinMap as map
use Rattle.std.specs.FinSet as set
use Rattle.std.specs.Option.{option_map}
use Rattle.std.proofs.lemmas.Bool.{or_right}
use Rattle.std.proofs.lemmas.Option.{slice_get_within, slice_get-get_or}
use Rattle.std.proofs.lemmas.List.{map-append, take_more, get_or-drop}
use Rattle.std.proofs.Math.Seq.{take-add}
use Rattle.newt_host.specs.Moments.{overwritten}
use Rattle.newt_spec_image.specs.Pages.{Pages, Change, after}
use Rattle.newt_spec_image.specs.Objects.{Extent, IsTableOf, joined, Objects}
use Rattle.newt_pagebook.specs.Batch.{names, puts_one}
use Rattle.newt_pagebook.specs.Book.{Numbers, with_put_numbers, without_deleted, changed_numbers}
use Rattle.newt_pagebook.proofs.Tests.{some_inj, equal_true, equal_false, is_same, true_or_false}
use Rattle.newt_pagebook.proofs.Changes.{get_insert, names_put}
use Rattle.newt_pagebook.proofs.Numbers.{contains_insert}
use Rattle.newt_objects.specs.Extents.{IsUnnamed}
use Rattle.newt_objects.specs.Held.{Held, held, planned, WouldHold}
use Rattle.newt_objects.specs.Changing.{AreWhole}
use Rattle.newt_objects.proofs.Plans.{one_part}
use Rattle.newt_vbo.specs.Patches.{numbers_put, WouldPatch}
use Rattle.newt_vbo.proofs.Lists.{overwritten_more, overwritten_none}
use Rattle.newt_vbo.proofs.Parts.{HasWhole, data_whole, unnamed_whole, joined_length}
use Rattle.newt_vbo.proofs.Patching.{still_planned, put_holds}

-- what is put twice under one id
insert_twice : (texts : Objects) (id : ℕ) (a b : List ℕ) → map.insert (map.insert texts id a) id b ≡ map.insert texts id b
insert_twice texts id a b = map.same_map nat_cmp_total map.nat_cmp-IsAntisymmetric _ _ (λ q.
    get_insert (map.insert texts id a) id b q ∙ ap (cond (q == id) (Some b)) (get_insert texts id a q) ∙ twice (q == id) (Some b) (Some a) (map.get texts q) ∙ sym (get_insert texts id b q)) where
      twice : (b : Bool) (u v w : Option (List ℕ)) → cond b u (cond b v w) ≡ cond b u w
      twice true u v w = refl
      twice false u v w = refl

insert_same : (texts : Objects) (id : ℕ) (a : List ℕ) → map.get texts id ≡ Some a → map.insert texts id a ≡ texts
insert_same texts id a there = map.same_map nat_cmp_total map.nat_cmp-IsAntisymmetric _ _ (λ q. get_insert texts id a q ∙ ⊎_elim
    (λ (t : (q == id) ≡ true). ap (λ (b : Bool). cond b (Some a) (map.get texts q)) t ∙ sym there ∙ ap (map.get texts) (sym (is_same q id t)))
    (λ (f : (q == id) ≡ false). ap (λ (b : Bool). cond b (Some a) (map.get texts q)) f)
    (true_or_false (q == id)))

-- Before anything is put.
pub patch_none : (objects : Held) (id at : ℕ) (bytes : List ℕ) (change : Change) (live : Pages) → bytes ≡ [] → WouldPatch objects id at bytes change change live
patch_none objects id at bytes change live none = λ texts text there would.
    let same : overwritten text at bytes ≡ text = ap (λ (l : List ℕ). overwritten text at l) none ∙ overwritten_none text at in
    subst (λ (t : Objects). WouldHold objects change live t) (sym (ap (λ (l : List ℕ). map.insert texts id l) same ∙ insert_same texts id text there)) would

-- One page more.
pub patch_more : (objects : Held) (id at : ℕ) (bytes : List ℕ) (old now : Change) (live : Pages) (x : Extent) (k number s done c : ℕ) (page : List ℕ) → IsTableOf live (held objects) → held objects id ≡ Some x → IsUnnamed x old
    → AreWhole live → HasWhole (after now live) x → slice_get x.numbers k ≡ Some number → names now number ≡ false → map.get live number ≡ Some page → at + done ≡ 500 * k + s → s + c ≤ 500 → done + c ≤ length bytes
    → at + length bytes ≤ x.length → WouldPatch objects id at (take done bytes) old now live
    → WouldPatch objects id at (take (done + c) bytes) old (puts_one now number (overwritten page (12 + s) (take c (drop done bytes)))) live
patch_more objects id at bytes old now live x k number s done c page is there free whole sizes here new got place inside fits within so_far = λ texts text text_is would.
    let there' : planned objects id ≡ Some x = still_planned objects old live texts id x is would there free in
    let before : List ℕ = take done bytes in
    let piece : List ℕ = take c (drop done bytes) in
    let mid : List ℕ = overwritten text at before in
    let count : length before ≡ done = omega (arith, fits, length-take done bytes) in
    let size : length piece ≡ c = omega (arith, fits, length-take c (drop done bytes), length-drop done bytes) in
    let was : map.get (map.insert texts id mid) id ≡ Some mid = get_insert texts id mid id ∙ ap (λ (b : Bool). cond b (Some mid) (map.get texts id)) (equal_true id id refl) in
    let m : Pages = after old live in
    let text_was : text ≡ joined m x = some_inj _ _ (sym text_is ∙ would.each id ∙ ap (option_map (joined m)) there') in
    let long : length text ≡ x.length = ap (λ (l : List ℕ). length l) text_was ∙ joined_length m x (unnamed_whole old live x free (data_whole live (held objects) id x whole is there)) (is.whole id x there) in
    let next = put_holds now live number s page piece new got (whole number page got) (omega (arith, size, inside)) objects (map.insert texts id mid) id k x mid (so_far texts text text_is would) there' here sizes
    (omega (arith, size, place, fits, within)) was in
    let spot : 500 * k + s ≡ at + length before = sym place ∙ ap (λ (n : ℕ). at + n) (sym count) in
    let both : overwritten mid (500 * k + s) piece ≡ overwritten text at (take (done + c) bytes) =
    ap (λ (n : ℕ). overwritten mid n piece) spot ∙ overwritten_more text at before piece (omega (arith, long, within)) ∙ ap (λ (l : List ℕ). overwritten text at l) (sym (take-add done c bytes)) in
    subst (λ (t : Objects). WouldHold objects (puts_one now number (overwritten page (12 + s) piece)) live t)
    (insert_twice texts id mid (overwritten mid (500 * k + s) piece) ∙ ap (λ (l : List ℕ). map.insert texts id l) both) next

-- a page that is put again is no page more
with_put-push : (puts : List (ℕ × List ℕ)) (n : ℕ) (page : List ℕ) (s : Numbers) → with_put_numbers (puts ++ (n, page) ∷ []) s ≡ set.insert (with_put_numbers puts s) n
with_put-push [] n page s = refl
with_put-push (p ∷ puts) n page s = with_put-push puts n page (set.insert s p.0)

still_contained : (puts : List (ℕ × List ℕ)) (s : Numbers) (n : ℕ) → set.contains s n ≡ true → set.contains (with_put_numbers puts s) n ≡ true
still_contained [] s n there = there
still_contained (p ∷ puts) s n there = still_contained puts (set.insert s p.0) n (contains_insert s p.0 n ∙ ap (λ (b : Bool). (n == p.0) || b) there ∙ or_right (n == p.0) true refl)

insert_contained : (s : Numbers) (n : ℕ) → set.contains s n ≡ true → set.insert s n ≡ s
insert_contained s n there = set.same_set nat_cmp_total map.nat_cmp-IsAntisymmetric (set.insert s n) s (λ q. contains_insert s n q ∙ ⊎_elim
    (λ (t : (q == n) ≡ true). ap (λ (b : Bool). b || set.contains s q) t ∙ sym there ∙ ap (set.contains s) (sym (is_same q n t)))
    (λ (f : (q == n) ≡ false). ap (λ (b : Bool). b || set.contains s q) f)
    (true_or_false (q == n)))

pub numbers_kept : (change : Change) (n : ℕ) (page : List ℕ) (s : Numbers) → set.contains s n ≡ true → changed_numbers (puts_one change n page) s ≡ changed_numbers change s
numbers_kept change n page s there =
    ap (without_deleted change.deletes) (with_put-push change.puts n page s ∙ insert_contained (with_put_numbers change.puts s) n (still_contained change.puts s n there))

-- the numbers that are put, one more
pub put_more : (x : Extent) (first i number : ℕ) (old now : Change) (page : List ℕ) → slice_get x.numbers (first + i) ≡ Some number → numbers_put now ≡ numbers_put old ++ take i (drop first x.numbers)
    → numbers_put (puts_one now number page) ≡ numbers_put old ++ take (i + 1) (drop first x.numbers)
put_more x first i number old now page at so_far =
    let low : first + i < length x.numbers = slice_get_within x.numbers (first + i) number at in
    let rest : List ℕ = drop first x.numbers in
    let is : get_or rest i 0 ≡ number = get_or-drop first x.numbers i 0 ∙ some_inj _ _ (sym (slice_get-get_or x.numbers (first + i) 0 low) ∙ at) in
    map-append (λ (put : ℕ × List ℕ). put.0) now.puts ((number, page) ∷ [])
    ∙ ap (λ (l : List ℕ). l ++ number ∷ []) so_far ∙ append_assoc (numbers_put old) (take i rest) (number ∷ [])
    ∙ ap (λ (l : List ℕ). numbers_put old ++ l) (ap (λ (n : ℕ). take i rest ++ n ∷ []) (sym is) ∙ sym (take_more rest i 0 (omega (arith, low, length-drop first x.numbers))))

-- none of the pages that come later is named yet
pub later_free : (objects : Held) (live : Pages) (id k l number n : ℕ) (x : Extent) (now : Change) (page : List ℕ) → IsTableOf live (held objects) → held objects id ≡ Some x → slice_get x.numbers k ≡ Some number
    → slice_get x.numbers l ≡ Some n → k < l → names now n ≡ false → names (puts_one now number page) n ≡ false
later_free objects live id k l number n x now page is there at next low free =
    let ne : n ≡ number → ⊥ = λ same. (let e : k ≡ l = (one_part live (held objects) is id id k l number x x there there at (next ∙ ap Some same)).1 in omega (arith, e, low)) in
    names_put now number page n ∙ ap (λ (b : Bool). b || (n == number)) free ∙ equal_false n number ne
