-- As many pages are live as their objects have.
use Rattle.std.proofs.Common.{◌≡◌, ℕ, zero, suc, ◌+◌, ◌-◌, ◌*◌, ◌≤◌, ◌==◌, ◌&&◌, Bool, true, false, cond, not, List, [], ◌∷◌, length, drop, slice_get, Option, Some, None, refl, sym, ◌∙◌, ap, subst, arith, ⊎_elim, length-take, length-drop, length-append}
use Rattle.std.specs.List.{flat_map, sum_by}
use Rattle.std.specs.Prelude.{T}
use Rattle.std.specs.Ordering.{nat_cmp, is_lt}
use Rattle.std.specs.Cmp.{nat_cmp_total, tied_itself}
use Rattle.std.specs.FinMap as map
use Rattle.std.specs.FinMap.Entries.{below_all}
use Rattle.std.specs.FinSet as set
use Rattle.std.specs.Option.{option_map, unwrap_or, is_some}
use Rattle.std.proofs.lemmas.List.Sums.{sum_by-cons}
use Rattle.newt_spec_image.specs.Pages.{Pages, Change, without_numbers, after, object_id}
use Rattle.newt_spec_image.specs.Objects.{Extent, Table, IsTableOf, AreObjectsOf, pages_for, joined, data_at, Objects}
use Rattle.newt_pagebook.specs.Batch.{IsBatch}
use Rattle.newt_pagebook.specs.Book.{Numbers, without_deleted, changed_numbers}
use Rattle.newt_pagebook.proofs.Tests.{some_inj, true_or_false, is_same, equal_true, equal_false, same_test}
use Rattle.newt_pagebook.proofs.Changes.{get_without}
use Rattle.newt_pagebook.proofs.Numbers.{contains_remove, gone_named, changed_named}
use Rattle.newt_objects.specs.Held.{Held, WouldHold}
use Rattle.newt_objects.specs.Changing.{AreWhole, total_pages}
use Rattle.newt_objects.proofs.Plans.{with_at, which, one_part, table_without}
use Rattle.newt_objects.proofs.Changing.{would_be_objects}
use Rattle.newt_objects.proofs.Whole.{whole_after}

-- each number that goes is one less
pub len_without : (ns : List ℕ) (s : Numbers) → ((k n : ℕ) → slice_get ns k ≡ Some n → set.contains s n ≡ true) → ((k l n : ℕ) → slice_get ns k ≡ Some n → slice_get ns l ≡ Some n → k ≡ l)
    → set.len (without_deleted ns s) + length ns ≡ set.len s
len_without [] s there once = omega arith
len_without (n ∷ ns) s there once =
    let here : set.contains s n ≡ true = there zero n refl in
    let some : 1 ≤ set.len s = not_empty s n here in
    let less : set.len (set.remove s n) ≡ set.len s - 1 = set.len-remove nat_cmp_total s n ∙ ap (λ (b : Bool). cond b (set.len s - 1) (set.len s)) here in
    let rest = len_without ns (set.remove s n)
    (λ k m e. contains_remove s n m ∙ ap (λ (b : Bool). not b && set.contains s m) (equal_false m n (λ same.
    absurd (let twice : suc k ≡ zero = once (suc k) zero m e (ap Some (sym same)) in omega (arith, twice)))) ∙ there (suc k) m e)
    (λ k l m e f. (let next : suc k ≡ suc l = once (suc k) (suc l) m e f in omega (arith, next))) in
    omega (arith, rest, less, some) where
      not_empty : (s : Numbers) (n : ℕ) → set.contains s n ≡ true → 1 ≤ set.len s
      not_empty s n here = cases (set.len s) refl where
        cases : (i : ℕ) → set.len s ≡ i → 1 ≤ i
        cases zero e = absurd (let none : set.contains s n ≡ false = ap (λ (t : Numbers). set.contains t n) (set.empty_of_len s e) ∙ set.contains-empty nat_cmp n in cc)
        cases (suc i) e = omega arith

first_of : (a b : Bool) → T (a && b) → T a
first_of true b p = tt
first_of false b p = absurd p

second_of : (a b : Bool) → T (a && b) → T b
second_of true b p = p
second_of false b p = absurd p

-- an id stands once among entries in order
not_again : (id : ℕ) (es : List (ℕ × List ℕ)) → T (below_all nat_cmp id es) → map.find nat_cmp id es ≡ None
not_again id [] h = refl
not_again id (e ∷ es) h = ⊎_elim
    (λ (t : (id == e.0) ≡ true). absurd (
    let low : T (is_lt (nat_cmp id e.0)) = first_of _ _ h in
    let tied : nat_cmp id e.0 ≡ nat_cmp id id = ap (nat_cmp id) (sym (is_same id e.0 t)) in
    subst T (ap is_lt (tied ∙ tied_itself nat_cmp_total id)) low))
    (λ (f : (id == e.0) ≡ false). ap (λ (b : Bool). cond b (Some e.1) (map.find nat_cmp id es)) (same_test id e.0 ∙ f) ∙ not_again id es (second_of _ _ h))
    (true_or_false (id == e.0))

find_head : (e : ℕ × List ℕ) (es : List (ℕ × List ℕ)) → map.find nat_cmp e.0 (e ∷ es) ≡ Some e.1
find_head e es = ap (λ (b : Bool). cond b (Some e.1) (map.find nat_cmp e.0 es)) (same_test e.0 e.0 ∙ equal_true e.0 e.0 refl)

find_tail : (e : ℕ × List ℕ) (es : List (ℕ × List ℕ)) (id : ℕ) → (id ≡ e.0 → ⊥) → map.find nat_cmp id (e ∷ es) ≡ map.find nat_cmp id es
find_tail e es id ne = ap (λ (b : Bool). cond b (Some e.1) (map.find nat_cmp id es)) (same_test id e.0 ∙ equal_false id e.0 ne)

-- the entries are those of the table's objects, with their lengths
record AreEntriesOf (table : Table) (es : List (ℕ × List ℕ)) : Type 0 where
  pub each : (id : ℕ) (text : List ℕ) → map.find nat_cmp id es ≡ Some text → (x : Extent) × (table id ≡ Some x) × (x.length ≡ length text)
  pub real : (id : ℕ) (x : Extent) → table id ≡ Some x → (text : List ℕ) × (map.find nat_cmp id es ≡ Some text)

count_entries : (es : List (ℕ × List ℕ)) (live : Pages) (table : Table) (numbers : Numbers) → T (map.is_sorted nat_cmp es) → IsTableOf live table → ((q : ℕ) → map.contains_key live q ≡ set.contains numbers q)
    → AreEntriesOf table es → set.len numbers ≡ sum_by (λ e. pages_for (length e.1)) es
count_entries [] live table numbers sorted is named are =
    let none : numbers ≡ set.empty = set.same_set nat_cmp_total map.nat_cmp-IsAntisymmetric numbers set.empty (λ q. sym (named q) ∙ ap is_some (nothing q (map.get live q) refl) ∙ sym (set.contains-empty nat_cmp q)) in
    ap set.len none ∙ set.len-empty nat_cmp where
      nothing : (q : ℕ) (o : Option (List ℕ)) → map.get live q ≡ o → map.get live q ≡ None
      nothing q None e = e
      nothing q (Some page) e = absurd (let w = is.pages q page e in let t = are.real (object_id page) w.0 w.1 in let n = t.1 in cc)
count_entries (e ∷ es) live table numbers sorted is named are =
    let o = are.each e.0 e.1 (find_head e es) in
    let x : Extent = o.0 in
    let gone : Pages = without_numbers x.numbers live in
    let rest : Numbers = without_deleted x.numbers numbers in
    let there : (k n : ℕ) → slice_get x.numbers k ≡ Some n → set.contains numbers n ≡ true = λ k n at. let p = is.parts e.0 k n x o.1 at in sym (named n) ∙ ap is_some p.1 in
    let once : (k l n : ℕ) → slice_get x.numbers k ≡ Some n → slice_get x.numbers l ≡ Some n → k ≡ l = λ k l n f g. (one_part live table is e.0 e.0 k l n x x o.1 o.1 f g).1 in
    let less = len_without x.numbers numbers there once in
    let absent : map.find nat_cmp e.0 es ≡ None = not_again e.0 es (first_of _ _ sorted) in
    let entries : AreEntriesOf (with_at e.0 None table) es = record {
      each = λ id text f. ⊎_elim
          (λ (s : (id ≡ e.0) × (with_at e.0 None table id ≡ None)). absurd (let n : map.find nat_cmp id es ≡ None = ap (λ (i : ℕ). map.find nat_cmp i es) s.0 ∙ absent in cc))
          (λ (d : (id ≡ e.0 → ⊥) × (with_at e.0 None table id ≡ table id)). let w = are.each id text (find_tail e es id d.0 ∙ f) in (w.0, d.1 ∙ w.1, w.2))
          (which e.0 id None table);
      real = λ id y f. ⊎_elim
          (λ (s : (id ≡ e.0) × (with_at e.0 None table id ≡ None)). absurd (let n = s.1 in cc))
          (λ (d : (id ≡ e.0 → ⊥) × (with_at e.0 None table id ≡ table id)). let w = are.real id y (sym d.1 ∙ f) in (w.0, sym (find_tail e es id d.0) ∙ w.1))
          (which e.0 id None table);
    } in
    let others = count_entries es gone (with_at e.0 None table) rest (second_of _ _ sorted) (table_without live gone table is e.0 x o.1 (get_without x.numbers live)) (gone_named x.numbers live numbers named) entries in
    omega (arith, less, others, sum_by-cons (λ e. pages_for (length e.1)) e es, is.whole e.0 x o.1, ap pages_for o.2)

-- The text of an object of whole pages has the length that the table says.
data_size : (live : Pages) (ns : List ℕ) → ((k n : ℕ) → slice_get ns k ≡ Some n → length (data_at live n) ≡ 500) → length (flat_map (data_at live) ns) ≡ 500 * length ns
data_size live [] each = refl
data_size live (n ∷ ns) each = omega (arith, each zero n refl, data_size live ns (λ k m e. each (suc k) m e), length-append (data_at live n) (flat_map (data_at live) ns))

le_pages : (n : ℕ) → n ≤ 500 * pages_for n
le_pages n = omega arith

pub joined_size : (live : Pages) (table : Table) (id : ℕ) (x : Extent) → AreWhole live → IsTableOf live table → table id ≡ Some x → length (joined live x) ≡ x.length
joined_size live table id x whole is there =
    let size = data_size live x.numbers (λ k n at.
    let p = is.parts id k n x there at in
    let part : data_at live n ≡ drop 12 p.0 = ap (λ (o : Option (List ℕ)). drop 12 (unwrap_or o [])) p.1 in
    omega (arith, ap (λ (l : List ℕ). length l) part, length-drop 12 p.0, whole n p.0 p.1)) in
    omega (arith, length-take x.length (flat_map (data_at live) x.numbers), size, is.whole id x there, le_pages x.length)

-- As many pages are live as the objects have.
pub pages_total : (live : Pages) (texts : Objects) (numbers : Numbers) → AreWhole live → AreObjectsOf live texts → ((q : ℕ) → map.contains_key live q ≡ set.contains numbers q) → set.len numbers ≡ total_pages texts
pages_total live texts numbers whole are named = count_entries (map.entries texts) live are.table numbers (map.entries_sorted texts) are.is_table named (record {
  each = λ id text f. text_of id text (are.table id) refl (map.get-entries texts id ∙ f);
  real = λ id x there. (joined live x, sym (map.get-entries texts id) ∙ are.each id ∙ ap (option_map (joined live)) there);
}) where
  text_of : (id : ℕ) (text : List ℕ) (o : Option Extent) → are.table id ≡ o → map.get texts id ≡ Some text → (x : Extent) × (are.table id ≡ Some x) × (x.length ≡ length text)
  text_of id text None e f = absurd (let n = sym (are.each id ∙ ap (option_map (joined live)) e) ∙ f in cc)
  text_of id text (Some x) e f =
      let same : joined live x ≡ text = some_inj _ _ (sym (are.each id ∙ ap (option_map (joined live)) e) ∙ f) in
      (x, e, sym (joined_size live are.table id x whole are.is_table e) ∙ ap (λ (l : List ℕ). length l) same)

-- How many pages are live once a change is committed: what Full is about.
pub would_count : (objects : Held) (change : Change) (live : Pages) (texts : Objects) (numbers : Numbers) → AreWhole live → IsBatch change → ((q : ℕ) → map.contains_key live q ≡ set.contains numbers q) → WouldHold objects change live texts
    → set.len (changed_numbers change numbers) ≡ total_pages texts
would_count objects change live texts numbers whole batch named would =
    pages_total (after change live) texts (changed_numbers change numbers) (whole_after change live batch.whole_pages whole) (would_be_objects objects change live texts would) (changed_named change live numbers named)
