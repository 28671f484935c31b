-- The flags of the numbers that objects have.
use Rattle.std.proofs.Common.{◌≡◌, ◌≢◌, ℕ, zero, suc, ◌<◌, ◌≤◌, ◌==◌, ◌||◌, ◌&&◌, Bool, true, false, not, cond, List, [], ◌∷◌, ◌++◌, length, slice_get, replicate, Option, Some, None, refl, sym, ◌∙◌, ap, subst, arith, ⊎_elim}
use Rattle.std.specs.List.{list_any}
use Rattle.std.specs.Map.{values_of}
use Rattle.std.specs.Ordering.{nat_cmp}
use Rattle.std.specs.Option.{option_flatten}
use Rattle.std.specs.BTreeMap as tree
use Rattle.std.specs.Cmp.{nat_cmp_total}
use Rattle.std.proofs.lemmas.Bool.{cases_eq, cases_lt}
use Rattle.std.proofs.lemmas.List.{length-replicate}
use Rattle.std.proofs.lemmas.Option.{slice_get_within}
use Rattle.std.proofs.lemmas.Map.Entries.{place_from_lookup, btree_map_get_place}
use Rattle.std.proofs.lemmas.Map.Lookups.{exact_unsigned}
use Rattle.newt_spec_image.specs.Objects.{Extent, Table}
use Rattle.newt_pagebook.proofs.Tests.{some_inj, true_or_false, is_equal, equal_true, equal_false}
use Rattle.newt_objects.specs.Headers.{Rows, held_in}
use Rattle.newt_objects.specs.Extents.{has_number, AreFlags, MarksAlso}
use Rattle.newt_objects.specs.Taken.{ClearsAlso, IsLive, IsFull, AreFull, AreSameBut, row_at, group_of}
use Rattle.newt_objects.specs.declared.taken.Taken.{Taken}
use Rattle.newt_objects.proofs.Plans.{slice_get-among}
use Rattle.newt_objects.proofs.Pushed.{push_last}

-- a place within a list has an element
at_place : {X : Type 0} (xs : List X) (i : ℕ) → i < length xs → (x : X) × (slice_get xs i ≡ Some x)
at_place [] i low = absurd (omega arith)
at_place (x ∷ xs) zero low = (x, refl)
at_place (x ∷ xs) (suc i) low = at_place xs i (omega arith)

both : (a b : Bool) → (a && b) ≡ true → (a ≡ true) × (b ≡ true)
both true true e = (refl, refl)
both true false e = absurd (cc)
both false b e = absurd (cc)

negated : (b : Bool) → not b ≡ true → b ≡ false
negated true e = absurd (cc)
negated false e = refl

-- the flags of an object are cleared
module _ (table more : Table) (id : ℕ) (flags flags' : List Bool) (clears : ClearsAlso (λ q. has_number q (table id)) flags flags') (gone : more id ≡ None) (same : AreSameBut id table more) (live : IsLive table flags) where
  its_not : (number : ℕ) → has_number number (more id) ≡ true → ⊥
  its_not number t = let f : has_number number (more id) ≡ false = ap (has_number number) gone in cc

  other_id : (number other : ℕ) → has_number number (more other) ≡ true → (other ≡ id → ⊥)
  other_id number other t is = its_not number (ap (λ (k : ℕ). has_number number (more k)) (sym is) ∙ t)

  was : (number other : ℕ) → has_number number (more other) ≡ true → has_number number (table other) ≡ true
  was number other t = ap (has_number number) (sym (same other (other_id number other t))) ∙ t

  pub live-without : IsLive more flags'
  live-without = record {
    size = clears.size ∙ live.size;
    marked = λ other number t.
        let flag = live.marked other number (was number other t) in
        let free : has_number number (table id) ≡ false = ⊎_elim
        (λ (yes : has_number number (table id) ≡ true). absurd (other_id number other t (live.apart other id number (was number other t) yes)))
        (λ (f : has_number number (table id) ≡ false). f)
        (true_or_false (has_number number (table id))) in
        clears.each number true flag ∙ ap (λ (b : Bool). Some (true && not b)) free;
    real = λ number t.
        let low : number < length flags = omega (arith, slice_get_within flags' number true t, clears.size) in
        let w = at_place flags number low in
        let set : (w.0 && not (has_number number (table id))) ≡ true = some_inj (w.0 && not (has_number number (table id))) true (sym (clears.each number w.0 w.1) ∙ t) in
        let parts = both w.0 (not (has_number number (table id))) set in
        let r = live.real number (w.1 ∙ ap Some parts.0) in
        let apart : r.0 ≡ id → ⊥ = λ (is : r.0 ≡ id). (let yes : has_number number (table id) ≡ true = ap (λ (k : ℕ). has_number number (table k)) (sym is) ∙ r.1 in let f = negated (has_number number (table id)) parts.1 in cc) in
        (r.0, ap (has_number number) (same r.0 apart) ∙ r.1);
    apart = λ one other number t u. live.apart one other number (was number one t) (was number other u);
  }

-- the flags of an object are set, where none of its numbers is had
module _ (table more : Table) (id : ℕ) (object : Option Extent) (flags flags' : List Bool) (marks : MarksAlso (λ q. has_number q object) flags flags')
    (free : (number : ℕ) → has_number number object ≡ true → slice_get flags number ≡ Some false) (gone : table id ≡ None) (there : more id ≡ object) (same : AreSameBut id table more) (live : IsLive table flags) where
  its : (number other : ℕ) → other ≡ id → has_number number (more other) ≡ true → slice_get flags number ≡ Some false
  its number other is t = free number (ap (has_number number) (sym (ap more is ∙ there)) ∙ t)

  theirs : (number other : ℕ) → (other ≡ id → ⊥) → has_number number (more other) ≡ true → has_number number (table other) ≡ true
  theirs number other apart t = ap (has_number number) (sym (same other apart)) ∙ t

  clash : (number one other : ℕ) → one ≡ id → (other ≡ id → ⊥) → has_number number (more one) ≡ true → has_number number (more other) ≡ true → ⊥
  clash number one other is apart t u = let f = its number one is t in let g = live.marked other number (theirs number other apart u) in cc

  pub live-with : IsLive more flags'
  live-with = record {
    size = marks.size ∙ live.size;
    marked = λ other number t. ⊎_elim
        (λ (is : other ≡ id). marks.each number false (its number other is t) ∙ ap Some (ap (has_number number) (sym (ap more is ∙ there)) ∙ t))
        (λ (apart : other ≢ id). marks.each number true (live.marked other number (theirs number other apart t)))
        (cases_eq other id);
    real = λ number t.
        let low : number < length flags = omega (arith, slice_get_within flags' number true t, marks.size) in
        let w = at_place flags number low in
        ⊎_elim
        (λ (yes : has_number number object ≡ true). (id, ap (has_number number) there ∙ yes))
        (λ (f : has_number number object ≡ false).
        let set : (w.0 || has_number number object) ≡ true = some_inj (w.0 || has_number number object) true (sym (marks.each number w.0 w.1) ∙ t) in
        let on : w.0 ≡ true = left_true w.0 (ap (λ (b : Bool). w.0 || b) (sym f) ∙ set) in
        let r = live.real number (w.1 ∙ ap Some on) in
        let apart : r.0 ≡ id → ⊥ = λ (is : r.0 ≡ id). (let yes : has_number number (table id) ≡ true = ap (λ (k : ℕ). has_number number (table k)) (sym is) ∙ r.1 in let none : has_number number (table id) ≡ false = ap (has_number number) gone in cc) in
        (r.0, ap (has_number number) (same r.0 apart) ∙ r.1))
        (true_or_false (has_number number object));
    apart = λ one other number t u. ⊎_elim
        (λ (is : one ≡ id). ⊎_elim
        (λ (too : other ≡ id). is ∙ sym too)
        (λ (apart : other ≢ id). absurd (clash number one other is apart t u))
        (cases_eq other id))
        (λ (apart : one ≢ id). ⊎_elim
        (λ (is : other ≡ id). absurd (clash number other one is apart u t))
        (λ (too : other ≢ id). live.apart one other number (theirs number one apart t) (theirs number other too u))
        (cases_eq other id))
        (cases_eq one id);
  } where
    left_true : (b : Bool) → (b || false) ≡ true → b ≡ true
    left_true true e = refl
    left_true false e = e

-- numbers that are free one by one
pub free-each : (flags : List Bool) (x : Extent) → ((k number : ℕ) → slice_get x.numbers k ≡ Some number → slice_get flags number ≡ Some false) → (number : ℕ) → has_number number (Some x) ≡ true → slice_get flags number ≡ Some false
free-each flags x each number t = let w = slice_get-among x.numbers number t in each w.0 number w.1

-- more of them are cleared
pub clears-more : (first second every : ℕ → Bool) (a b c : List Bool) → ((q : ℕ) → every q ≡ (first q || second q)) → ClearsAlso first a b → ClearsAlso second b c → ClearsAlso every a c
clears-more first second every a b c is one other = record {
  size = other.size ∙ one.size;
  each = λ q flag e. other.each q (flag && not (first q)) (one.each q flag e) ∙ ap Some (joined flag (first q) (second q)) ∙ ap (λ (b : Bool). Some (flag && not b)) (sym (is q));
} where
  joined : (f a b : Bool) → ((f && not a) && not b) ≡ (f && not (a || b))
  joined true true b = refl
  joined true false b = refl
  joined false a b = refl

or_true : (b : Bool) → (b || true) ≡ true
or_true true = refl
or_true false = refl

left_true : (b : Bool) → (b || false) ≡ true → b ≡ true
left_true true e = refl
left_true false e = e

-- the group of a number among some is among their groups
any_group : (numbers : List ℕ) (number group : ℕ) → group_of number ≡ group → list_any (λ n. number == n) numbers ≡ true → list_any (λ n. group == group_of n) numbers ≡ true
any_group [] number group is t = absurd (cc)
any_group (n ∷ ns) number group is t = ⊎_elim
    (λ (e : number ≡ n). ap (λ (b : Bool). b || list_any (λ n. group == group_of n) ns) (equal_true group (group_of n) (sym is ∙ ap group_of e)))
    (λ (ne : number ≢ n). ap (λ (b : Bool). (group == group_of n) || b) (any_group ns number group is (sym (ap (λ (b : Bool). b || list_any (λ n. number == n) ns) (equal_false number n ne)) ∙ t)) ∙ or_true (group == group_of n))
    (cases_eq number n)

-- a group that is full still has none of the numbers that were cleared
pub clears-full : (flags flags' full full' : List Bool) (numbers : List ℕ) → ClearsAlso (λ q. list_any (λ n. q == n) numbers) flags flags' → ClearsAlso (λ q. list_any (λ n. q == group_of n) numbers) full full'
    → ((group : ℕ) → slice_get full group ≡ Some true → IsFull flags group) → (group : ℕ) → slice_get full' group ≡ Some true → IsFull flags' group
clears-full flags flags' full full' numbers clears groups sound group marked number is =
    let w = at_place full group (omega (arith, slice_get_within full' group true marked, groups.size)) in
    let test : Bool = list_any (λ n. group == group_of n) numbers in
    let set : (w.0 && not test) ≡ true = some_inj (w.0 && not test) true (sym (groups.each group w.0 w.1) ∙ marked) in
    let parts = both w.0 (not test) set in
    let other : test ≡ false = negated test parts.1 in
    ⊎_elim
    (λ (t : list_any (λ n. number == n) numbers ≡ true). absurd (let here : test ≡ true = any_group numbers number group is t in cc))
    (λ (f : list_any (λ n. number == n) numbers ≡ false). clears.each number true (sound group (w.1 ∙ ap Some parts.0) number is) ∙ ap (λ (b : Bool). Some (true && not b)) f)
    (true_or_false (list_any (λ n. number == n) numbers))

-- so does each group below a bound that is not above one of them
pub lowered-full : (flags flags' : List Bool) (numbers : List ℕ) (low low' : ℕ) → ClearsAlso (λ q. list_any (λ n. q == n) numbers) flags flags'
    → low' ≤ low → ((k number : ℕ) → slice_get numbers k ≡ Some number → low' ≤ group_of number)
    → ((group : ℕ) → group < low → IsFull flags group) → (group : ℕ) → group < low' → IsFull flags' group
lowered-full flags flags' numbers low low' clears less each sound group under number is = ⊎_elim
    (λ (t : list_any (λ n. number == n) numbers ≡ true).
    let w = slice_get-among numbers number t in
    let above : low' ≤ group_of number = each w.0 number w.1 in
    absurd (omega (arith, is, above, under)))
    (λ (f : list_any (λ n. number == n) numbers ≡ false). clears.each number true (sound group (omega arith) number is) ∙ ap (λ (b : Bool). Some (true && not b)) f)
    (true_or_false (list_any (λ n. number == n) numbers))

-- no group after the last one is full
pub low_within : (taken : Taken) → length taken.flags.items ≡ 65536 → AreFull taken → taken.low ≤ 2048
low_within taken size full = ⊎_elim
    (λ (over : 2048 < taken.low). absurd (
    let there : 65536 < length taken.flags.items = slice_get_within taken.flags.items 65536 true (full.below 2048 over 65536 refl) in omega arith))
    (λ (within : taken.low ≤ 2048). within)
    (cases_lt 2048 taken.low)

-- a group more is known to be full
pub marks-full : (flags full full' : List Bool) (group : ℕ) → MarksAlso (λ q. q == group) full full' → IsFull flags group
    → ((other : ℕ) → slice_get full other ≡ Some true → IsFull flags other) → (other : ℕ) → slice_get full' other ≡ Some true → IsFull flags other
marks-full flags full full' group marks it sound other marked = ⊎_elim
    (λ (e : other ≡ group). subst (IsFull flags) (sym e) it)
    (λ (ne : other ≢ group).
    let w = at_place full other (omega (arith, slice_get_within full' other true marked, marks.size)) in
    let set : (w.0 || (other == group)) ≡ true = some_inj (w.0 || (other == group)) true (sym (marks.each other w.0 w.1) ∙ marked) in
    sound other (w.1 ∙ ap Some (left_true w.0 (ap (λ (b : Bool). w.0 || b) (sym (equal_false other group ne)) ∙ set))))
    (cases_eq other group)

-- flags that are not set belong to no object
pub no_objects : Table
no_objects id = None

pub all_false : (n q : ℕ) (b : Bool) → slice_get (replicate n false) q ≡ Some b → b ≡ false
all_false zero q b e = absurd (cc)
all_false (suc n) zero b e = sym (some_inj false b e)
all_false (suc n) (suc q) b e = all_false n q b e

pub live-none : IsLive (row_at []) (replicate 65536 false)
live-none = record {
  size = length-replicate 65536 false;
  marked = λ id number t. absurd (cc);
  real = λ number t. absurd (let f = all_false 65536 number true t in cc);
  apart = λ id other number t u. absurd (cc);
}

past : {X : Type 0} (xs : List X) → slice_get xs (length xs) ≡ None
past [] = refl
past (x ∷ xs) = past xs

pub row_past : (rows : List (Option Extent)) → row_at rows (length rows) ≡ None
row_past rows = ap option_flatten (past rows)

pub row_pushed : (rows : List (Option Extent)) (row : Option Extent) → row_at (rows ++ row ∷ []) (length rows) ≡ row
row_pushed rows row = ap option_flatten (push_last rows row)

pub rows_same : (rows : List (Option Extent)) (row : Option Extent) → AreSameBut (length rows) (row_at rows) (row_at (rows ++ row ∷ []))
rows_same rows row other apart = ap option_flatten (before rows other apart) where
  before : (rows : List (Option Extent)) (other : ℕ) → (other ≡ length rows → ⊥) → slice_get (rows ++ row ∷ []) other ≡ slice_get rows other
  before [] zero apart = absurd (apart refl)
  before [] (suc other) apart = refl
  before (r ∷ rows) zero apart = refl
  before (r ∷ rows) (suc other) apart = before rows other (λ is. apart (ap suc is))

-- places of entries and of values
value_at : (es : List (ℕ × Option Extent)) (i k : ℕ) (v : Option Extent) → slice_get es i ≡ Some (k, v) → slice_get (values_of es) i ≡ Some v
value_at [] i k v e = absurd (cc)
value_at (p ∷ es) zero k v e = ap (λ (q : ℕ × Option Extent). Some q.1) (some_inj p (k, v) e)
value_at (p ∷ es) (suc i) k v e = value_at es i k v e

entry_at : (es : List (ℕ × Option Extent)) (i : ℕ) (v : Option Extent) → slice_get (values_of es) i ≡ Some v → (k : ℕ) × (slice_get es i ≡ Some (k, v))
entry_at [] i v e = absurd (cc)
entry_at (p ∷ es) zero v e = (p.0, ap (λ (w : Option Extent). Some (p.0, w)) (some_inj p.1 v e))
entry_at (p ∷ es) (suc i) v e = entry_at es i v e

-- what a table's row has is had at a place
module _ (number : ℕ) where
  row_value : (r : Option (Option Extent)) → has_number number (option_flatten r) ≡ true → (v : Option Extent) × (r ≡ Some v) × (has_number number v ≡ true)
  row_value None t = absurd (cc)
  row_value (Some v) t = (v, refl, t)

module _ (rows : Rows) (ordered : tree.IsOrdered nat_cmp rows) where
  abbrev values : List (Option Extent)
  values = values_of rows.entries

  -- an id's place
  placed : (id number : ℕ) → has_number number (held_in rows id) ≡ true → (i : ℕ) × (v : Option Extent) × (slice_get rows.entries i ≡ Some (id, v)) × (has_number number (row_at values i) ≡ true)
  placed id number t =
      let w = row_value number (tree.get nat_cmp rows id) t in
      let p = place_from_lookup (tree.is_at (nat_cmp id)) rows.entries w.0 w.1 in
      let same : id ≡ p.1 = exact_unsigned id p.1 (is_equal (nat_cmp id p.1) p.3) in
      let there : slice_get rows.entries p.0 ≡ Some (id, w.0) = p.2 ∙ ap (λ (k : ℕ). Some (k, w.0)) (sym same) in
      (p.0, w.0, there, ap (λ (r : Option (Option Extent)). has_number number (option_flatten r)) (value_at rows.entries p.0 id w.0 there) ∙ w.2)

  -- the id at a place
  named : (i number : ℕ) → has_number number (row_at values i) ≡ true → (id : ℕ) × (has_number number (held_in rows id) ≡ true)
  named i number t =
      let w = row_value number (slice_get values i) t in
      let e = entry_at rows.entries i w.0 w.1 in
      (e.0, ap (λ (r : Option (Option Extent)). has_number number (option_flatten r)) (btree_map_get_place nat_cmp_total rows i e.0 w.0 ordered e.1) ∙ w.2)

  pub live-held : (flags : List Bool) → IsLive (row_at values) flags → IsLive (held_in rows) flags
  live-held flags live = record {
    size = live.size;
    marked = λ id number t. (let p = placed id number t in live.marked p.0 number p.3);
    real = λ number t. (let r = live.real number t in named r.0 number r.1);
    apart = λ id other number t u.
        let p = placed id number t in
        let q = placed other number u in
        let same : p.0 ≡ q.0 = live.apart p.0 q.0 number p.3 q.3 in
        let pairs : Some (id, p.1) ≡ Some (other, q.1) = sym p.2 ∙ ap (slice_get rows.entries) same ∙ q.2 in
        let one : (id, p.1) ≡ (other, q.1) = some_inj (id, p.1) (other, q.1) pairs in
        ap (λ (e : ℕ × Option Extent). e.0) one;
  }

  -- the flags are the tests
  any_place : (number : ℕ) (vs : List (Option Extent)) → list_any (has_number number) vs ≡ true → (i : ℕ) × (has_number number (row_at vs i) ≡ true)
  any_place number [] t = absurd (cc)
  any_place number (v ∷ vs) t = ⊎_elim
      (λ (yes : has_number number v ≡ true). (zero, yes))
      (λ (f : has_number number v ≡ false). let w = any_place number vs (sym (ap (λ (b : Bool). b || list_any (has_number number) vs) f) ∙ t) in (suc w.0, w.1))
      (true_or_false (has_number number v))

  place_any : (number : ℕ) (vs : List (Option Extent)) (i : ℕ) → has_number number (row_at vs i) ≡ true → list_any (has_number number) vs ≡ true
  place_any number [] i t = absurd (cc)
  place_any number (v ∷ vs) zero t = ap (λ (b : Bool). b || list_any (has_number number) vs) t
  place_any number (v ∷ vs) (suc i) t = ap (λ (b : Bool). has_number number v || b) (place_any number vs i t) ∙ or_true (has_number number v) where
    or_true : (b : Bool) → (b || true) ≡ true
    or_true true = refl
    or_true false = refl

  pub live-flags : (flags : List Bool) → IsLive (held_in rows) flags → AreFlags 65536 (λ q. list_any (has_number q) values) flags
  live-flags flags live = record {
    size = live.size;
    each = λ number low.
        let w = at_place flags number (omega (arith, live.size)) in
        ⊎_elim
        (λ (yes : list_any (has_number number) values ≡ true).
        let i = any_place number values yes in
        let id = named i.0 number i.1 in
        live.marked id.0 number id.1 ∙ ap Some (sym yes))
        (λ (f : list_any (has_number number) values ≡ false). ⊎_elim
        (λ (t : w.0 ≡ true). absurd (
        let r = live.real number (w.1 ∙ ap Some t) in
        let p = placed r.0 number r.1 in
        let yes = place_any number values p.0 p.3 in cc))
        (λ (u : w.0 ≡ false). w.1 ∙ ap Some (u ∙ sym f))
        (true_or_false w.0))
        (true_or_false (list_any (has_number number) values));
  }

-- an object goes to other pages
module _ (table more : Table) (id : ℕ) (flags between new : List Bool) (was next : Option Extent)
    (give : (t m : Table) (i : ℕ) → t i ≡ was → m i ≡ None → AreSameBut i t m → IsLive t flags → IsLive m between)
    (take : (t m : Table) (i : ℕ) → t i ≡ None → m i ≡ next → AreSameBut i t m → IsLive t between → IsLive m new)
    (is : table id ≡ was) (there : more id ≡ next) (same : AreSameBut id table more) (live : IsLive table flags) where
  abbrev gone : Table
  gone k = cond (k == id) None (table k)

  gone_none : gone id ≡ None
  gone_none = ap (λ (b : Bool). cond b None (table id)) (equal_true id id refl)

  gone_same : AreSameBut id table gone
  gone_same k apart = ap (λ (b : Bool). cond b None (table k)) (equal_false k id apart)

  more_same : AreSameBut id gone more
  more_same k apart = same k apart ∙ sym (gone_same k apart)

  live_between : IsLive gone between
  live_between = give table gone id is gone_none gone_same live

  pub moved-live : IsLive more new
  moved-live = take gone more id gone_none there more_same live_between

  pub moved-set : (number : ℕ) → slice_get between number ≡ Some true → slice_get new number ≡ Some true
  moved-set number t =
      let r = live_between.real number t in
      let apart : r.0 ≡ id → ⊥ = λ (e : r.0 ≡ id). (let yes : has_number number (gone id) ≡ true = ap (λ (k : ℕ). has_number number (gone k)) (sym e) ∙ r.1 in let f : has_number number (gone id) ≡ false = ap (has_number number) gone_none in cc) in
      moved-live.marked r.0 number (ap (has_number number) (more_same r.0 apart) ∙ r.1)
