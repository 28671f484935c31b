-- The rows of a desk, where a cursor changes.
use Rattle.std.proofs.Common.{arith, ◌≡◌, ◌<◌, ◌≤◌, ◌+◌, ◌*◌, ◌^◌, refl, ap, sym, ◌∙◌, subst, ℕ, zero, suc, List, [], ◌∷◌, length, filter, find, map, get_or, cond, nat_lt, Bool, true, false, not, ◌&&◌, ◌||◌, ◌==◌, Option, Some, None, option_map, unwrap_or, slice_get, slice_set, if◌then◌else◌}
use Rattle.std.specs.Prelude.{is_none}
use Rattle.std.specs.List.{list_any, position, position_or_len, insert}
use Rattle.std.proofs.Math.Nat.{pow-succ'}
use Rattle.std.proofs.lemmas.Bool.{not-true, or_parts}
use Rattle.std.proofs.lemmas.Bool.Decides.{nat_tests}
use Rattle.std.proofs.lemmas.List.Quantifiers.{position-Some}
use Rattle.std.proofs.lemmas.List.Sums.{prefix_len-le-length}
use Rattle.newt_spec_graph.specs.Lists.{Each, Pairs}
use Rattle.newt_spec_graph.proofs.Lists.{each-more, none-some, some-same, both-ways, pairs-filter, pairs-more}
use Rattle.newt_spec_query.specs.Hits.{Query}
use Rattle.newt_spec_query.specs.Cursor.{Place, start, finish, on, Cursor}
use Rattle.newt_spec_world.specs.World.{change_at, flat}
use Rattle.newt_tags.specs.Masks.{number}
use Rattle.newt_cursor.specs.Desk.{is_on, put_on, stands_on}
use Rattle.newt_cursor.specs.Table.{IsBefore, IsDesk, IsRight, IsTable, IsTableBut, entry_of, entry_on, held, is_before, is_row, others, standing, with_row}
use Rattle.newt_cursor.specs.declared.table.Row.{Row}

-- ---- one place

pub free_at : (cs : List (Option Cursor)) (c : ℕ) → position is_none cs ≡ Some c → slice_get cs c ≡ Some None
free_at cs c e = let p = position-Some is_none cs c None e in go cs c p.0 p.1
  where
    none : (o : Option Cursor) → is_none o ≡ true → o ≡ None
    none None h = refl
    none (Some k) h = absurd (both-ways h)

    go : (cs : List (Option Cursor)) (c : ℕ) → c < length cs → is_none (get_or cs c None) ≡ true → slice_get cs c ≡ Some None
    go [] c lt h = absurd (omega (arith, lt))
    go (x ∷ cs) zero lt h = ap Some (none x h)
    go (x ∷ cs) (suc c) lt h = go cs c (omega (arith, lt)) h

pub seated : (q : Query) (p : Place) (cs : List (Option Cursor)) (c : ℕ)
    → change_at c (put_on p) (slice_set cs c (Some (record { query = q; place = start }))) ≡ slice_set cs c (Some (record { query = q; place = p }))
seated q p [] c = refl
seated q p (x ∷ cs) zero = refl
seated q p (x ∷ cs) (suc c) = ap (λ ys. x ∷ ys) (seated q p cs c)

pub seated_nowhere : (q : Query) (cs : List (Option Cursor)) (c : ℕ) → entry_of (flat (slice_get (slice_set cs c (Some (record { query = q; place = start }))) c)) ≡ None
seated_nowhere q [] c = refl
seated_nowhere q (x ∷ cs) zero = refl
seated_nowhere q (x ∷ cs) (suc c) = seated_nowhere q cs c

pub put_twice : (a b : Place) (cs : List (Option Cursor)) (c : ℕ) → change_at c (put_on b) (change_at c (put_on a) cs) ≡ change_at c (put_on b) cs
put_twice a b [] c = refl
put_twice a b (None ∷ cs) zero = refl
put_twice a b (Some k ∷ cs) zero = refl
put_twice a b (x ∷ cs) (suc c) = ap (λ ys. x ∷ ys) (put_twice a b cs c)

pub left_nowhere : (cs : List (Option Cursor)) (c : ℕ) → entry_of (flat (slice_get (change_at c (put_on start) cs) c)) ≡ None
left_nowhere [] c = refl
left_nowhere (None ∷ cs) zero = refl
left_nowhere (Some k ∷ cs) zero = refl
left_nowhere (x ∷ cs) (suc c) = left_nowhere cs c

pub set_changed : (f : Cursor → Cursor) (cs : List (Option Cursor)) (c : ℕ) → slice_set (change_at c f cs) c None ≡ slice_set cs c None
set_changed f [] c = refl
set_changed f (x ∷ cs) zero = refl
set_changed f (x ∷ cs) (suc c) = ap (λ ys. x ∷ ys) (set_changed f cs c)

-- ---- who stands on an entry

pub standing-change : (s p u : ℕ) (f : Cursor → Cursor) (cs : List (Option Cursor)) (c : ℕ) → ((k : Cursor) → flat (slice_get cs c) ≡ Some k → stands_on s p u (Some (f k)) ≡ stands_on s p u (Some k))
    → standing s p u (change_at c f cs) ≡ standing s p u cs
standing-change s p u f [] c h = refl
standing-change s p u f (None ∷ cs) zero h = refl
standing-change s p u f (Some k ∷ cs) zero h = ap (λ b. number (b ∷ map (stands_on s p u) cs)) (h k refl)
standing-change s p u f (x ∷ cs) (suc c) h = ap (λ (n : ℕ). (if stands_on s p u x then 1 else 0) + 2 * n) (standing-change s p u f cs c h)

pub standing-set : (s p u : ℕ) (o : Option Cursor) (cs : List (Option Cursor)) (c : ℕ) → ((x : Option Cursor) → slice_get cs c ≡ Some x → stands_on s p u o ≡ stands_on s p u x)
    → standing s p u (slice_set cs c o) ≡ standing s p u cs
standing-set s p u o [] c h = refl
standing-set s p u o (x ∷ cs) zero h = ap (λ b. number (b ∷ map (stands_on s p u) cs)) (h x refl)
standing-set s p u o (x ∷ cs) (suc c) h = ap (λ (n : ℕ). (if stands_on s p u x then 1 else 0) + 2 * n) (standing-set s p u o cs c h)

-- the entries are the same
abbrev same : ℕ → ℕ → ℕ → ℕ → ℕ → ℕ → Bool
same a b c s p u = (a == s) && (b == p) && (c == u)

same-other : (a b c s p u : ℕ) → same a b c s p u ≡ false → same s p u a b c ≡ false
same-other a b c s p u h = grind (arith, h)

same-equal : (a b c s p u : ℕ) → same a b c s p u ≡ true → (a ≡ s) × (b ≡ p) × (c ≡ u)
same-equal a b c s p u h = (grind (arith, h), grind (arith, h), grind (arith, h))

-- an entry on which no cursor of that place stands before and after
nowhere : (a b c : ℕ) (place : Place) → entry_on place ≡ None → is_on a b c place ≡ false
nowhere a b c start e = refl
nowhere a b c finish e = refl
nowhere a b c (on at) e = absurd (none-some _ (sym e))

elsewhere : (a b c s p u : ℕ) (place : Place) → entry_on place ≡ Some (s, p, u) → same a b c s p u ≡ false → is_on a b c place ≡ false
elsewhere a b c s p u start e h = refl
elsewhere a b c s p u finish e h = refl
elsewhere a b c s p u (on at) e h =
    let i = some-same (at.store, at.soup, at.uid) (s, p, u) e in
    (λ j. same (i j).0 (i j).1 (i j).2 a b c) ∙ same-other a b c s p u h

-- ---- tables

pub table-same : (cs ds : List (Option Cursor)) (rows : List Row) → ((s p u : ℕ) → standing s p u ds ≡ standing s p u cs) → IsTable cs rows → IsTable ds rows
table-same cs ds rows e t = record {
  ordered = t.ordered;
  right = each-more (IsRight cs) (IsRight ds) rows (λ r h. (h.0 ∙ sym (e r.store r.soup r.uid), h.1)) t.right;
  whole = λ s p u h. e s p u ∙ t.whole s p u h;
}

pub table-but : (s p u : ℕ) (cs ds : List (Option Cursor)) (rows : List Row) → ((a b c : ℕ) → same a b c s p u ≡ false → standing a b c ds ≡ standing a b c cs) → IsTable cs rows → IsTableBut s p u ds rows
table-but s p u cs ds rows e t = record {
  ordered = t.ordered;
  right = each-more (IsRight cs) (λ r. is_row s p u r ≡ false → IsRight ds r) rows (λ r h out. (h.0 ∙ sym (e r.store r.soup r.uid out), h.1)) t.right;
  whole = λ a b c out h. e a b c out ∙ t.whole a b c h;
}

-- a cursor leaves an entry, or comes to one
pub leave-but : (s p u : ℕ) (cs : List (Option Cursor)) (c : ℕ) (rows : List Row) → Some (s, p, u) ≡ entry_of (flat (slice_get cs c)) → IsTable cs rows → IsTableBut s p u (change_at c (put_on start) cs) rows
leave-but s p u cs n rows e t = table-but s p u cs (change_at n (put_on start) cs) rows (λ a b c out. standing-change a b c (put_on start) cs n (λ k at.
    sym (elsewhere a b c s p u k.place (sym (e ∙ ap entry_of at)) out))) t

pub leave-same : (cs : List (Option Cursor)) (c : ℕ) (rows : List Row) → entry_of (flat (slice_get cs c)) ≡ None → IsTable cs rows → IsTable (change_at c (put_on start) cs) rows
leave-same cs n rows e t = table-same cs (change_at n (put_on start) cs) rows (λ a b c. standing-change a b c (put_on start) cs n (λ k at. sym (nowhere a b c k.place (sym (ap entry_of at) ∙ e)))) t

pub land-but : (s p u : ℕ) (place : Place) (cs : List (Option Cursor)) (c : ℕ) (rows : List Row) → entry_of (flat (slice_get cs c)) ≡ None → Some (s, p, u) ≡ entry_on place → IsTable cs rows
    → IsTableBut s p u (change_at c (put_on place) cs) rows
land-but s p u place cs n rows e f t = table-but s p u cs (change_at n (put_on place) cs) rows (λ a b c out. standing-change a b c (put_on place) cs n (λ k at.
    elsewhere a b c s p u place (sym f) out ∙ sym (nowhere a b c k.place (sym (ap entry_of at) ∙ e)))) t

-- a place that no cursor stands from is filled by one before all hits, or freed
pub set-same : (o : Option Cursor) (cs : List (Option Cursor)) (c : ℕ) (rows : List Row) → entry_of o ≡ None → ((x : Option Cursor) → slice_get cs c ≡ Some x → entry_of x ≡ None) → IsTable cs rows → IsTable (slice_set cs c o) rows
set-same o cs n rows e f t = table-same cs (slice_set cs n o) rows (λ a b c. standing-set a b c o cs n (λ x at. off a b c o e ∙ sym (off a b c x (f x at)))) t
  where
    off : (a b c : ℕ) (x : Option Cursor) → entry_of x ≡ None → stands_on a b c x ≡ false
    off a b c None e = refl
    off a b c (Some k) e = nowhere a b c k.place e

-- ---- rows without an entry

filter-whole : {X : Type 0} (test : X → Bool) (xs : List X) → Each (λ x. test x ≡ true) xs → filter test xs ≡ xs
filter-whole test [] h = refl
filter-whole test (x ∷ xs) h = ap (λ b. cond b (x ∷ filter test xs) (filter test xs)) h.0 ∙ ap (λ ys. x ∷ ys) (filter-whole test xs h.1)

each-filter : {X : Type 0} (P : X → Type 0) (test : X → Bool) (xs : List X) → Each P xs → Each (λ x. P x × (test x ≡ true)) (filter test xs)
each-filter P test [] h = tt
each-filter P test (x ∷ xs) h = go (test x) refl (each-filter P test xs h.1)
  where
    go : (b : Bool) → test x ≡ b → Each (λ x. P x × (test x ≡ true)) (filter test xs) → Each (λ x. P x × (test x ≡ true)) (cond b (x ∷ filter test xs) (filter test xs))
    go true e more = ((h.0, e), more)
    go false e more = more

-- two rows are of different entries
abbrev AreApart : Row → Row → Type 0
AreApart a b = is_row a.store a.soup a.uid b ≡ false

before-apart : (a b : Row) → IsBefore a b → AreApart a b
before-apart a b h = grind (arith, h)

-- an order by one number, and then by another order
abbrev by : ℕ → ℕ → Bool → Bool
by a b more = nat_lt a b || (a == b) && more

by-by : (a b c : ℕ) (p q r : Bool) → (p ≡ true → q ≡ true → r ≡ true) → by a b p ≡ true → by b c q ≡ true → by a c r ≡ true
by-by a b c true true r f h k = let e = f refl refl in grind (arith, e, h, k)
by-by a b c true false r f h k = grind (arith, h, k)
by-by a b c false q r f h k = grind (arith, h, k)

less-less : (a b c : ℕ) → nat_lt a b ≡ true → nat_lt b c ≡ true → nat_lt a c ≡ true
less-less a b c h k = grind (arith, h, k)

before-before : (a b c : Row) → IsBefore a b → IsBefore b c → IsBefore a c
before-before a b c = by-by a.store b.store c.store (by a.soup b.soup (nat_lt a.uid b.uid)) (by b.soup c.soup (nat_lt b.uid c.uid)) (by a.soup c.soup (nat_lt a.uid c.uid))
    (by-by a.soup b.soup c.soup (nat_lt a.uid b.uid) (nat_lt b.uid c.uid) (nat_lt a.uid c.uid) (less-less a.uid b.uid c.uid))

other-way : (a b : Row) → is_before a b ≡ false → AreApart a b → IsBefore b a
other-way a b h k = grind (arith, h, k)

all-apart : (rows : List Row) → Pairs IsBefore rows → Pairs AreApart rows
all-apart rows = pairs-more IsBefore AreApart rows (λ a b m k. before-apart a b)

alike : (s p u : ℕ) (a b : Row) → is_row s p u a ≡ true → is_row a.store a.soup a.uid b ≡ is_row s p u b
alike s p u a b h = let e = same-equal a.store a.soup a.uid s p u h in λ i. same b.store b.soup b.uid (e.0 i) (e.1 i) (e.2 i)

one-less : (s p u : ℕ) (rows : List Row) → Pairs AreApart rows → length rows ≤ suc (length (others s p u rows))
one-less s p u [] h = omega arith
one-less s p u (r ∷ rows) h = go (one-less s p u rows h.1) (is_row s p u r) refl
  where
    go : length rows ≤ suc (length (others s p u rows)) → (b : Bool) → is_row s p u r ≡ b → suc (length rows) ≤ suc (length (cond (not b) (r ∷ others s p u rows) (others s p u rows)))
    go k true e = let w = filter-whole (λ row. not (is_row s p u row)) rows (each-more (AreApart r) (λ y. not (is_row s p u y) ≡ true) rows (λ y k. ap not (sym (alike s p u r y e) ∙ k)) h.0) in
        subst (λ ys. suc (length rows) ≤ suc (length ys)) (sym w) (omega arith)
    go k false e = omega (arith, k)

bit-off : (b : Bool) (n : ℕ) → b ≡ false → 0 < (if b then 1 else 0) + 2 * n → 0 < n
bit-off true n e h = absurd (both-ways (sym e))
bit-off false n e h = omega (arith, h)

-- there are no more rows than places
few : (cs : List (Option Cursor)) (rows : List Row) → Pairs AreApart rows → Each (λ r. 0 < standing r.store r.soup r.uid cs) rows → length rows ≤ length cs
few [] [] apart h = omega arith
few [] (r ∷ rows) apart h = absurd (omega (arith, h.0))
few (None ∷ cs) rows apart h = let k = few cs rows apart (each-more _ _ rows (λ r m. bit-off false (standing r.store r.soup r.uid cs) refl m) h) in omega (arith, k)
few (Some k ∷ cs) rows apart h = go (λ xs. few cs xs) k.place refl
  where
    rest : (r : Row) → is_on r.store r.soup r.uid k.place ≡ false → 0 < standing r.store r.soup r.uid (Some k ∷ cs) → 0 < standing r.store r.soup r.uid cs
    rest r off m = bit-off (is_on r.store r.soup r.uid k.place) (standing r.store r.soup r.uid cs) off m

    none : ((xs : List Row) → Pairs AreApart xs → Each (λ r. 0 < standing r.store r.soup r.uid cs) xs → length xs ≤ length cs) → entry_on k.place ≡ None → length rows ≤ suc (length cs)
    none more e = let m = more rows apart (each-more _ _ rows (λ r m. rest r (nowhere r.store r.soup r.uid k.place e) m) h) in omega (arith, m)

    go : ((xs : List Row) → Pairs AreApart xs → Each (λ r. 0 < standing r.store r.soup r.uid cs) xs → length xs ≤ length cs) → (p : Place) → k.place ≡ p → length rows ≤ suc (length cs)
    go more start e = none more (ap entry_on e)
    go more finish e = none more (ap entry_on e)
    go more (on at) e =
        let m = more (others at.store at.soup at.uid rows) (pairs-filter AreApart _ rows apart)
        (each-more _ _ (others at.store at.soup at.uid rows) (λ r m. rest r (elsewhere r.store r.soup r.uid at.store at.soup at.uid k.place (ap entry_on e) (not-true _ m.1)) m.0)
        (each-filter (λ r. 0 < standing r.store r.soup r.uid (Some k ∷ cs)) _ rows h)) in
        let l = one-less at.store at.soup at.uid rows apart in
        omega (arith, m, l)

any-others : (a b c s p u : ℕ) (rows : List Row) → same a b c s p u ≡ false → list_any (is_row a b c) (others s p u rows) ≡ list_any (is_row a b c) rows
any-others a b c s p u [] h = refl
any-others a b c s p u (r ∷ rows) h = go (is_row s p u r) refl (any-others a b c s p u rows h)
  where
    go : (t : Bool) → is_row s p u r ≡ t → list_any (is_row a b c) (others s p u rows) ≡ list_any (is_row a b c) rows
        → list_any (is_row a b c) (cond (not t) (r ∷ others s p u rows) (others s p u rows)) ≡ (is_row a b c r || list_any (is_row a b c) rows)
    go true e more = let i = same-equal r.store r.soup r.uid s p u e in
        more ∙ ap (λ t. t || list_any (is_row a b c) rows) (sym ((λ j. same (i.0 j) (i.1 j) (i.2 j) a b c) ∙ same-other a b c s p u h))
    go false e more = ap (λ t. is_row a b c r || t) more

others-right : (s p u : ℕ) (cs : List (Option Cursor)) (rows : List Row) → IsTableBut s p u cs rows → Each (λ r. IsRight cs r × (is_row s p u r ≡ false)) (others s p u rows)
others-right s p u cs rows t = each-more _ _ (others s p u rows) (λ r m. (m.0 (not-true _ m.1), not-true _ m.1)) (each-filter (λ r. is_row s p u r ≡ false → IsRight cs r) _ rows t.right)

-- no cursor stands on the entry
pub but-none : (s p u : ℕ) (cs : List (Option Cursor)) (rows : List Row) → IsTableBut s p u cs rows → standing s p u cs ≡ 0 → IsTable cs (others s p u rows)
but-none s p u cs rows t none = record {
  ordered = pairs-filter IsBefore _ rows t.ordered;
  right = each-more _ _ (others s p u rows) (λ r m. m.0) (others-right s p u cs rows t);
  whole = λ a b c h. go a b c (same a b c s p u) refl h;
}
  where
    go : (a b c : ℕ) (t2 : Bool) → same a b c s p u ≡ t2 → list_any (is_row a b c) (others s p u rows) ≡ false → standing a b c cs ≡ 0
    go a b c true e h = let i = same-equal a b c s p u e in (λ j. standing (i.0 j) (i.1 j) (i.2 j) cs) ∙ none
    go a b c false e h = t.whole a b c e (sym (any-others a b c s p u rows e) ∙ h)

-- some do
pub room : (s p u : ℕ) (cs : List (Option Cursor)) (rows : List Row) → IsTableBut s p u cs rows → 0 < standing s p u cs → length (others s p u rows) < length cs
room s p u cs rows t some =
    let made : Row = record { store = s; soup = p; uid = u; cursors = 0 } in
    let o = others-right s p u cs rows t in
    let k = few cs (made ∷ others s p u rows) (each-more _ (AreApart made) (others s p u rows) (λ r m. m.1) o, all-apart _ (pairs-filter IsBefore _ rows t.ordered))
    (some, each-more _ (λ r. 0 < standing r.store r.soup r.uid cs) (others s p u rows) (λ r m. subst (λ n. 0 < n) m.0.0 m.0.1) o) in
    omega (arith, k)

-- ---- a row more

each-insert : {X : Type 0} (P : X → Type 0) (xs : List X) (n : ℕ) (x : X) → Each P xs → P x → Each P (insert xs n x)
each-insert P [] zero x h k = (k, tt)
each-insert P [] (suc n) x h k = (k, tt)
each-insert P (y ∷ xs) zero x h k = (k, h)
each-insert P (y ∷ xs) (suc n) x h k = (h.0, each-insert P xs n x h.1 k)

one-more : (n : ℕ) → suc n ≡ 1 + n
one-more n = omega arith

-- the rows stay in order
ordered-insert : (r : Row) (rows : List Row) → Pairs IsBefore rows → Each (AreApart r) rows → Pairs IsBefore (insert rows (position_or_len (is_before r) rows) r)
ordered-insert r [] h apart = (tt, tt)
ordered-insert r (x ∷ rows) h apart = go (is_before r x) refl (ordered-insert r rows h.1 apart.1)
  where
    go : (b : Bool) → is_before r x ≡ b → Pairs IsBefore (insert rows (position_or_len (is_before r) rows) r)
        → Pairs IsBefore (insert (x ∷ rows) (cond (not b) (1 + position_or_len (is_before r) rows) 0) r)
    go true e more = ((e, each-more (IsBefore x) (IsBefore r) rows (λ y k. before-before r x y e k) h.0), h)
    go false e more = subst (λ n. Pairs IsBefore (insert (x ∷ rows) n r)) (one-more (position_or_len (is_before r) rows)) (each-insert (IsBefore x) rows _ r h.0 (other-way r x e apart.0), more)

-- where `position` finds a place, and where it finds none
pub at_first : (r : Row) (rows : List Row) (at : ℕ) → Some at ≡ position (is_before r) rows → at ≡ position_or_len (is_before r) rows
at_first r rows at h = go (nat_lt (position_or_len (is_before r) rows) (length rows)) h
  where
    go : (b : Bool) → Some at ≡ cond b (Some (position_or_len (is_before r) rows)) None → at ≡ position_or_len (is_before r) rows
    go true h = some-same at (position_or_len (is_before r) rows) h
    go false h = absurd (none-some at (sym h))

pub at_end : (r : Row) (rows : List Row) → None ≡ position (is_before r) rows → length rows ≡ position_or_len (is_before r) rows
at_end r rows h = go (nat_lt (position_or_len (is_before r) rows) (length rows)) refl h
  where
    go : (b : Bool) → nat_lt (position_or_len (is_before r) rows) (length rows) ≡ b → None ≡ cond b (Some (position_or_len (is_before r) rows)) None → length rows ≡ position_or_len (is_before r) rows
    go true e h = absurd (none-some (position_or_len (is_before r) rows) h)
    go false e h = let l = prefix_len-le-length (λ x. not (is_before r x)) rows in grind (arith, e, l)

any-insert : {X : Type 0} (test : X → Bool) (xs : List X) (n : ℕ) (x : X) → list_any test (insert xs n x) ≡ false → (test x ≡ false) × (list_any test xs ≡ false)
any-insert test [] zero x h = or_parts (test x) false h
any-insert test [] (suc n) x h = or_parts (test x) false h
any-insert test (y ∷ xs) zero x h = or_parts (test x) (test y || list_any test xs) h
any-insert test (y ∷ xs) (suc n) x h =
    let p = or_parts (test y) (list_any test (insert xs n x)) h in
    let q = any-insert test xs n x p.1 in
    (q.0, (λ i. p.0 i || q.1 i))

pub but-some : (s p u n : ℕ) (cs : List (Option Cursor)) (rows : List Row) → IsTableBut s p u cs rows → n ≡ standing s p u cs → 0 < n
    → (let made : Row = record { store = s; soup = p; uid = u; cursors = n } in IsTable cs (insert (others s p u rows) (position_or_len (is_before made) (others s p u rows)) made))
but-some s p u n cs rows t is some = record {
  ordered = ordered-insert made (others s p u rows) (pairs-filter IsBefore _ rows t.ordered) (each-more _ (AreApart made) (others s p u rows) (λ r m. m.1) o);
  right = each-insert (IsRight cs) (others s p u rows) _ made (each-more _ _ (others s p u rows) (λ r m. m.0) o) (is, some);
  whole = λ a b c h. go a b c (same a b c s p u) refl (any-insert (is_row a b c) (others s p u rows) _ made h);
}
  where
    made : Row
    made = record { store = s; soup = p; uid = u; cursors = n }

    o : Each (λ r. IsRight cs r × (is_row s p u r ≡ false)) (others s p u rows)
    o = others-right s p u cs rows t

    self : (a b c : ℕ) → same a b c s p u ≡ true → same s p u a b c ≡ true
    self a b c e = grind (arith, e)

    go : (a b c : ℕ) (t2 : Bool) → same a b c s p u ≡ t2 → (is_row a b c made ≡ false) × (list_any (is_row a b c) (others s p u rows) ≡ false) → standing a b c cs ≡ 0
    go a b c true e h = absurd (both-ways (sym h.0 ∙ self a b c e))
    go a b c false e h = t.whole a b c e (sym (any-others a b c s p u rows e) ∙ h.1)

is-some : (n : ℕ) → nat_lt 0 n ≡ true → 0 < n
is-some n e = grind (arith, nat_tests, e)

is-none : (n : ℕ) → nat_lt 0 n ≡ false → n ≡ 0
is-none n e = grind (arith, nat_tests, e)

-- the row of the entry as it is
pub with_row-table : (s p u n : ℕ) (cs : List (Option Cursor)) (rows : List Row) → IsTableBut s p u cs rows → n ≡ standing s p u cs
    → IsTable cs (with_row (record { store = s; soup = p; uid = u; cursors = n }) rows)
with_row-table s p u n cs rows t is = go (nat_lt 0 n) refl
  where
    go : (b : Bool) → nat_lt 0 n ≡ b
        → (let made : Row = record { store = s; soup = p; uid = u; cursors = n } in IsTable cs (cond b (insert (others s p u rows) (position_or_len (is_before made) (others s p u rows)) made) (others s p u rows)))
    go true e = but-some s p u n cs rows t is (is-some n e)
    go false e = but-none s p u cs rows t (sym is ∙ is-none n e)

-- ---- the bit of a cursor

onto : (s p u : ℕ) (place : Place) → entry_on place ≡ Some (s, p, u) → is_on s p u place ≡ true
onto s p u start e = absurd (none-some _ e)
onto s p u finish e = absurd (none-some _ e)
onto s p u (on at) e =
    let i = some-same (at.store, at.soup, at.uid) (s, p, u) e in
    (λ j. same (i j).0 (i j).1 (i j).2 s p u) ∙ itself s p u
  where
    itself : (s p u : ℕ) → same s p u s p u ≡ true
    itself s p u = grind arith

-- one that stands on an entry, and one that does not
bit-more : (s p u c : ℕ) (b : Bool) (m n : ℕ) → m ≡ n + 2 ^ c → (if b then 1 else 0) + 2 * m ≡ ((if b then 1 else 0) + 2 * n) + 2 ^ suc c
bit-more s p u c b m n e = let k = pow-succ' 2 c in omega (arith, e, k)

bit-on : (b : Bool) (d : Bool) (n : ℕ) → b ≡ true → d ≡ false → (if b then 1 else 0) + 2 * n ≡ ((if d then 1 else 0) + 2 * n) + 1
bit-on true false n e f = omega arith
bit-on true true n e f = absurd (both-ways (sym f))
bit-on false d n e f = absurd (both-ways e)

-- a cursor that leaves an entry
pub left-bit : (s p u : ℕ) (cs : List (Option Cursor)) (c : ℕ) → Some (s, p, u) ≡ entry_of (flat (slice_get cs c)) → standing s p u cs ≡ standing s p u (change_at c (put_on start) cs) + 2 ^ c
left-bit s p u [] c e = absurd (none-some _ (sym e))
left-bit s p u (None ∷ cs) zero e = absurd (none-some _ (sym e))
left-bit s p u (Some k ∷ cs) zero e = bit-on (is_on s p u k.place) false (standing s p u cs) (onto s p u k.place (sym e)) refl
left-bit s p u (x ∷ cs) (suc c) e = bit-more s p u c (stands_on s p u x) (standing s p u cs) (standing s p u (change_at c (put_on start) cs)) (left-bit s p u cs c e)

-- and one that comes to it
pub landed-bit : (s p u : ℕ) (place : Place) (cs : List (Option Cursor)) (c : ℕ) → entry_of (flat (slice_get cs c)) ≡ None → Some (s, p, u) ≡ entry_of (flat (slice_get (change_at c (put_on place) cs) c))
    → standing s p u (change_at c (put_on place) cs) ≡ standing s p u cs + 2 ^ c
landed-bit s p u place [] c f e = absurd (none-some _ (sym e))
landed-bit s p u place (None ∷ cs) zero f e = absurd (none-some _ (sym e))
landed-bit s p u place (Some k ∷ cs) zero f e = bit-on (is_on s p u place) (is_on s p u k.place) (standing s p u cs) (onto s p u place (sym e)) (nowhere s p u k.place f)
landed-bit s p u place (x ∷ cs) (suc c) f e = bit-more s p u c (stands_on s p u x) (standing s p u (change_at c (put_on place) cs)) (standing s p u cs) (landed-bit s p u place cs c f e)

pub landed-on : (s p u : ℕ) (place : Place) (cs : List (Option Cursor)) (c : ℕ) → Some (s, p, u) ≡ entry_of (flat (slice_get (change_at c (put_on place) cs) c)) → Some (s, p, u) ≡ entry_on place
landed-on s p u place [] c e = absurd (none-some _ (sym e))
landed-on s p u place (None ∷ cs) zero e = absurd (none-some _ (sym e))
landed-on s p u place (Some k ∷ cs) zero e = e
landed-on s p u place (x ∷ cs) (suc c) e = landed-on s p u place cs c e

-- a cursor that is not open, or is put where no entry is
pub landed-nowhere : (place : Place) (cs : List (Option Cursor)) (c : ℕ) (rows : List Row) → entry_of (flat (slice_get cs c)) ≡ None → entry_of (flat (slice_get (change_at c (put_on place) cs) c)) ≡ None
    → IsTable cs rows → IsTable (change_at c (put_on place) cs) rows
landed-nowhere place cs n rows e f t = table-same cs (change_at n (put_on place) cs) rows (λ a b c. standing-change a b c (put_on place) cs n (λ k at.
    nowhere a b c place (sym (put k cs n at) ∙ f) ∙ sym (nowhere a b c k.place (sym (ap entry_of at) ∙ e)))) t
  where
    put : (k : Cursor) (cs : List (Option Cursor)) (c : ℕ) → flat (slice_get cs c) ≡ Some k → entry_of (flat (slice_get (change_at c (put_on place) cs) c)) ≡ entry_on place
    put k [] c at = absurd (none-some k at)
    put k (None ∷ cs) zero at = absurd (none-some k at)
    put k (Some j ∷ cs) zero at = refl
    put k (x ∷ cs) (suc c) at = put k cs c at

bits-few : (b : Bool) (m n : ℕ) → m < 2 ^ n → (if b then 1 else 0) + 2 * m < 2 ^ suc n
bits-few true m n h = let k = pow-succ' 2 n in omega (arith, h, k)
bits-few false m n h = let k = pow-succ' 2 n in omega (arith, h, k)

pub standing-few : (s p u : ℕ) (cs : List (Option Cursor)) → standing s p u cs < 2 ^ length cs
standing-few s p u [] = omega arith
standing-few s p u (x ∷ cs) = bits-few (stands_on s p u x) (standing s p u cs) (length cs) (standing-few s p u cs)

-- ---- to look up

pub looked_up : (s p u : ℕ) (cs : List (Option Cursor)) (rows : List Row) → IsDesk cs rows → held s p u rows ≡ standing s p u cs
looked_up s p u cs rows d = go rows d.table.right (d.table.whole s p u)
  where
    go : (xs : List Row) → Each (IsRight cs) xs → (list_any (is_row s p u) xs ≡ false → standing s p u cs ≡ 0) → held s p u xs ≡ standing s p u cs
    go [] h w = sym (w refl)
    go (r ∷ xs) h w = at (is_row s p u r) refl (λ e. go xs h.1 (λ m. w (λ i. e i || m i)))
      where
        at : (b : Bool) → is_row s p u r ≡ b → (is_row s p u r ≡ false → held s p u xs ≡ standing s p u cs) → unwrap_or (option_map (λ (row : Row). row.cursors) (cond b (Some r) (find (is_row s p u) xs))) 0 ≡ standing s p u cs
        at true e more = let i = same-equal r.store r.soup r.uid s p u e in h.0.0 ∙ (λ j. standing (i.0 j) (i.1 j) (i.2 j) cs)
        at false e more = more e
