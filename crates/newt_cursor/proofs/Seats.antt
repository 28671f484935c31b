-- The desk of the code, where a cursor changes.
use Rattle.std.proofs.Common.{arith, ◌≡◌, ◌<◌, ◌+◌, ◌-◌, ◌^◌, refl, ap, sym, ◌∙◌, subst, ℕ, zero, suc, List, [], ◌∷◌, length, get_or, Option, Some, None, option_map, slice_get, slice_set}
use Rattle.std.proofs.lemmas.List.{get_or-set_same, length-set}
use Rattle.newt_spec_graph.proofs.Lists.{some-same}
use Rattle.newt_spec_store.specs.Keys.{Key}
use Rattle.newt_spec_query.specs.Hits.{Query}
use Rattle.newt_spec_query.specs.Cursor as spec
use Rattle.newt_spec_query.specs.Cursor.{start, finish, on}
use Rattle.newt_spec_world.specs.World.{change_at, flat}
use Rattle.newt_cursor.specs.declared.desk.Cursor.{Cursor}
use Rattle.newt_cursor.specs.Seen.{cursor_of, cursors_of, place_of}
use Rattle.newt_cursor.specs.Desk.{keyed, put_on, stands_on}
use Rattle.newt_cursor.specs.Table.{IsDesk, IsTable, IsTableBut, entry_of, entry_on, held, others, standing, with_row}
use Rattle.newt_cursor.specs.declared.table.Row.{Row}
use Rattle.newt_cursor.proofs.Places.{changed_at, seen_length, set_seen}
use Rattle.newt_cursor.proofs.Rows as rows

-- ---- the desk

got_at : (xs : List (Option Cursor)) (c : ℕ) (d : Option Cursor) → c < length xs → flat (slice_get (cursors_of xs) c) ≡ option_map cursor_of (get_or xs c d)
got_at [] c d lt = absurd (omega (arith, lt))
got_at (x ∷ xs) zero d lt = refl
got_at (x ∷ xs) (suc c) d lt = got_at xs c d (omega (arith, lt))

places_after : (xs : List (Option Cursor)) (c : ℕ) (x : Option Cursor) (table : List Row) → IsDesk (cursors_of xs) table → length (cursors_of (slice_set xs c x)) ≡ 32
places_after xs c x table h = seen_length (slice_set xs c x) ∙ length-set xs c x ∙ sym (seen_length xs) ∙ h.places

-- a cursor leaves the entry that it is on: what the row of the entry has, the room for the new one, and the desk then
module _ (s p u : ℕ) (xs : List (Option Cursor)) (c : ℕ) (x d d2 : Option Cursor) (table : List Row) (lt : c < length xs)
    (e : option_map cursor_of x ≡ option_map (put_on start) (option_map cursor_of (get_or xs c d))) (at : Some (s, p, u) ≡ entry_of (option_map cursor_of (get_or xs c d2)))
    (h : IsDesk (cursors_of xs) table) where
  left : Some (s, p, u) ≡ entry_of (flat (slice_get (cursors_of xs) c))
  left = at ∙ ap entry_of (sym (got_at xs c d2 lt))

  pub left_held : held s p u table ≡ standing s p u (change_at c (put_on start) (cursors_of xs)) + 2 ^ c
  left_held = rows.looked_up s p u (cursors_of xs) table h ∙ rows.left-bit s p u (cursors_of xs) c left

  left_but : IsTableBut s p u (change_at c (put_on start) (cursors_of xs)) table
  left_but = rows.leave-but s p u (cursors_of xs) c table left h.table

  left_is : (n : ℕ) → n ≡ held s p u table - 2 ^ c → n ≡ standing s p u (change_at c (put_on start) (cursors_of xs))
  left_is n is = let k = left_held in omega (arith, is, k)

  pub left_room : (n : ℕ) → n ≡ held s p u table - 2 ^ c → 0 < n → length (others s p u table) < 32
  left_room n is some = subst (λ m. length (others s p u table) < m) (ap length (sym (changed_at (put_on start) xs c x d lt e)) ∙ places_after xs c x table h)
      (rows.room s p u (change_at c (put_on start) (cursors_of xs)) table left_but (subst (λ m. 0 < m) (left_is n is) some))

  pub left_row : (n : ℕ) → n ≡ held s p u table - 2 ^ c → IsDesk (cursors_of (slice_set xs c x)) (with_row (record { store = s; soup = p; uid = u; cursors = n }) table)
  left_row n is = record {
    places = places_after xs c x table h;
    table = subst (λ cs. IsTable cs (with_row (record { store = s; soup = p; uid = u; cursors = n }) table)) (sym (changed_at (put_on start) xs c x d lt e))
        (rows.with_row-table s p u n (change_at c (put_on start) (cursors_of xs)) table left_but (left_is n is));
  }

-- one that is on none
pub left_none : (xs : List (Option Cursor)) (c : ℕ) (x d d2 : Option Cursor) (table : List Row) → c < length xs
    → option_map cursor_of x ≡ option_map (put_on start) (option_map cursor_of (get_or xs c d)) → None ≡ entry_of (option_map cursor_of (get_or xs c d2)) → IsDesk (cursors_of xs) table
    → IsDesk (cursors_of (slice_set xs c x)) table
left_none xs c x d d2 table lt e at h = record {
  places = places_after xs c x table h;
  table = subst (λ cs. IsTable cs table) (sym (changed_at (put_on start) xs c x d lt e)) (rows.leave-same (cursors_of xs) c table (ap entry_of (got_at xs c d2 lt) ∙ sym at) h.table);
}

-- a cursor that is before all hits is put at a place
module _ (place : spec.Place) (xs : List (Option Cursor)) (c : ℕ) (x d : Option Cursor) (table : List Row) (lt : c < length xs)
    (e : option_map cursor_of x ≡ option_map (put_on place) (option_map cursor_of (get_or xs c d))) (before : entry_of (flat (slice_get (cursors_of xs) c)) ≡ None)
    (h : IsDesk (cursors_of xs) table) where
  is_now : cursors_of (slice_set xs c x) ≡ change_at c (put_on place) (cursors_of xs)
  is_now = changed_at (put_on place) xs c x d lt e

  -- on the entry that it stands on then
  reached : (o : Option Cursor) → o ≡ x → (d2 : Option Cursor) → entry_of (option_map cursor_of o) ≡ entry_of (flat (slice_get (change_at c (put_on place) (cursors_of xs)) c))
  reached o is d2 =
      ap (λ (o : Option Cursor). entry_of (option_map cursor_of o)) (is ∙ sym (get_or-set_same xs c x d2 lt))
      ∙ sym (ap entry_of (got_at (slice_set xs c x) c d2 (subst (λ n. c < n) (sym (length-set xs c x)) lt)))
      ∙ ap (λ cs. entry_of (flat (slice_get cs c))) is_now

  pub landed_none : (o : Option Cursor) → o ≡ x → None ≡ entry_of (option_map cursor_of o) → IsDesk (cursors_of (slice_set xs c x)) table
  landed_none o is at = record {
    places = places_after xs c x table h;
    table = subst (λ cs. IsTable cs table) (sym is_now) (rows.landed-nowhere place (cursors_of xs) c table before (sym (reached o is d) ∙ sym at) h.table);
  }

  module _ (s p u : ℕ) (o : Option Cursor) (is : o ≡ x) (at : Some (s, p, u) ≡ entry_of (option_map cursor_of o)) where
    landed : Some (s, p, u) ≡ entry_of (flat (slice_get (change_at c (put_on place) (cursors_of xs)) c))
    landed = at ∙ reached o is d

    landed_is : (n : ℕ) → n ≡ held s p u table + 2 ^ c → n ≡ standing s p u (change_at c (put_on place) (cursors_of xs))
    landed_is n is =
        let k = rows.looked_up s p u (cursors_of xs) table h in
        let m = rows.landed-bit s p u place (cursors_of xs) c before landed in
        omega (arith, is, k, m)

    landed_but : IsTableBut s p u (change_at c (put_on place) (cursors_of xs)) table
    landed_but = rows.land-but s p u place (cursors_of xs) c table before (rows.landed-on s p u place (cursors_of xs) c landed) h.table

    count : length (change_at c (put_on place) (cursors_of xs)) ≡ 32
    count = sym (ap length is_now) ∙ places_after xs c x table h

    pub landed_held : held s p u table + 2 ^ c < 2 ^ 32
    landed_held = subst (λ m. m < 2 ^ 32) (sym (landed_is (held s p u table + 2 ^ c) refl))
        (subst (λ m. standing s p u (change_at c (put_on place) (cursors_of xs)) < 2 ^ m) count (rows.standing-few s p u (change_at c (put_on place) (cursors_of xs))))

    pub landed_room : (n : ℕ) → n ≡ held s p u table + 2 ^ c → 0 < n → length (others s p u table) < 32
    landed_room n is some = subst (λ m. length (others s p u table) < m) count
        (rows.room s p u (change_at c (put_on place) (cursors_of xs)) table landed_but (subst (λ m. 0 < m) (landed_is n is) some))

    pub landed_row : (n : ℕ) → n ≡ held s p u table + 2 ^ c → IsDesk (cursors_of (slice_set xs c x)) (with_row (record { store = s; soup = p; uid = u; cursors = n }) table)
    landed_row n is = record {
      places = places_after xs c x table h;
      table = subst (λ cs. IsTable cs (with_row (record { store = s; soup = p; uid = u; cursors = n }) table)) (sym is_now)
          (rows.with_row-table s p u n (change_at c (put_on place) (cursors_of xs)) table landed_but (landed_is n is));
    }

-- the key of an entry says nothing of who stands on it
keyed-stands : (s p u : ℕ) (key : Key) (place : spec.Place) (q : Query) → stands_on s p u (Some (keyed key (record { query = q; place = place }))) ≡ stands_on s p u (Some (record { query = q; place = place }))
keyed-stands s p u key start q = refl
keyed-stands s p u key finish q = refl
keyed-stands s p u key (on at) q = refl

pub keyed_same : (key : Key) (xs : List (Option Cursor)) (c : ℕ) (x d : Option Cursor) (table : List Row) → c < length xs
    → option_map cursor_of x ≡ option_map (keyed key) (option_map cursor_of (get_or xs c d)) → IsDesk (cursors_of xs) table → IsDesk (cursors_of (slice_set xs c x)) table
keyed_same key xs c x d table lt e h = record {
  places = places_after xs c x table h;
  table = subst (λ cs. IsTable cs table) (sym (changed_at (keyed key) xs c x d lt e))
      (rows.table-same (cursors_of xs) (change_at c (keyed key) (cursors_of xs)) table (λ s p u. rows.standing-change s p u (keyed key) (cursors_of xs) c (λ k at. keyed-stands s p u key k.place k.query)) h.table);
}

pub seated_same : (xs : List (Option Cursor)) (c : ℕ) (k : Cursor) (table : List Row) → slice_get (cursors_of xs) c ≡ Some None → place_of k.place ≡ start → IsDesk (cursors_of xs) table
    → IsDesk (cursors_of (slice_set xs c (Some k))) table
seated_same xs c k table free at h = record {
  places = places_after xs c (Some k) table h;
  table = subst (λ cs. IsTable cs table) (sym (set_seen xs c (Some k))) (rows.set-same (Some (cursor_of k)) (cursors_of xs) c table (ap entry_on at) (λ x e. ap entry_of (some-same x None (sym e ∙ free))) h.table);
}

pub closed_same : (xs : List (Option Cursor)) (c : ℕ) (before : List (Option spec.Cursor)) (table : List Row) → cursors_of xs ≡ change_at c (put_on start) before → IsDesk (cursors_of xs) table
    → IsDesk (cursors_of (slice_set xs c None)) table
closed_same xs c before table is h = record {
  places = places_after xs c None table h;
  table = subst (λ cs. IsTable cs table) (sym (set_seen xs c None)) (rows.set-same None (cursors_of xs) c table refl (λ x e. ap (λ o. entry_of (flat o)) (sym e) ∙ ap (λ cs. entry_of (flat (slice_get cs c))) is ∙ rows.left_nowhere before c) h.table);
}
