-- The cursor stands on the entry, if the place is on one, and its bit is put to the row of it.
use Rattle.std.proofs.Common.{arith, rules, ◌≡◌, ◌<◌, ◌+◌, ◌^◌, ap, sym, ◌∙◌, subst, ℕ, length, List, Option, option_map, None, slice_get, slice_set}
use Rattle.std.proofs.lemmas.List.{get_or-set_same}
use Rattle.newt_spec_world.specs.World.{flat}
use Rattle.newt_cursor.specs.declared.desk.Cursor.{Cursor}
use Rattle.newt_cursor.specs.declared.table.Row.{Row}
use Rattle.newt_cursor.specs.Desk.{put_on}
use Rattle.newt_cursor.specs.Seen.{cursor_of, cursors_of, place_of}
use Rattle.newt_cursor.specs.Table.{IsDesk, entry_of}
use Rattle.newt_cursor.proofs.Seats.{landed_held, landed_room, landed_row, landed_none}
use Rattle.newt_cursor.proofs.desk.Desk.land.Goals as goal

pub overflow_add-row : goal.overflow_add-row
overflow_add-row c =
    let t = c.if-at-len.true in
    let l = c.len.ensures in
    let lt : c.from-at.result < length c.self.inside.cursors.items = omega (arith, t, l) in
    let before : entry_of (flat (slice_get (cursors_of c.self.inside.cursors.items) c.from-at.result)) ≡ None = search rules in
    let bit : c.bit_of.result ≡ 2 ^ c.from-at.result = c.bit_of.ensures ∙ ap (λ (n : ℕ). 2 ^ n) (sym c.from-at.ensures) in
    let k = landed_held (place_of c.args.place) c.self.inside.cursors.items c.from-at.result c.put_at.new.cursor _ c.self.inside.rows.items lt
    (c.put_at.ensures ∙ ap (λ (o : Option Cursor). option_map (put_on (place_of c.args.place)) (option_map cursor_of o)) c.index_mut.ensures.value) before c.self.invariant
    c.in-Some.entry.0 c.in-Some.entry.1 c.in-Some.entry.2 c.index.result.now (c.index.ensures ∙ get_or-set_same _ _ _ _ lt) c.in-Some.ensures in
    let row = c.cursors_on-standing.ensures in
    omega (arith, k, bit, row)

pub set_row-requires : goal.set_row-requires
set_row-requires c some =
    let t = c.if-at-len.true in
    let l = c.len.ensures in
    let lt : c.from-at.result < length c.self.inside.cursors.items = omega (arith, t, l) in
    let before : entry_of (flat (slice_get (cursors_of c.self.inside.cursors.items) c.from-at.result)) ≡ None = search rules in
    let bit : c.bit_of.result ≡ 2 ^ c.from-at.result = c.bit_of.ensures ∙ ap (λ (n : ℕ). 2 ^ n) (sym c.from-at.ensures) in
    landed_room (place_of c.args.place) c.self.inside.cursors.items c.from-at.result c.put_at.new.cursor _ c.self.inside.rows.items lt
    (c.put_at.ensures ∙ ap (λ (o : Option Cursor). option_map (put_on (place_of c.args.place)) (option_map cursor_of o)) c.index_mut.ensures.value) before c.self.invariant
    c.in-Some.entry.0 c.in-Some.entry.1 c.in-Some.entry.2 c.index.result.now (c.index.ensures ∙ get_or-set_same _ _ _ _ lt) c.in-Some.ensures
    (c.cursors_on-standing.result + c.bit_of.result) (λ i. c.cursors_on-standing.ensures i + bit i) some

pub invariant_of-self : goal.invariant_of-self
invariant_of-self c =
    let t = c.if-at-len.true in
    let l = c.len.ensures in
    let lt : c.from-at.result < length c.self.inside.cursors.items = omega (arith, t, l) in
    let before : entry_of (flat (slice_get (cursors_of c.self.inside.cursors.items) c.from-at.result)) ≡ None = search rules in
    let bit : c.bit_of.result ≡ 2 ^ c.from-at.result = c.bit_of.ensures ∙ ap (λ (n : ℕ). 2 ^ n) (sym c.from-at.ensures) in
    subst (λ (rows : List Row). IsDesk (cursors_of (slice_set c.self.inside.cursors.items c.from-at.result c.put_at.new.cursor)) rows) (sym c.set_row.ensures)
    (landed_row (place_of c.args.place) c.self.inside.cursors.items c.from-at.result c.put_at.new.cursor _ c.self.inside.rows.items lt
    (c.put_at.ensures ∙ ap (λ (o : Option Cursor). option_map (put_on (place_of c.args.place)) (option_map cursor_of o)) c.index_mut.ensures.value) before c.self.invariant
    c.in-Some.entry.0 c.in-Some.entry.1 c.in-Some.entry.2 c.index.result.now (c.index.ensures ∙ get_or-set_same _ _ _ _ lt) c.in-Some.ensures
    (c.cursors_on-standing.result + c.bit_of.result) (λ i. c.cursors_on-standing.ensures i + bit i))

pub invariant_of-self-in_default : goal.invariant_of-self-in_default
invariant_of-self-in_default c =
    let t = c.if-at-len.true in
    let l = c.len.ensures in
    let lt : c.from-at.result < length c.self.inside.cursors.items = omega (arith, t, l) in
    let before : entry_of (flat (slice_get (cursors_of c.self.inside.cursors.items) c.from-at.result)) ≡ None = search rules in
    landed_none (place_of c.args.place) c.self.inside.cursors.items c.from-at.result c.put_at.new.cursor _ c.self.inside.rows.items lt
    (c.put_at.ensures ∙ ap (λ (o : Option Cursor). option_map (put_on (place_of c.args.place)) (option_map cursor_of o)) c.index_mut.ensures.value) before c.self.invariant
    c.index.result.now (c.index.ensures ∙ get_or-set_same _ _ _ _ lt) c.in_default.ensures
