-- The cursor stands on no entry any more, and its bit is taken from the row of the one that it leaves.
use Rattle.std.proofs.Common.{arith, ◌≡◌, ◌<◌, ◌-◌, ◌^◌, ap, sym, ◌∙◌, subst, ℕ, length, List, Option, option_map, slice_set}
use Rattle.newt_spec_query.specs.Cursor.{start}
use Rattle.newt_cursor.specs.declared.desk.Cursor.{Cursor}
use Rattle.newt_cursor.specs.declared.table.Row.{Row}
use Rattle.newt_cursor.specs.Desk.{put_on}
use Rattle.newt_cursor.specs.Seen.{cursor_of, cursors_of}
use Rattle.newt_cursor.specs.Table.{IsDesk, entry_of}
use Rattle.newt_cursor.proofs.Seats.{left_held, left_room, left_row, left_none}
use Rattle.newt_cursor.proofs.desk.Desk.leave.Goals as goal

pub overflow_sub-row : goal.overflow_sub-row
overflow_sub-row c =
    let t = c.if-at-len.true in
    let l = c.len.ensures in
    let lt : c.from-at.result < length c.self.inside.cursors.items = omega (arith, t, l) in
    let k = left_held c.in-Some.entry.0 c.in-Some.entry.1 c.in-Some.entry.2 c.self.inside.cursors.items c.from-at.result c.put_at.new.cursor _ _ c.self.inside.rows.items lt
    (c.put_at.ensures ∙ ap (λ (o : Option Cursor). option_map (put_on start) (option_map cursor_of o)) c.index_mut.ensures.value)
    (c.in-Some.ensures ∙ ap (λ (o : Option Cursor). entry_of (option_map cursor_of o)) c.index.ensures) c.self.invariant in
    let bit : c.bit_of.result ≡ 2 ^ c.from-at.result = c.bit_of.ensures ∙ ap (λ (n : ℕ). 2 ^ n) (sym c.from-at.ensures) in
    let row = c.cursors_on-standing.ensures in
    omega (arith, k, bit, row)

pub set_row-requires : goal.set_row-requires
set_row-requires c some =
    let t = c.if-at-len.true in
    let l = c.len.ensures in
    let lt : c.from-at.result < length c.self.inside.cursors.items = omega (arith, t, l) in
    let bit : c.bit_of.result ≡ 2 ^ c.from-at.result = c.bit_of.ensures ∙ ap (λ (n : ℕ). 2 ^ n) (sym c.from-at.ensures) in
    left_room c.in-Some.entry.0 c.in-Some.entry.1 c.in-Some.entry.2 c.self.inside.cursors.items c.from-at.result c.put_at.new.cursor _ _ c.self.inside.rows.items lt
    (c.put_at.ensures ∙ ap (λ (o : Option Cursor). option_map (put_on start) (option_map cursor_of o)) c.index_mut.ensures.value)
    (c.in-Some.ensures ∙ ap (λ (o : Option Cursor). entry_of (option_map cursor_of o)) c.index.ensures) c.self.invariant
    (c.cursors_on-standing.result - c.bit_of.result) (λ i. c.cursors_on-standing.ensures i - bit i) some

pub invariant_of-self : goal.invariant_of-self
invariant_of-self c =
    let t = c.if-at-len.true in
    let l = c.len.ensures in
    let lt : c.from-at.result < length c.self.inside.cursors.items = omega (arith, t, l) in
    let bit : c.bit_of.result ≡ 2 ^ c.from-at.result = c.bit_of.ensures ∙ ap (λ (n : ℕ). 2 ^ n) (sym c.from-at.ensures) in
    subst (λ (rows : List Row). IsDesk (cursors_of (slice_set c.self.inside.cursors.items c.from-at.result c.put_at.new.cursor)) rows) (sym c.set_row.ensures)
    (left_row c.in-Some.entry.0 c.in-Some.entry.1 c.in-Some.entry.2 c.self.inside.cursors.items c.from-at.result c.put_at.new.cursor _ _ c.self.inside.rows.items lt
    (c.put_at.ensures ∙ ap (λ (o : Option Cursor). option_map (put_on start) (option_map cursor_of o)) c.index_mut.ensures.value)
    (c.in-Some.ensures ∙ ap (λ (o : Option Cursor). entry_of (option_map cursor_of o)) c.index.ensures) c.self.invariant
    (c.cursors_on-standing.result - c.bit_of.result) (λ i. c.cursors_on-standing.ensures i - bit i))

pub invariant_of-self-in_default : goal.invariant_of-self-in_default
invariant_of-self-in_default c =
    let t = c.if-at-len.true in
    let l = c.len.ensures in
    let lt : c.from-at.result < length c.self.inside.cursors.items = omega (arith, t, l) in
    left_none c.self.inside.cursors.items c.from-at.result c.put_at.new.cursor _ _ c.self.inside.rows.items lt
    (c.put_at.ensures ∙ ap (λ (o : Option Cursor). option_map (put_on start) (option_map cursor_of o)) c.index_mut.ensures.value)
    (c.in_default.ensures ∙ ap (λ (o : Option Cursor). entry_of (option_map cursor_of o)) c.index.ensures) c.self.invariant
