-- The cursor that is opened is before all hits.
use Rattle.std.proofs.Common.{rules, ◌≡◌, refl, sym, subst, Option, Some, None, slice_get, slice_set}
use Rattle.newt_cursor.specs.declared.desk.Cursor.{Cursor}
use Rattle.newt_cursor.specs.Seen.{cursors_of}
use Rattle.newt_cursor.specs.Table.{IsDesk}
use Rattle.newt_cursor.proofs.Places.{set_seen}
use Rattle.newt_cursor.proofs.Rows.{seated_nowhere}
use Rattle.newt_cursor.proofs.Seats.{seated_same}
use Rattle.newt_cursor.proofs.desk.Desk.seat.Goals as goal

pub invariant_of-self : goal.invariant_of-self
invariant_of-self c =
    let free : slice_get (cursors_of c.self.inside.cursors.items) c.from.result ≡ Some None = search rules in
    subst (λ (o : Option Cursor). IsDesk (cursors_of (slice_set c.self.inside.cursors.items c.from.result o)) c.self.inside.rows.items) (sym c.open_at.ensures)
    (seated_same c.self.inside.cursors.items c.from.result _ c.self.inside.rows.items free refl c.self.invariant)

pub land-requires : goal.land-requires
land-requires c = search (rules, set_seen, seated_nowhere)
