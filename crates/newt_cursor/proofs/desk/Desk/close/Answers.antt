-- The place that is freed is before all hits.
use Rattle.std.proofs.Common.{rules, ◌≡◌, sym, subst, Option, slice_set}
use Rattle.newt_spec_query.specs.Cursor.{start}
use Rattle.newt_spec_world.specs.World.{change_at}
use Rattle.newt_cursor.specs.declared.desk.Cursor.{Cursor}
use Rattle.newt_cursor.specs.Desk.{put_on}
use Rattle.newt_cursor.specs.Seen.{cursors_of}
use Rattle.newt_cursor.specs.Table.{IsDesk}
use Rattle.newt_cursor.proofs.Places.{set_beyond}
use Rattle.newt_cursor.proofs.Rows.{set_changed}
use Rattle.newt_cursor.proofs.Seats.{closed_same}
use Rattle.newt_cursor.proofs.desk.Desk.close.Goals as goal

pub invariant_of-self : goal.invariant_of-self
invariant_of-self c =
    let left : cursors_of c.self.inside.cursors.items ≡ change_at c.from-then-from-len.result (put_on start) c.args.self.now = search rules in
    subst (λ (o : Option Cursor). IsDesk (cursors_of (slice_set c.self.inside.cursors.items c.from-then-from-len.result o)) c.self.inside.rows.items) (sym c.close_at.ensures)
    (closed_same c.self.inside.cursors.items c.from-then-from-len.result c.args.self.now c.self.inside.rows.items left c.self.invariant)

pub returns-else-from-len : goal.returns-else-from-len
returns-else-from-len c = search (rules, set_beyond, set_changed)
