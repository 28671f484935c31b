-- The place is freed.
use Rattle.std.proofs.Common.{ap, refl, true, false, List, Option, None}
use Rattle.std.specs.Prelude.{slice_get}
use Rattle.newt_cursor.specs.Seen.{query_of}
use Rattle.newt_laws_world.specs.Cursors.{with_cursors}
use Rattle.newt_spec_query.specs.Cursor.{Cursor}
use Rattle.newt_spec_world.specs.World.{flat}
use Rattle.newt_engine_cursors.proofs.Answered.{open-alike, close-closed, close-open}
use Rattle.newt_engine_cursors.proofs.Unmoved.{place-settled}
use Rattle.newt_engine_cursors.proofs.commands.close.Goals as goal

pub returns-then-is_none-clause-answered : goal.returns-then-is_none-clause-answered
returns-then-is_none-clause-answered c w settled = close-closed (with_cursors c.args.desk.now w) c.args.cursor (open-alike (λ q. query_of q.now) (λ (k : Cursor). k.query) c.query.result (flat (slice_get c.args.desk.now c.args.cursor)) false c.query.ensures.query c.if-is_none.ensures)

pub returns-clause-answered : goal.returns-clause-answered
returns-clause-answered c w settled =
    let v = with_cursors c.args.desk.now w in
    let u = with_cursors c.close.new.self w in
    let is = ap (λ (ks : List (Option Cursor)). with_cursors ks w) c.close.ensures in
    close-open v u u c.args.cursor
    (open-alike (λ q. query_of q.now) (λ (k : Cursor). k.query) c.query.result (flat (slice_get c.args.desk.now c.args.cursor)) true c.query.ensures.query c.if-is_none.ensures)
    is (place-settled v settled c.args.cursor None refl u is)
