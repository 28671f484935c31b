-- The place says the side.
use Rattle.std.proofs.Common.{◌∙◌, ap, sym, false, option_map}
use Rattle.std.specs.Prelude.{slice_get, is_some}
use Rattle.newt_cursor.specs.Seen.{place_of}
use Rattle.newt_laws_world.specs.Cursors.{with_cursors}
use Rattle.newt_spec_query.specs.Cursor.{Cursor}
use Rattle.newt_spec_world.specs.World.{flat}
use Rattle.newt_engine_cursors.specs.Replies.{side_reply}
use Rattle.newt_engine_cursors.proofs.Answered.{open-alike, which-closed, which-open}
use Rattle.newt_engine_cursors.proofs.commands.which.Goals as goal

pub returns-in-None-clause-answered : goal.returns-in-None-clause-answered
returns-in-None-clause-answered c w settled =
    which-closed (with_cursors c.args.desk.now w) c.args.cursor (open-alike (λ p. place_of p.now) (λ (k : Cursor). k.place) c.place.result (flat (slice_get c.args.desk.now c.args.cursor)) false c.place.ensures (ap is_some c.in-None.is))

pub returns-in-Some-clause-answered : goal.returns-in-Some-clause-answered
returns-in-Some-clause-answered c w settled =
    which-open (with_cursors c.args.desk.now w) (with_cursors c.args.desk.now w) c.args.cursor (place_of c.in-Some.place.now) (side_reply c.side_of.result)
    (ap (option_map (λ p. place_of p.now)) (sym c.in-Some.is) ∙ c.place.ensures)
    (sym settled) c.side_of.ensures
