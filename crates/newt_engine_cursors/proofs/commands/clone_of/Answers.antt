-- Another cursor is opened where a number is free.
use Rattle.std.proofs.Common.{◌∙◌, ap, sym, true, false, Err, List, Option}
use Rattle.std.specs.Prelude.{slice_get}
use Rattle.newt_cursor.specs.Seen.{query_of}
use Rattle.newt_laws_world.specs.Cursors.{with_cursors}
use Rattle.newt_spec_query.specs.Cursor.{Cursor}
use Rattle.newt_spec_world.specs.World.{cursor, flat}
use Rattle.newt_spec_world.specs.Reply.{Reply}
use Rattle.newt_base.specs.declared.Refusal.TheVariants.{Limit}
use Rattle.newt_engine_cursors.proofs.Answered.{open-alike, clone-closed, clone-open, clone-full}
use Rattle.newt_engine_cursors.proofs.Unmoved.{cursor-settled, place-settled}
use Rattle.newt_engine_cursors.proofs.commands.clone_of.Goals as goal

pub returns-then-is_none-clause-answered : goal.returns-then-is_none-clause-answered
returns-then-is_none-clause-answered c w settled = clone-closed (with_cursors c.args.desk.now w) c.args.cursor (open-alike (λ q. query_of q.now) (λ (k : Cursor). k.query) c.query.result (flat (slice_get c.args.desk.now c.args.cursor)) false c.query.ensures.query c.if-is_none.ensures)

pub returns-in-Ok-clause-answered : goal.returns-in-Ok-clause-answered
returns-in-Ok-clause-answered c w settled =
    let v = with_cursors c.args.desk.now w in
    let u = with_cursors c.clone_of.new.self w in
    let is = ap (λ (ks : List (Option Cursor)). with_cursors ks w) c.in-Ok.ensures.ok in
    clone-open v u u c.args.cursor c.in-Ok.clone
    (open-alike (λ q. query_of q.now) (λ (k : Cursor). k.query) c.query.result (flat (slice_get c.args.desk.now c.args.cursor)) true c.query.ensures.query c.if-is_none.ensures)
    c.in-Ok.ensures.number is (place-settled v settled c.in-Ok.clone (cursor v c.args.cursor) (cursor-settled v settled c.args.cursor) u is)

pub returns-in-Err-Limit-clause-answered : goal.returns-in-Err-Limit-clause-answered
returns-in-Err-Limit-clause-answered c w settled =
    clone-full (with_cursors c.args.desk.now w) c.args.cursor
    (open-alike (λ q. query_of q.now) (λ (k : Cursor). k.query) c.query.result (flat (slice_get c.args.desk.now c.args.cursor)) true c.query.ensures.query c.if-is_none.ensures)
    (c.in-Err-Limit.ensures.limit.0 (ap Err c.in-Err-Limit.field-0-is))
    ∙ (λ i. (with_cursors (sym c.in-Err-Limit.ensures.err i) w, Reply.refused Limit))

-- ---- a clone that is not made leaves the places

pub returns-in-Err-Limit-clause-kept : goal.returns-in-Err-Limit-clause-kept
returns-in-Err-Limit-clause-kept c = c.in-Err-Limit.ensures.err

pub returns-in-Err-Memory-clause-kept : goal.returns-in-Err-Memory-clause-kept
returns-in-Err-Memory-clause-kept c = c.in-Err-Memory.ensures.err
