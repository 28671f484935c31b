-- All hits of the query of the cursor are counted.
use Rattle.std.proofs.Common.{arith, ◌≡◌, ◌∙◌, ap, refl, sym, true, false, option_map, ℕ}
use Rattle.std.specs.Prelude.{Result, slice_get, is_some}
use Rattle.std.proofs.lemmas.Result.{err_from_is_err_and}
use Rattle.newt_cursor.specs.Seen.{query_of}
use Rattle.newt_spec_query.specs.Cursor.{Cursor}
use Rattle.newt_spec_world.specs.World.{World, flat}
use Rattle.newt_spec_world.specs.declared.command.Command.TheVariants as command
use Rattle.newt_spec_world.specs.Reply.{Reply}
use Rattle.newt_store_change.specs.declared.fault.StoreFault.{StoreFault}
use Rattle.newt_engine_units.specs.Answers.{Answers}
use Rattle.newt_engine_cursors.specs.World.{world_with}
use Rattle.newt_engine_cursors.proofs.Answered.{open-alike, count-closed, count-open, count-said, unread-open}
use Rattle.newt_engine_cursors.proofs.Calls.{all-kept, ended-fetches, stays, turns-end, turns-read, walks-of}
use Rattle.newt_engine_cursors.proofs.commands.count.Goals as goal

pub returns-in_default : goal.returns-in_default
returns-in_default g c =
    stays c.requires.stands c.requires.desk tt (λ t apart. count-closed _ c.args.cursor
    (open-alike (λ q. query_of q.now) (λ (k : Cursor). k.query) c.query.result (flat (slice_get c.args.desk.now c.args.cursor)) false c.query.ensures.query (ap is_some c.in_default.is)))

pub returns-in_err-count_hits : goal.returns-in_err-count_hits
returns-in_err-count_hits g c =
    walks-of (turns-end (λ (r : Result ℕ StoreFault) (w v : World). Answers w v (command.Count c.args.cursor) (λ n. Reply.number n) r) c.in_err-count_hits.ensures.reading c.requires.desk (all-kept _ _)
    c.from_residual.result (err_from_is_err_and c.from_residual.result c.from_residual.ensures.1) (λ w v. tt))
    (λ t apart settled d. d)
    (λ t apart settled un. (λ u. let z = (c.in_err-count_hits.ensures.reading.unread
    (unread-open (flat (slice_get c.args.desk.now c.args.cursor)) (query_of c.in-Some.query.now) (ap (option_map (λ q. query_of q.now)) (sym c.in-Some.is) ∙ c.query.ensures.query) un)) u in omega (arith, z)))
    (λ un. ended-fetches (λ (n : ℕ). Reply.number n) _ _ c.from_residual.result (err_from_is_err_and c.from_residual.result c.from_residual.ensures.1))

pub returns : goal.returns
returns g c =
    let w = world_with g.C.Card.reads c.args.units.now c.args.desk.now (g.H.Host.outside c.args.host.now) in
    let is = ap (option_map (λ q. query_of q.now)) (sym c.in-Some.is) ∙ c.query.ensures.query in
    walks-of (turns-read {becomes = λ w v. v ≡ w} c.in_ok-count_hits.ensures.reading.read c.in_ok-count_hits.ensures.reading.no_fault c.requires.desk tt (λ t apart. refl))
    (λ t apart settled same. count-open w _ c.args.cursor (Reply.number c.in_ok-count_hits.field-0)
    (open-alike (λ q. query_of q.now) (λ (k : Cursor). k.query) c.query.result (flat (slice_get c.args.desk.now c.args.cursor)) true c.query.ensures.query (ap is_some c.in-Some.is))
    (same ∙ sym settled)
    (count-said w (flat (slice_get c.args.desk.now c.args.cursor)) (query_of c.in-Some.query.now) c.in_ok-count_hits.field-0 is (c.in_ok-count_hits.ensures.count t apart)))
    (λ t apart settled un. (λ u. let z = (c.in_ok-count_hits.ensures.reading.unread (unread-open (flat (slice_get c.args.desk.now c.args.cursor)) (query_of c.in-Some.query.now) is un)) u in omega (arith, z)))
    (λ un. (λ u. let z = (c.in_ok-count_hits.ensures.reading.unread (unread-open (flat (slice_get c.args.desk.now c.args.cursor)) (query_of c.in-Some.query.now) is un)) u in omega (arith, z)))
