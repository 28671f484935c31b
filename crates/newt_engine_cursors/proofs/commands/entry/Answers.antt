-- The cursor is open or it is not; what is shown is that of the settled world.
use Rattle.std.proofs.Common.{arith, ◌≡◌, ◌∙◌, ◌*◌, ap, refl, sym, ℕ}
use Rattle.std.specs.Prelude.{Result, is_none, slice_get}
use Rattle.std.proofs.lemmas.Result.{err_from_is_err_and}
use Rattle.newt_spec_graph.proofs.Lists.{both-ways}
use Rattle.newt_spec_world.specs.Answer.{current, or_nil}
use Rattle.newt_spec_world.specs.Reply.{Reply}
use Rattle.newt_spec_world.specs.World.{World, flat}
use Rattle.newt_spec_world.specs.declared.command.Command.TheVariants as command
use Rattle.newt_laws_answers.specs.Fetched.{pages_shown}
use Rattle.newt_store_change.specs.declared.fault.StoreFault.{StoreFault}
use Rattle.newt_engine_units.specs.Answers.{Answers}
use Rattle.newt_engine_cursors.specs.Keyed.{seen_cursor}
use Rattle.newt_engine_cursors.specs.Replies.{shown_at, shown_reply}
use Rattle.newt_engine_cursors.specs.World.{world_with}
use Rattle.newt_engine_cursors.specs.declared.show.Shown.{Shown}
use Rattle.newt_engine_cursors.proofs.Answered.{entry-closed, entry-open, entry-pages}
use Rattle.newt_engine_cursors.proofs.Calls.{all-kept, ended-fetches, stays, turns-end, turns-read, unread-query, walks-of}
use Rattle.newt_engine_cursors.proofs.commands.entry.Goals as goal

pub returns-in_default : goal.returns-in_default
returns-in_default g c = stays c.requires.stands c.requires.desk tt (λ t apart. entry-closed _ c.args.cursor (ap is_none (sym c.in_default.ensures)))

pub returns-in_err-show : goal.returns-in_err-show
returns-in_err-show g c =
    let w = world_with g.C.Card.reads c.args.units.now c.args.desk.now (g.H.Host.outside c.args.host.now) in
    walks-of (turns-end (λ (r : Result Shown StoreFault) (w v : World). Answers w v (command.Entry c.args.cursor) shown_reply r) c.in_err-show.ensures.reading
    c.requires.desk (all-kept _ _) c.from_residual.result (err_from_is_err_and c.from_residual.result c.from_residual.ensures.1) (λ w v. tt))
    (λ t apart settled d. d)
    (λ t apart settled un. (λ u. let e = ap (λ (k : ℕ). 512 * k) (entry-pages w c.args.cursor (ap is_none (sym c.in-Some.ensures)) settled u) in
    let is = ap (λ (r : Reply). 512 * pages_shown r u) (ap (or_nil (current w)) c.in-Some.ensures) in
    let more = (c.in_err-show.ensures.fetches t apart (λ e. absurd (both-ways e)) (unread-query (flat (slice_get c.args.desk.now c.args.cursor)) (seen_cursor (c.in-Some.query, c.in-Some.place)) c.in-Some.ensures un)) u in
    omega (arith, e, is, more)))
    (λ un. ended-fetches shown_reply _ _ c.from_residual.result (err_from_is_err_and c.from_residual.result c.from_residual.ensures.1))

pub returns : goal.returns
returns g c =
    let w = world_with g.C.Card.reads c.args.units.now c.args.desk.now (g.H.Host.outside c.args.host.now) in
    walks-of (turns-read {becomes = λ w v. v ≡ w} c.in_ok-show.ensures.reading.read c.in_ok-show.ensures.reading.no_fault c.requires.desk tt (λ t apart. refl))
    (λ t apart settled same. entry-open w _ c.args.cursor (shown_reply c.in_ok-show.field-0) (ap is_none (sym c.in-Some.ensures)) (same ∙ sym settled)
    (c.in_ok-show.ensures.shown t apart (λ e. absurd (both-ways e)) ∙ ap (or_nil (current w)) c.in-Some.ensures ∙ ap (λ (x : World). shown_at x c.args.cursor) (sym settled)))
    (λ t apart settled un. (λ u. let e = ap (λ (k : ℕ). 512 * k) (entry-pages w c.args.cursor (ap is_none (sym c.in-Some.ensures)) settled u) in
    let is = ap (λ (r : Reply). 512 * pages_shown r u) (ap (or_nil (current w)) c.in-Some.ensures) in
    let more = (c.in_ok-show.ensures.fetches t apart (λ e. absurd (both-ways e)) (unread-query (flat (slice_get c.args.desk.now c.args.cursor)) (seen_cursor (c.in-Some.query, c.in-Some.place)) c.in-Some.ensures un)) u in
    omega (arith, e, is, more)))
    (λ un. c.in_ok-show.ensures.pages (unread-query (flat (slice_get c.args.desk.now c.args.cursor)) (seen_cursor (c.in-Some.query, c.in-Some.place)) c.in-Some.ensures un))
