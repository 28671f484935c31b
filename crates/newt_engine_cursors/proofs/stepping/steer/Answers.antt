-- The cursor is open, its next place is found, and it moves there.
use Rattle.std.proofs.Common.{arith, ◌≡◌, ◌∙◌, ◌*◌, refl, ap, sym, subst, true}
use Rattle.std.specs.Prelude.{Result, is_none, slice_get}
use Rattle.std.proofs.lemmas.Result.{err_from_is_err_and}
use Rattle.newt_cursor.specs.Seen.{place_of}
use Rattle.newt_spec_world.specs.World.{World, flat, set_place}
use Rattle.newt_laws_answers.specs.Fetched.{pages_shown}
use Rattle.newt_laws_world.specs.Cursors.{with_cursors}
use Rattle.newt_laws_world.specs.Settled.{MountedApart}
use Rattle.newt_store_change.specs.declared.fault.StoreFault.{StoreFault}
use Rattle.newt_engine_card.specs.Bounds.{FetchesAtMost}
use Rattle.newt_engine_hits.proofs.Reading.{asked-read, read-more}
use Rattle.newt_engine_cursors.specs.Keyed.{seen_cursor}
use Rattle.newt_engine_cursors.specs.Motions.{ComesAmong, Steers, step_of}
use Rattle.newt_engine_cursors.specs.Replies.{shown_at, shown_reply}
use Rattle.newt_engine_cursors.specs.World.{world_with}
use Rattle.newt_engine_cursors.specs.declared.show.Shown.{Shown}
use Rattle.newt_engine_cursors.proofs.Answering.{steers-there, there-stepped}
use Rattle.newt_engine_cursors.proofs.Coming.{comes-among}
use Rattle.newt_engine_cursors.proofs.Calls.{all-kept, ended-fetches, stays-turn, turns-end, turns-settled, settles-reads, settles-after, unread-query}
use Rattle.newt_engine_cursors.proofs.stepping.steer.Goals as goal

pub returns-in_default-clause-turns : goal.returns-in_default-clause-turns
returns-in_default-clause-turns g c = stays-turn c.requires.stands c.requires.desk tt (λ t apart. (ap is_none (sym c.in_default.ensures), refl, refl))

pub returns-in_default-clause-fetches : goal.returns-in_default-clause-fetches
returns-in_default-clause-fetches g c t apart un u = omega arith

pub returns-in_err-place-clause-turns : goal.returns-in_err-place-clause-turns
returns-in_err-place-clause-turns g c =
    turns-end (λ (r : Result Shown StoreFault) (w v : World). Steers w v c.args.cursor (step_of c.args.motion) r) c.in_err-place.ensures.reading c.requires.desk (all-kept _ _)
    c.from_residual.result (err_from_is_err_and c.from_residual.result c.from_residual.ensures.1) (λ w v. tt)

pub returns-in_err-place-clause-fetches : goal.returns-in_err-place-clause-fetches
returns-in_err-place-clause-fetches g c t apart un =
    (λ u. let z = (c.in_err-place.ensures.reading.unread (unread-query (flat (slice_get c.args.desk.now c.args.cursor)) (seen_cursor (c.in-Some.query, c.in-Some.place)) c.in-Some.ensures un)) u in omega (arith, z))

pub returns-in_err-come_to-clause-turns : goal.returns-in_err-come_to-clause-turns
returns-in_err-come_to-clause-turns g c =
    let r = c.from_residual-in_err-come_to.result in
    let read = c.in_ok-place.ensures.reading in
    turns-end (λ (r : Result Shown StoreFault) (w v : World). Steers w v c.args.cursor (step_of c.args.motion) r)
    (read-more {asks = true} read.read read.no_fault (asked-read refl) (settles-reads c.in_err-come_to.ensures.moved)) c.in_err-come_to.ensures.moved.desk c.in_err-come_to.ensures.moved.kept r (err_from_is_err_and r c.from_residual-in_err-come_to.ensures.1) (λ w v. tt)

pub returns-in_err-come_to-clause-fetches : goal.returns-in_err-come_to-clause-fetches
returns-in_err-come_to-clause-fetches g c t apart un =
    let read = c.in_ok-place.ensures.reading in
    let w = world_with g.C.Card.reads c.args.units.now c.args.desk.now (g.H.Host.outside c.args.host.now) in
    let same : world_with g.C.Card.reads c.target.new.units c.args.desk.now (g.H.Host.outside c.target.new.host) ≡ w = ap (with_cursors c.args.desk.now) (read.read.world t) in
    let k = seen_cursor (c.in-Some.query, c.in-Some.place) in
    (λ u. let x = (read.unread (unread-query (flat (slice_get c.args.desk.now c.args.cursor)) k c.in-Some.ensures un)) u in let y = (subst (λ (x : World). FetchesAtMost (λ u. 512 * pages_shown (shown_at x c.args.cursor) u) (g.H.Host.outside c.target.new.host) (g.H.Host.outside c.come_to.new.host))
    (ap (λ (x : World). set_place x c.args.cursor (place_of c.in_ok-place.place)) same ∙ there-stepped w c.args.cursor (step_of c.args.motion) k (place_of c.in_ok-place.place) c.in-Some.ensures (c.in_ok-place.ensures.place t apart))
    (c.in_err-come_to.ensures.fetches t (subst MountedApart (sym same) apart) (λ is. subst (λ (x : World). ComesAmong x c.args.cursor (place_of c.in_ok-place.place)) (sym same)
    (comes-among w c.args.cursor c.args.motion k (place_of c.in_ok-place.place) c.in-Some.ensures (c.in_ok-place.ensures.place t apart) (sym c.finds-is_found.ensures ∙ is))) un)) u in omega (arith, x, y))

pub returns-clause-turns : goal.returns-clause-turns
returns-clause-turns g c =
    let read = c.in_ok-place.ensures.reading in
    turns-settled (settles-after read.read read.no_fault c.in_ok-come_to.ensures.moved) (λ t apart s.
    steers-there _ _ c.args.cursor (step_of c.args.motion) (seen_cursor (c.in-Some.query, c.in-Some.place)) (place_of c.in_ok-place.place) c.in_ok-come_to.field-0
    c.in-Some.ensures (c.in_ok-place.ensures.place t apart)
    (s (λ is. comes-among (world_with g.C.Card.reads c.args.units.now c.args.desk.now (g.H.Host.outside c.args.host.now)) c.args.cursor c.args.motion (seen_cursor (c.in-Some.query, c.in-Some.place))
    (place_of c.in_ok-place.place) c.in-Some.ensures (c.in_ok-place.ensures.place t apart) (sym c.finds-is_found.ensures ∙ is))))

pub returns-clause-fetches : goal.returns-clause-fetches
returns-clause-fetches g c t apart un =
    let read = c.in_ok-place.ensures.reading in
    let w = world_with g.C.Card.reads c.args.units.now c.args.desk.now (g.H.Host.outside c.args.host.now) in
    let same : world_with g.C.Card.reads c.target.new.units c.args.desk.now (g.H.Host.outside c.target.new.host) ≡ w = ap (with_cursors c.args.desk.now) (read.read.world t) in
    let k = seen_cursor (c.in-Some.query, c.in-Some.place) in
    (λ u. let x = (read.unread (unread-query (flat (slice_get c.args.desk.now c.args.cursor)) k c.in-Some.ensures un)) u in let y = (subst (λ (x : World). FetchesAtMost (λ u. 512 * pages_shown (shown_at x c.args.cursor) u) (g.H.Host.outside c.target.new.host) (g.H.Host.outside c.come_to.new.host))
    (ap (λ (x : World). set_place x c.args.cursor (place_of c.in_ok-place.place)) same ∙ there-stepped w c.args.cursor (step_of c.args.motion) k (place_of c.in_ok-place.place) c.in-Some.ensures (c.in_ok-place.ensures.place t apart))
    (c.in_ok-come_to.ensures.fetches t (subst MountedApart (sym same) apart) (λ is. subst (λ (x : World). ComesAmong x c.args.cursor (place_of c.in_ok-place.place)) (sym same)
    (comes-among w c.args.cursor c.args.motion k (place_of c.in_ok-place.place) c.in-Some.ensures (c.in_ok-place.ensures.place t apart) (sym c.finds-is_found.ensures ∙ is))) un)) u in omega (arith, x, y))

-- ---- what is fetched, by what is shown

pub returns-in_default-clause-pages : goal.returns-in_default-clause-pages
returns-in_default-clause-pages g c un u = omega arith

pub returns-in_err-place-clause-pages : goal.returns-in_err-place-clause-pages
returns-in_err-place-clause-pages g c un =
    let r = c.from_residual.result in
    ended-fetches shown_reply _ _ r (err_from_is_err_and r c.from_residual.ensures.1)

pub returns-in_err-come_to-clause-pages : goal.returns-in_err-come_to-clause-pages
returns-in_err-come_to-clause-pages g c un =
    let r = c.from_residual-in_err-come_to.result in
    ended-fetches shown_reply _ _ r (err_from_is_err_and r c.from_residual-in_err-come_to.ensures.1)

pub returns-clause-pages : goal.returns-clause-pages
returns-clause-pages g c un u =
    let k = seen_cursor (c.in-Some.query, c.in-Some.place) in
    let ks = flat (slice_get c.args.desk.now c.args.cursor) in
    let x = (c.in_ok-place.ensures.reading.unread (unread-query ks k c.in-Some.ensures un)) u in
    let y = (c.in_ok-come_to.ensures.pages un) u in
    omega (arith, x, y)
