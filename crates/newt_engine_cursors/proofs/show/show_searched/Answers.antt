-- The entry, or that it is no longer a hit.
use Rattle.std.proofs.Common.{arith, ◌≡◌, ◌∙◌, ap, subst, refl, true, Option, Some}
use Rattle.std.specs.Prelude.{IfSome}
use Rattle.std.proofs.lemmas.Result.{IfOk-weaker, err_from_is_err_and}
use Rattle.newt_host.specs.Outside.{Outside}
use Rattle.newt_cursor.specs.Seen.{query_of}
use Rattle.newt_index.specs.Spots.{spot_hit}
use Rattle.newt_spec_query.specs.Cursor.{Cursor, on}
use Rattle.newt_spec_world.specs.World.{World}
use Rattle.newt_laws_answers.specs.Faces.{first_showing}
use Rattle.newt_engine_card.specs.Bounds.{FetchesAtMost}
use Rattle.newt_engine_units.specs.Faces.{faces_of}
use Rattle.newt_engine_units.specs.Stands.{world_of}
use Rattle.newt_engine_hits.specs.Present.{IsPresent, entry_there, fetched_there, identity, present_in}
use Rattle.newt_engine_hits.specs.declared.present.Present.{Present}
use Rattle.newt_host.proofs.Outside.{NoFault-refl}
use Rattle.newt_engine_hits.proofs.Reading.{any-reading, asked-read, end-read, is-read, not-read, read-more}
use Rattle.newt_engine_cursors.specs.Calls.{FetchesShown}
use Rattle.newt_engine_cursors.specs.Replies.{hit_reply, shown_place, shown_reply}
use Rattle.newt_engine_cursors.specs.declared.show.Shown.{Shown}
use Rattle.newt_engine_cursors.proofs.Standing.{absent-shown, shown-there}
use Rattle.newt_engine_cursors.proofs.show.show_searched.Goals as goal

pub returns-in-Some-clause-reading : goal.returns-in-Some-clause-reading
returns-in-Some-clause-reading g c =
    read-more {asks = true} c.in_ok-hit.ensures.reading.read c.in_ok-hit.ensures.reading.no_fault (asked-read refl) c.show_hit.ensures.reading

pub returns-in-Some-clause-shown : goal.returns-in-Some-clause-shown
returns-in-Some-clause-shown g c t apart =
    let w = world_of g.C.Card.reads c.args.units.now (g.H.Host.outside c.args.host.now) in
    let q = query_of c.args.query.now in
    let at = spot_hit c.args.spot.now in
    let k : Cursor = record { query = q; place = on at } in
    let there = shown-there w (Some k) q at refl c.in-Some.hit (subst (λ (f : Option Present). IsPresent f (present_in w q (identity at.store at.soup at.uid))) c.in-Some.is (c.in_ok-hit.ensures.found t apart)) in
    let same = c.in_ok-hit.ensures.reading.read.world t in
    IfOk-weaker c.show_hit.result (λ (shown : Shown). shown_reply shown ≡ hit_reply there.present) (λ (shown : Shown). shown_reply shown ≡ shown_place w q (on at))
    (λ shown e. e ∙ there.reply_is)
    (c.show_hit.ensures.shown t there.present there.same (ap (λ (v : World). entry_there v at.store at.soup at.uid) same ∙ there.there))

pub returns-in-Some-clause-fetches : goal.returns-in-Some-clause-fetches
returns-in-Some-clause-fetches g c t apart un =
    let w = world_of g.C.Card.reads c.args.units.now (g.H.Host.outside c.args.host.now) in
    let q = query_of c.args.query.now in
    let at = spot_hit c.args.spot.now in
    let k : Cursor = record { query = q; place = on at } in
    let there = shown-there w (Some k) q at refl c.in-Some.hit (subst (λ (f : Option Present). IsPresent f (present_in w q (identity at.store at.soup at.uid))) c.in-Some.is (c.in_ok-hit.ensures.found t apart)) in
    let same = c.in_ok-hit.ensures.reading.read.world t in
    (λ u. let x = (c.in_ok-hit.ensures.reading.unread un) u in let e = there.pages u in
    let more = (subst (λ (v : World). FetchesAtMost (fetched_there v at.store at.soup at.uid) (g.H.Host.outside c.find_hit.new.host) (g.H.Host.outside c.show_hit.new.host)) same (c.show_hit.ensures.fetches t)) u in
    omega (arith, x, e, more))

pub returns-in-None-clause-reading : goal.returns-in-None-clause-reading
returns-in-None-clause-reading g c = is-read c.in_ok-hit.ensures.reading.read c.in_ok-hit.ensures.reading.no_fault (asked-read refl)

pub returns-in-None-clause-shown : goal.returns-in-None-clause-shown
returns-in-None-clause-shown g c t apart =
    let w = world_of g.C.Card.reads c.args.units.now (g.H.Host.outside c.args.host.now) in
    let q = query_of c.args.query.now in
    let at = spot_hit c.args.spot.now in
    let k : Cursor = record { query = q; place = on at } in
    absent-shown w (Some k) q at refl (subst (λ (f : Option Present). IsPresent f (present_in w q (identity at.store at.soup at.uid))) c.in-None.is (c.in_ok-hit.ensures.found t apart))

pub returns-in-None-clause-fetches : goal.returns-in-None-clause-fetches
returns-in-None-clause-fetches g c t apart un = (λ u. let z = (c.in_ok-hit.ensures.reading.unread un) u in omega (arith, z))

pub returns-in_err-hit-clause-reading : goal.returns-in_err-hit-clause-reading
returns-in_err-hit-clause-reading g c =
    let r = c.from_residual.result in
    end-read (not-read c.requires) (NoFault-refl _) (asked-read refl) (any-reading c.in_err-hit.ensures.reading) r (err_from_is_err_and r c.from_residual.ensures.1)

pub returns-in_err-hit-clause-fetches : goal.returns-in_err-hit-clause-fetches
returns-in_err-hit-clause-fetches g c t apart un = (λ u. let z = (c.in_err-hit.ensures.reading.unread un) u in omega (arith, z))

pub returns-in-Some-clause-pages : goal.returns-in-Some-clause-pages
returns-in-Some-clause-pages g c un =
    let o = g.H.Host.outside in
    let faces = faces_of g.C.Card.soups c.find_hit.new.units in
    let at = subst (λ (found : Option Present).
    IfSome found (λ p. first_showing c.args.spot.now.store faces ≡ Some p.unit))
    c.in-Some.is c.in_ok-hit.ensures.unit in
    let Within : Outside → Shown → Type 0 = λ p shown.
    FetchesShown (shown_reply shown) p (o c.show_hit.new.host) in
    IfOk-weaker c.show_hit.result (Within (o c.find_hit.new.host)) (Within (o c.args.host.now))
    (λ shown more u.
    let x = (c.in_ok-hit.ensures.reading.unread un) u in
    let y = more u in
    omega (arith, x, y)) (c.show_hit.ensures.pages at)

pub returns-in-None-clause-pages : goal.returns-in-None-clause-pages
returns-in-None-clause-pages g c un u =
    let x = (c.in_ok-hit.ensures.reading.unread un) u in omega (arith, x)
