-- The place fits, and what is shown is what the cursor shows there.
use Rattle.std.proofs.Common.{arith, ◌≡◌, ◌∙◌, ◌*◌, subst, sym, ap, true, List, Option}
use Rattle.std.specs.Prelude.{Result, IfOk, slice_get}
use Rattle.std.proofs.lemmas.Result.{err_from_is_err_and}
use Rattle.newt_host.proofs.Outside.{NoFault-refl}
use Rattle.newt_pagebook.specs.declared.book.Stop.{Stop}
use Rattle.newt_cursor.specs.Seen.{place_of}
use Rattle.newt_cursor.specs.Desk.{put_on}
use Rattle.newt_spec_graph.proofs.Lists.{none-some}
use Rattle.newt_spec_query.specs.Cursor.{Cursor}
use Rattle.newt_spec_world.specs.Answer.{current, or_nil}
use Rattle.newt_spec_world.specs.Reply.{Reply}
use Rattle.newt_spec_world.specs.World.{World, flat, set_place}
use Rattle.newt_laws_answers.specs.Fetched.{pages_shown}
use Rattle.newt_laws_world.specs.Cursors.{with_cursors}
use Rattle.newt_engine_units.specs.Stands.{world_of}
use Rattle.newt_engine_hits.proofs.Reading.{not-read}
use Rattle.newt_engine_cursors.specs.Calls.{Shows}
use Rattle.newt_engine_cursors.specs.Fits.{DeskFits}
use Rattle.newt_engine_cursors.specs.Keyed.{seen_cursor}
use Rattle.newt_engine_cursors.specs.Motions.{ComesAmong}
use Rattle.newt_engine_cursors.specs.Replies.{shown_at}
use Rattle.newt_engine_cursors.specs.declared.show.Shown.{Shown}
use Rattle.newt_engine_cursors.proofs.Calls.{all-kept, settles-end, unread-query}
use Rattle.newt_engine_cursors.proofs.Cursors.{change-fits, change-none, put-there}
use Rattle.newt_engine_cursors.proofs.stepping.come_to.Goals as goal

pub returns-in_default-clause-moved : goal.returns-in_default-clause-moved
returns-in_default-clause-moved g c = record {
  read = not-read c.requires.stands;
  desk = c.requires.desk;
  settled = λ t apart among.
      let base = world_of g.C.Card.reads c.args.units.now (g.H.Host.outside c.args.host.now) in
      let w = with_cursors c.args.desk.now base in
      let same : set_place w c.args.cursor (place_of c.args.place) ≡ w =
      ap (λ (ks : List (Option Cursor)). with_cursors ks base) (change-none (put_on (place_of c.args.place)) c.args.desk.now c.args.cursor (λ k e. absurd (none-some k (c.in_default.ensures ∙ e)))) in
      record { world = sym same; shown = sym (ap (λ (x : World). shown_at x c.args.cursor) same ∙ ap (or_nil (current w)) (sym c.in_default.ensures)) };
  cause = tt;
  failed = tt;
  kept = tt;
  no_fault = NoFault-refl _;
}

pub returns-in_default-clause-fetches : goal.returns-in_default-clause-fetches
returns-in_default-clause-fetches g c t apart among un u = omega arith

pub returns-in_err-shown-clause-moved : goal.returns-in_err-shown-clause-moved
returns-in_err-shown-clause-moved g c =
    settles-end (λ (r : Result Shown Stop) (w v : World). (c.args.is_found ≡ true → ComesAmong w c.args.cursor (place_of c.args.place)) → IfOk r (Shows (set_place w c.args.cursor (place_of c.args.place)) v c.args.cursor))
    (not-read c.requires.stands) (NoFault-refl _) c.in_err-shown.ensures.reading c.requires.desk (all-kept _ _) c.from_residual.result (err_from_is_err_and c.from_residual.result c.from_residual.ensures.1) (λ w v among. tt)

pub returns-in_err-shown-clause-fetches : goal.returns-in_err-shown-clause-fetches
returns-in_err-shown-clause-fetches g c t apart among un u =
    let base = world_of g.C.Card.reads c.args.units.now (g.H.Host.outside c.args.host.now) in
    let k = seen_cursor (c.in-Some.query, c.in-Some.field-0-1) in
    let is = ap (λ (r : Reply). 512 * pages_shown r u) (ap (or_nil (current base)) (put-there (place_of c.args.place) c.args.desk.now c.args.cursor k c.in-Some.ensures)) in
    let more = c.in_err-shown.ensures.fetches t apart (λ found. among found k (sym c.in-Some.ensures)) (unread-query (flat (slice_get c.args.desk.now c.args.cursor)) k c.in-Some.ensures un) u in
    omega (arith, is, more)

pub returns-clause-moved : goal.returns-clause-moved
returns-clause-moved g c =
    let r = c.in_ok-shown.ensures.reading in
    let k = seen_cursor (c.in-Some.query, c.in-Some.field-0-1) in
    record {
      read = r.read;
      desk = subst DeskFits (sym c.step.ensures) (change-fits (put_on (place_of c.args.place)) c.args.desk.now c.args.cursor c.requires.desk (λ k e. c.requires.fits k e));
      settled = λ t apart among.
          let base = world_of g.C.Card.reads c.args.units.now (g.H.Host.outside c.args.host.now) in
          let w = with_cursors c.args.desk.now base in
          let same : with_cursors c.step.new.self base ≡ set_place w c.args.cursor (place_of c.args.place) = ap (λ (ks : List (Option Cursor)). with_cursors ks base) c.step.ensures in
          record {
            world = ap (with_cursors c.step.new.self) (r.read.world t) ∙ same;
            shown = c.in_ok-shown.ensures.shown t apart (λ found. among found k (sym c.in-Some.ensures))
                ∙ sym (ap (or_nil (current base)) (put-there (place_of c.args.place) c.args.desk.now c.args.cursor k c.in-Some.ensures));
          };
      cause = tt;
      failed = tt;
      kept = tt;
      no_fault = r.no_fault;
    }

pub returns-clause-fetches : goal.returns-clause-fetches
returns-clause-fetches g c t apart among un u =
    let base = world_of g.C.Card.reads c.args.units.now (g.H.Host.outside c.args.host.now) in
    let k = seen_cursor (c.in-Some.query, c.in-Some.field-0-1) in
    let is = ap (λ (r : Reply). 512 * pages_shown r u) (ap (or_nil (current base)) (put-there (place_of c.args.place) c.args.desk.now c.args.cursor k c.in-Some.ensures)) in
    let more = c.in_ok-shown.ensures.fetches t apart (λ found. among found k (sym c.in-Some.ensures)) (unread-query (flat (slice_get c.args.desk.now c.args.cursor)) k c.in-Some.ensures un) u in
    omega (arith, is, more)

pub returns-in_default-clause-pages : goal.returns-in_default-clause-pages
returns-in_default-clause-pages g c un u = omega arith

pub returns-clause-pages : goal.returns-clause-pages
returns-clause-pages g c un =
    let k = seen_cursor (c.in-Some.query, c.in-Some.field-0-1) in
    c.in_ok-shown.ensures.pages
    (unread-query (flat (slice_get c.args.desk.now c.args.cursor)) k c.in-Some.ensures un)
