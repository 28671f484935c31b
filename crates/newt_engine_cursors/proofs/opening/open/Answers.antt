-- The first hit is found, and a cursor is opened there where a number is free.
use Rattle.std.proofs.Common.{◌∙◌, refl, ap, sym, subst, ℕ, List, Option, Some, Err}
use Rattle.std.specs.Prelude.{Result, slice_set}
use Rattle.std.proofs.lemmas.Result.{err_from_is_err_and}
use Rattle.newt_cursor.specs.Seen.{place_of, query_of}
use Rattle.newt_laws_world.specs.Cursors.{with_cursors}
use Rattle.newt_spec_query.specs.Cursor.{Cursor, Place}
use Rattle.newt_spec_query.specs.Cursor.{first_place}
use Rattle.newt_spec_world.specs.World.{World, hits_of}
use Rattle.newt_store_change.specs.declared.fault.StoreFault.{StoreFault}
use Rattle.newt_engine_units.specs.Stands.{world_of}
use Rattle.newt_engine_cursors.specs.Fits.{DeskFits}
use Rattle.newt_engine_cursors.specs.Opening.{Opens}
use Rattle.newt_engine_cursors.specs.World.{world_with}
use Rattle.newt_engine_cursors.proofs.Calls.{all-kept, turns-end}
use Rattle.newt_engine_cursors.proofs.Cursors.{opens-at, set-fits}
use Rattle.newt_engine_cursors.proofs.opening.open.Goals as goal

pub returns-in_err-first-clause-turns : goal.returns-in_err-first-clause-turns
returns-in_err-first-clause-turns g c =
    turns-end (λ (r : Result ℕ StoreFault) (w v : World). Opens w v (query_of c.args.query) r) c.in_err-first.ensures.reading c.requires.desk (all-kept _ _)
    c.from_residual.result (err_from_is_err_and c.from_residual.result c.from_residual.ensures.1) (λ w v. tt)

pub returns-in-Ok-clause-turns : goal.returns-in-Ok-clause-turns
returns-in-Ok-clause-turns g c =
    let read = c.in_ok-first.ensures.reading in
    let made = c.in-Ok.ensures.ok in
    let k : Cursor = record { query = query_of c.args.query; place = place_of c.in_ok-first.first } in
    record {
      read = read.read;
      desk = subst DeskFits (sym made) (set-fits c.args.desk.now c.in-Ok.cursor (Some k) c.requires.desk c.in_ok-first.ensures.fits);
      turned = λ t apart.
          let w = world_with g.C.Card.reads c.args.units.now c.args.desk.now (g.H.Host.outside c.args.host.now) in (
            c.in-Ok.ensures.number,
            ap (with_cursors c.open.new.self) (read.read.world t)
                ∙ ap (λ (ks : List (Option Cursor)). with_cursors ks (world_of g.C.Card.reads c.args.units.now (g.H.Host.outside c.args.host.now))) made
                ∙ ap (λ (p : Place). with_cursors (slice_set c.args.desk.now c.in-Ok.cursor (Some (record k { place = p }))) w) (c.in_ok-first.ensures.place t apart)
                ∙ opens-at w (record k { place = first_place (hits_of w (query_of c.args.query)) }) c.in-Ok.cursor c.in-Ok.ensures.number,
          );
      cause = tt;
      failed = tt;
      kept = tt;
      refused = λ no. absurd no;
      no_fault = λ goes. read.no_fault;
    }

pub returns-in-Err-Limit-clause-turns : goal.returns-in-Err-Limit-clause-turns
returns-in-Err-Limit-clause-turns g c =
    let read = c.in_ok-first.ensures.reading in
    let same = c.in-Err-Limit.ensures.err in
    record {
      read = read.read;
      desk = subst DeskFits (sym same) c.requires.desk;
      turned = λ t apart. (
        refl,
        c.in-Err-Limit.ensures.limit.0 (ap Err c.in-Err-Limit.field-0-is),
        ap (with_cursors c.open.new.self) (read.read.world t)
            ∙ ap (λ (ks : List (Option Cursor)). with_cursors ks (world_of g.C.Card.reads c.args.units.now (g.H.Host.outside c.args.host.now))) same,
      );
      cause = tt;
      failed = tt;
      kept = tt;
      refused = λ no. same;
      no_fault = λ goes. read.no_fault;
    }

pub returns-in-Err-Memory-clause-turns : goal.returns-in-Err-Memory-clause-turns
returns-in-Err-Memory-clause-turns g c =
    let read = c.in_ok-first.ensures.reading in
    record { read = read.read; desk = subst DeskFits (sym c.in-Err-Memory.ensures.err) c.requires.desk; turned = λ t apart. tt; cause = read.no_fault; failed = tt; kept = tt; refused = λ no. absurd no; no_fault = λ goes. absurd goes }
