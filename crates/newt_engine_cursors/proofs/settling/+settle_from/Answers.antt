-- The key of the place is read, those after it take theirs, and then it does.
use Rattle.std.proofs.Common.{arith, ◌≡◌, ◌∙◌, ap, sym, subst, ◌+◌, ◌≤◌, length, List, Option, Some}
use Rattle.std.specs.Prelude.{option_and_then, slice_get}
use Rattle.newt_host.proofs.Outside.{NoFault-append, NoFault-refl}
use Rattle.newt_spec_query.specs.Cursor.{Cursor}
use Rattle.newt_spec_world.specs.World.{World, change_at, flat}
use Rattle.newt_laws_reach.specs.Reach.{settle_where}
use Rattle.newt_laws_world.specs.Cursors.{with_cursors}
use Rattle.newt_laws_world.specs.Settled.{MountedApart}
use Rattle.newt_engine_units.specs.Stands.{world_of}
use Rattle.newt_engine_hits.proofs.Reading.{not-read, read-then}
use Rattle.newt_engine_cursors.specs.Fits.{DeskFits}
use Rattle.newt_engine_cursors.specs.Keyed.{change_from, given, key_where}
use Rattle.newt_engine_cursors.specs.Reached.{seen_reach}
use Rattle.newt_engine_cursors.proofs.Cursors.{before-change, change-one, from-after, from-next, given-fits}
use Rattle.newt_engine_cursors.proofs.Reaches.{given-where}
use Rattle.newt_engine_cursors.proofs.settling.+settle_from.Goals as goal

pub returns-then-from-ge-PLACES-clause-settles : goal.returns-then-from-ge-PLACES-clause-settles
returns-then-from-ge-PLACES-clause-settles g t c = record {
  read = not-read c.requires.stands;
  desk = c.requires.desk;
  settled = λ told apart.
      let base = world_of g.C.Card.reads c.args.units.now (g.H.Host.outside c.args.host.now) in
      let test = c.if-from-ge-PLACES.true in
      let places = c.requires.desk.places in
      let none : length c.args.desk.now ≤ c.args.from = omega (arith, test, places) in
      sym (ap (λ (ks : List (Option Cursor)). with_cursors ks base) (from-after c.args.from (settle_where (seen_reach c.args.reach.now) base) c.args.desk.now none));
  cause = tt;
  failed = tt;
  kept = tt;
  no_fault = NoFault-refl _;
}

pub returns-clause-settles : goal.returns-clause-settles
returns-clause-settles g t c =
    let key = c.in_ok-key in
    let s = c.in_ok-settle_from.ensures.settles in
    let here : flat (slice_get c.settle_from.new.desk c.args.from) ≡ flat (slice_get c.args.desk.now c.args.from) = ap flat (c.in_ok-settle_from.ensures.before c.args.from (omega arith)) in
    record {
      read = read-then key.ensures.reading.read s.read;
      desk = subst DeskFits (sym c.take_key.ensures) (given-fits key.key c.settle_from.new.desk c.args.from s.desk (λ k e. key.ensures.key k (sym here ∙ e)));
      settled = λ told apart.
          let base = world_of g.C.Card.reads c.args.units.now (g.H.Host.outside c.args.host.now) in
          let mid = world_of g.C.Card.reads c.key_if_reached.new.units (g.H.Host.outside c.key_if_reached.new.host) in
          let r = seen_reach c.args.reach.now in
          let same = key.ensures.reading.read.world told in
          let after : c.settle_from.new.desk ≡ change_from (c.args.from + 1) (settle_where r base) c.args.desk.now =
          ap (λ (w : World). w.cursors) (s.settled told (subst MountedApart (sym same) apart)) ∙ ap (λ (w : World). change_from (c.args.from + 1) (settle_where r w) c.args.desk.now) same in
          let gives : (k : Cursor) → flat (slice_get c.settle_from.new.desk c.args.from) ≡ Some k → given key.key k ≡ settle_where r base k = λ k e.
          given-where r base k key.key (key.ensures.found told apart ∙ ap (option_and_then (key_where r base)) (sym here ∙ e)) in
          ap (with_cursors c.take_key.new.desk) (s.read.world told ∙ same)
          ∙ ap (λ (ks : List (Option Cursor)). with_cursors ks base) (c.take_key.ensures
          ∙ change-one (given key.key) (settle_where r base) c.settle_from.new.desk c.args.from gives
          ∙ ap (change_at c.args.from (settle_where r base)) after
          ∙ from-next c.args.from (settle_where r base) c.args.desk.now);
      cause = tt;
      failed = tt;
      kept = tt;
      no_fault = NoFault-append key.ensures.reading.no_fault s.no_fault;
    }

pub returns-clause-before : goal.returns-clause-before
returns-clause-before g t c n less =
    ap (λ (ks : List (Option Cursor)). slice_get ks n) c.take_key.ensures ∙ before-change (given c.in_ok-key.key) c.settle_from.new.desk c.args.from n less
    ∙ c.in_ok-settle_from.ensures.before n (omega (arith, less))
