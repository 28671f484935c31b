-- The entry is read where a cursor stands on it, and each such cursor takes its key.
use Rattle.std.proofs.Common.{arith, ◌≡◌, ◌∙◌, ap, sym, subst, refl, ℕ, true, List, Option}
use Rattle.std.specs.Prelude.{Result, OnOk}
use Rattle.std.proofs.lemmas.Result.{err_from_is_err_and}
use Rattle.newt_host.proofs.Outside.{NoFault-refl}
use Rattle.newt_pagebook.specs.declared.book.Stop.{Stop}
use Rattle.newt_pagebook.specs.declared.book.Stop.TheVariants.{Memory}
use Rattle.newt_spec_query.specs.Cursor.{Cursor}
use Rattle.newt_spec_world.specs.World.{World, flat, mounted_store}
use Rattle.newt_laws_reach.specs.Reach.{on_entry, settle_reached}
use Rattle.newt_laws_world.specs.Cursors.{with_cursors}
use Rattle.newt_laws_world.specs.Settled.{MountedApart}
use Rattle.newt_engine_units.specs.Stands.{Eight, Stands, world_of}
use Rattle.std.specs.Prelude.{slice_get}
use Rattle.newt_engine_cursors.specs.Reached.{IsAtHand}
use Rattle.newt_engine_hits.specs.Present.{has_sig}
use Rattle.newt_engine_hits.proofs.Reading.{asked-read, handed-stop, not-read}
use Rattle.newt_engine_cursors.specs.World.{world_with}
use Rattle.newt_engine_cursors.proofs.Calls.{all-kept, settles-end}
use Rattle.newt_engine_cursors.proofs.Reaches.{no-watchers}
use Rattle.newt_engine_cursors.proofs.settling.settle_entry.Goals as goal

pub returns-then-not-is_watched-clause-settles : goal.returns-then-not-is_watched-clause-settles
returns-then-not-is_watched-clause-settles g c = record {
  read = not-read c.requires.stands;
  desk = c.requires.desk;
  settled = λ t apart. sym (no-watchers c.args.store c.args.soup c.args.uid (world_with g.C.Card.reads c.args.units.now c.args.desk.now (g.H.Host.outside c.args.host.now)) (c.if-not-is_watched.ensures refl));
  cause = tt;
  failed = tt;
  kept = tt;
  no_fault = NoFault-refl _;
}

pub returns-then-not-is_watched-clause-fetches : goal.returns-then-not-is_watched-clause-fetches
returns-then-not-is_watched-clause-fetches g c t u = omega arith

pub returns-then-not-is_watched-clause-unread : goal.returns-then-not-is_watched-clause-unread
returns-then-not-is_watched-clause-unread g c none u = omega arith

pub returns-in_err-entry-clause-settles : goal.returns-in_err-entry-clause-settles
returns-in_err-entry-clause-settles g c =
    settles-end (λ (r : Result (Unit {0}) Stop) (w v : World). OnOk r (v ≡ settle_reached (on_entry c.args.store c.args.soup c.args.uid) w)) (not-read c.requires.stands) (NoFault-refl _) c.in_err-entry.ensures.reading c.requires.desk (all-kept _ _)
    c.from_residual.result (err_from_is_err_and c.from_residual.result c.from_residual.ensures.1) (λ w v. tt)

pub returns-in_err-give_keys-clause-settles : goal.returns-in_err-give_keys-clause-settles
returns-in_err-give_keys-clause-settles g c =
    let r = c.from_residual-in_err-give_keys.result in
    settles-end {S = Unit {0}} {asks = true} (λ (r : Result (Unit {0}) Stop) (w v : World). OnOk r (v ≡ settle_reached (on_entry c.args.store c.args.soup c.args.uid) w)) {stop = Memory}
    c.in_ok-entry.ensures.reading.read c.in_ok-entry.ensures.reading.no_fault
    (record { read = not-read c.in_ok-entry.ensures.reading.read.stand; cause = NoFault-refl _; failed = tt; no_fault = tt; unread = asked-read refl }) c.in_err-give_keys.ensures.desk tt
    r (err_from_is_err_and r c.from_residual-in_err-give_keys.ensures.1) (λ w v. tt)

pub returns-clause-settles : goal.returns-clause-settles
returns-clause-settles g c =
    let read = c.in_ok-entry.ensures.reading in
    record {
      read = read.read;
      desk = c.in_ok-give_keys.ensures.desk;
      settled = λ t apart.
          let p = g.H.Host.outside c.entry_if_asked.new.host in
          let eight2 : Eight (g.H.Host.outside c.entry_if_asked.new.host) = record { eight = g.met.H.Host.eight c.entry_if_asked.new.host; none = g.met.H.Host.none c.entry_if_asked.new.host } in
          let stand2 : Stands g.C.Card.place g.C.Card.stands true c.entry_if_asked.new.units p = subst (λ b. Stands g.C.Card.place g.C.Card.stands b c.entry_if_asked.new.units p) t read.read.stand in
          let same = read.read.world t in
          ap (λ (ks : List (Option Cursor)). with_cursors ks (world_of g.C.Card.reads c.entry_if_asked.new.units p))
          (c.in_ok-give_keys.ensures.keys p eight2 stand2 (subst MountedApart (sym same) apart)
          (subst (λ (v : World). (n : ℕ) → IsAtHand v c.args.store c.args.soup c.args.uid c.in_ok-entry.entry (flat (slice_get c.args.desk.now n))) (sym same) (c.in_ok-entry.ensures.entry t)))
          ∙ ap (λ (v : World). settle_reached (on_entry c.args.store c.args.soup c.args.uid) (with_cursors c.args.desk.now v)) same;
      cause = tt;
      failed = tt;
      kept = tt;
      no_fault = read.no_fault;
    }

pub returns-in_err-entry-clause-own : goal.returns-in_err-entry-clause-own
returns-in_err-entry-clause-own g c t =
    let w = world_of g.C.Card.reads c.args.units.now (g.H.Host.outside c.args.host.now) in
    handed-stop (λ u. has_sig c.args.store (mounted_store w u) ≡ true) _ (c.in_err-entry.ensures.own t) c.from_residual.result (err_from_is_err_and c.from_residual.result c.from_residual.ensures.1)

pub returns-in_err-give_keys-clause-own : goal.returns-in_err-give_keys-clause-own
returns-in_err-give_keys-clause-own g c t =
    let w = world_of g.C.Card.reads c.args.units.now (g.H.Host.outside c.args.host.now) in
    let r = c.from_residual-in_err-give_keys.result in
    handed-stop (λ u. has_sig c.args.store (mounted_store w u) ≡ true) Memory tt r (err_from_is_err_and r c.from_residual-in_err-give_keys.ensures.1)
