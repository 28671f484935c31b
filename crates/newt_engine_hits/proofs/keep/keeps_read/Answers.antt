-- What was read decides.
use Rattle.std.proofs.Common.{◌∙◌, ap, refl, sym, subst, ◌&&◌, ℕ, Option, true}
use Rattle.std.proofs.lemmas.Result.{err_from_is_err_and}
use Rattle.newt_host.proofs.Outside.{NoFault-refl}
use Rattle.newt_cursor.specs.Seen.{query_of}
use Rattle.newt_query.specs.Filter.{in_range}
use Rattle.newt_spec_store.specs.Store.{TagTable}
use Rattle.newt_spec_query.specs.Hits.{passes}
use Rattle.newt_spec_world.specs.World.{World}
use Rattle.newt_laws_answers.specs.There.{OnUnit}
use Rattle.newt_store_change.specs.Entries.{entry_said, plain_entry}
use Rattle.newt_engine_units.specs.Stands.{Stands, Eight}
use Rattle.newt_index.specs.Spots.{spot_hit}
use Rattle.newt_engine_hits.proofs.Keeping.{there-kept, gone-not-kept}
use Rattle.newt_engine_hits.proofs.Reading.{asked-read, end-memory, end-read, is-read, not-read}
use Rattle.newt_engine_hits.proofs.keep.keeps_read.Goals as goal

pub returns-in_ok-is_kept-in-Some-clause-kept : goal.returns-in_ok-is_kept-in-Some-clause-kept
returns-in_ok-is_kept-in-Some-clause-kept g c t blocks s on =
    let p = g.H.Host.outside c.entry_on.new.host in
    let eight2 : Eight (g.H.Host.outside c.entry_on.new.host) = record { eight = g.met.H.Host.eight c.entry_on.new.host; none = g.met.H.Host.none c.entry_on.new.host } in
    let stand2 : Stands g.C.Card.place g.C.Card.stands true c.entry_on.new.self p = subst (λ b. Stands g.C.Card.place g.C.Card.stands b c.entry_on.new.self p) t c.in_ok-entry.ensures.looks.stand in
    let on2 = subst (λ (v : World). OnUnit v c.args.unit blocks s) (sym (c.in_ok-entry.ensures.looks.world t)) on in
    there-kept (query_of c.args.query.now) s (spot_hit c.args.spot.now) (plain_entry c.in-Some.entry) c.in_ok-is_kept-in-Some.field-0
    (sym (ap entry_said c.in-Some.is) ∙ c.in_ok-entry.ensures.read t blocks s on)
    (c.in_ok-is_kept-in-Some.ensures
    ∙ ap (λ (table : Option TagTable). in_range c.args.query.now.spec c.args.spot.now.key && passes c.args.query.now.spec table c.in-Some.entry.graph) (c.table_on-table.ensures p eight2 stand2 blocks s on2))

pub returns-in-None-clause-kept : goal.returns-in-None-clause-kept
returns-in-None-clause-kept g c t blocks s on =
    gone-not-kept (query_of c.args.query.now) s (spot_hit c.args.spot.now) (sym (ap entry_said c.in-None.is) ∙ c.in_ok-entry.ensures.read t blocks s on)

pub returns-in_err-entry-clause-reading : goal.returns-in_err-entry-clause-reading
returns-in_err-entry-clause-reading g c =
    let r = c.from_residual.result in
    end-read {S = ℕ} (not-read c.requires.stands) (NoFault-refl _) (asked-read refl)
    (record { read = c.in_err-entry.ensures.looks; cause = c.in_err-entry.ensures.cause; failed = c.in_err-entry.ensures.failed; no_fault = tt; unread = asked-read refl })
    r (err_from_is_err_and r c.from_residual.ensures.1)

pub returns-in_err-is_kept-in-Some-clause-reading : goal.returns-in_err-is_kept-in-Some-clause-reading
returns-in_err-is_kept-in-Some-clause-reading g c =
    let r = c.from_residual-in_err-is_kept-in-Some.result in
    end-memory c.in_ok-entry.ensures.looks c.in_ok-entry.ensures.no_fault (asked-read refl) r (err_from_is_err_and r c.from_residual-in_err-is_kept-in-Some.ensures.1)

pub returns-in_ok-is_kept-in-Some-clause-reading : goal.returns-in_ok-is_kept-in-Some-clause-reading
returns-in_ok-is_kept-in-Some-clause-reading g c = is-read c.in_ok-entry.ensures.looks c.in_ok-entry.ensures.no_fault (asked-read refl)

pub returns-in-None-clause-reading : goal.returns-in-None-clause-reading
returns-in-None-clause-reading g c = is-read c.in_ok-entry.ensures.looks c.in_ok-entry.ensures.no_fault (asked-read refl)
