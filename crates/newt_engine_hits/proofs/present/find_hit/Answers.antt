-- The entry is read if need be, and its key is looked up.
use Rattle.std.proofs.Common.{◌≡◌, ◌∙◌, ◌*◌, ap, sym, subst, ℕ, true, false, Option, Some}
use Rattle.std.specs.Prelude.{IfSome}
use Rattle.std.proofs.lemmas.Result.{err_from_is_err_and}
use Rattle.newt_query.specs.Filter.{asks_texts}
use Rattle.newt_cursor.specs.Seen.{query_of}
use Rattle.newt_spec_store.specs.Keys.{Key}
use Rattle.newt_spec_world.specs.World.{World}
use Rattle.newt_laws_answers.specs.Faces.{first_showing}
use Rattle.newt_laws_world.specs.Settled.{MountedApart}
use Rattle.newt_engine_units.specs.Faces.{faces_of}
use Rattle.newt_engine_units.specs.Stands.{Stands, Eight, world_of}
use Rattle.newt_engine_hits.specs.Present.{entry_there, identity, keyed_in, present_in}
use Rattle.newt_engine_hits.proofs.Presence.{is-present, is-absent}
use Rattle.newt_engine_hits.proofs.Reading.{is-read, end-memory}
use Rattle.newt_engine_hits.proofs.present.find_hit.Goals as goal

pub returns-in_err-hit-clause-reading : goal.returns-in_err-hit-clause-reading
returns-in_err-hit-clause-reading g c =
    let r = c.from_residual-in_err-hit.result in
    end-memory c.in_ok-entry.ensures.reading.read c.in_ok-entry.ensures.reading.no_fault c.in_ok-entry.ensures.reading.unread r (err_from_is_err_and r c.from_residual-in_err-hit.ensures.1)

pub returns-in-Some-clause-reading : goal.returns-in-Some-clause-reading
returns-in-Some-clause-reading g c = is-read c.in_ok-entry.ensures.reading.read c.in_ok-entry.ensures.reading.no_fault c.in_ok-entry.ensures.reading.unread

pub returns-in-Some-clause-found : goal.returns-in-Some-clause-found
returns-in-Some-clause-found g c t apart =
    let p = g.H.Host.outside c.entry_if_asked.new.host in
    let eight2 : Eight (g.H.Host.outside c.entry_if_asked.new.host) = record { eight = g.met.H.Host.eight c.entry_if_asked.new.host; none = g.met.H.Host.none c.entry_if_asked.new.host } in
    let stand2 : Stands g.C.Card.place g.C.Card.stands true c.entry_if_asked.new.units p = subst (λ b. Stands g.C.Card.place g.C.Card.stands b c.entry_if_asked.new.units p) t c.in_ok-entry.ensures.reading.read.stand in
    let w = world_of g.C.Card.reads c.args.units.now (g.H.Host.outside c.args.host.now) in
    let same = c.in_ok-entry.ensures.reading.read.world t in
    is-present w (query_of c.args.query.now) c.args.store c.args.soup c.args.uid _ _ _ (asks_texts c.args.query.now.spec) (c.in_ok-entry.ensures.entry t) c.in_ok-entry.ensures.none
    (sym c.in-Some.is ∙ c.in_ok-hit.ensures.found p eight2 stand2 (subst MountedApart (sym same) apart)
    (λ asks. c.in_ok-entry.ensures.entry t asks ∙ ap (λ (v : World). entry_there v c.args.store c.args.soup c.args.uid) (sym same))
    ∙ ap (λ (v : World). keyed_in (present_in v (query_of c.args.query.now) (identity c.args.store c.args.soup c.args.uid))) same)

pub returns-in-None-clause-reading : goal.returns-in-None-clause-reading
returns-in-None-clause-reading g c = is-read c.in_ok-entry.ensures.reading.read c.in_ok-entry.ensures.reading.no_fault c.in_ok-entry.ensures.reading.unread

pub returns-in-None-clause-found : goal.returns-in-None-clause-found
returns-in-None-clause-found g c t apart =
    let p = g.H.Host.outside c.entry_if_asked.new.host in
    let eight2 : Eight (g.H.Host.outside c.entry_if_asked.new.host) = record { eight = g.met.H.Host.eight c.entry_if_asked.new.host; none = g.met.H.Host.none c.entry_if_asked.new.host } in
    let stand2 : Stands g.C.Card.place g.C.Card.stands true c.entry_if_asked.new.units p = subst (λ b. Stands g.C.Card.place g.C.Card.stands b c.entry_if_asked.new.units p) t c.in_ok-entry.ensures.reading.read.stand in
    let w = world_of g.C.Card.reads c.args.units.now (g.H.Host.outside c.args.host.now) in
    let same = c.in_ok-entry.ensures.reading.read.world t in
    is-absent w (query_of c.args.query.now) c.args.store c.args.soup c.args.uid
    (sym c.in-None.is ∙ c.in_ok-hit.ensures.found p eight2 stand2 (subst MountedApart (sym same) apart)
    (λ asks. c.in_ok-entry.ensures.entry t asks ∙ ap (λ (v : World). entry_there v c.args.store c.args.soup c.args.uid) (sym same))
    ∙ ap (λ (v : World). keyed_in (present_in v (query_of c.args.query.now) (identity c.args.store c.args.soup c.args.uid))) same)

pub returns-in-Some-clause-unit : goal.returns-in-Some-clause-unit
returns-in-Some-clause-unit g c =
    let faces = faces_of g.C.Card.soups c.entry_if_asked.new.units in
    subst (λ (found : Option (ℕ × Key)).
    IfSome found (λ x. first_showing c.args.store faces ≡ Some x.0))
    c.in-Some.is c.in_ok-hit.ensures.unit
