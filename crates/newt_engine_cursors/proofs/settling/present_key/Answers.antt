-- The key of the hit.
use Rattle.std.proofs.Common.{arith, ◌≡◌, ◌∙◌, ap, refl, sym, subst, option_map, ℕ, true}
use Rattle.std.specs.Prelude.{IfErr}
use Rattle.newt_cursor.specs.Seen.{query_of}
use Rattle.newt_spec_graph.proofs.Lists.{some-same}
use Rattle.newt_spec_query.specs.Hits.{Hit, Query}
use Rattle.newt_spec_world.specs.World.{mounted_store}
use Rattle.newt_engine_units.specs.Breaks.{AtStop}
use Rattle.newt_engine_hits.specs.Present.{has_sig}
use Rattle.newt_engine_units.specs.Stands.{Stands, Eight, world_of}
use Rattle.newt_engine_units.proofs.Known.{Laws}
use Rattle.newt_index.specs.Spots.{spot_hit}
use Rattle.newt_engine_hits.specs.declared.present.Present.{Present}
use Rattle.newt_engine_cursors.proofs.Standing.{key-present, present-keys, stands-query}
use Rattle.std.proofs.lemmas.Result.{err_from_is_err_and}
use Rattle.newt_host.proofs.Outside.{NoFault-refl}
use Rattle.newt_engine_hits.proofs.Reading.{any-reading, asked-read, end-read, handed-stop, is-read, not-read}
use Rattle.newt_engine_hits.proofs.Stores.{stores-formed}
use Rattle.newt_engine_cursors.proofs.settling.present_key.Goals as goal

pub returns-in-Some-2-clause-found : goal.returns-in-Some-2-clause-found
returns-in-Some-2-clause-found g c t apart =
    let laws : Laws g.C.Card.reads g.C.Card.place g.C.Card.soups g.C.Card.stands = record { formed = g.met.C.Card.formed; plain = g.met.C.Card.plain; durable = g.met.C.Card.durable; banks = g.met.C.Card.banks; kept = g.met.C.Card.kept } in
    let o = g.H.Host.outside c.args.host.now in
    let eight : Eight (g.H.Host.outside c.args.host.now) = record { eight = g.met.H.Host.eight c.args.host.now; none = g.met.H.Host.none c.args.host.now } in
    let stand : Stands g.C.Card.place g.C.Card.stands true c.args.units.now o = subst (λ b. Stands g.C.Card.place g.C.Card.stands b c.args.units.now o) t c.requires in
    let w = world_of g.C.Card.reads c.args.units.now o in
    ap (option_map (λ (p : Present). p.key)) (sym c.in-Some-2.is) ∙ present-keys _ _ (c.in_ok-hit.ensures.found t apart)
    ∙ key-present w apart (stores-formed laws c.args.units.now o eight stand) _ (query_of c.in-Some.query.now) (spot_hit c.in-Some.spot.now) c.in-Some.ensures _ refl

pub returns-in-None-clause-found : goal.returns-in-None-clause-found
returns-in-None-clause-found g c t apart =
    let laws : Laws g.C.Card.reads g.C.Card.place g.C.Card.soups g.C.Card.stands = record { formed = g.met.C.Card.formed; plain = g.met.C.Card.plain; durable = g.met.C.Card.durable; banks = g.met.C.Card.banks; kept = g.met.C.Card.kept } in
    let o = g.H.Host.outside c.args.host.now in
    let eight : Eight (g.H.Host.outside c.args.host.now) = record { eight = g.met.H.Host.eight c.args.host.now; none = g.met.H.Host.none c.args.host.now } in
    let stand : Stands g.C.Card.place g.C.Card.stands true c.args.units.now o = subst (λ b. Stands g.C.Card.place g.C.Card.stands b c.args.units.now o) t c.requires in
    let w = world_of g.C.Card.reads c.args.units.now o in
    ap (option_map (λ (p : Present). p.key)) (sym c.in-None.is) ∙ present-keys _ _ (c.in_ok-hit.ensures.found t apart)
    ∙ key-present w apart (stores-formed laws c.args.units.now o eight stand) _ (query_of c.in-Some.query.now) (spot_hit c.in-Some.spot.now) c.in-Some.ensures _ refl

pub returns-in_err-hit-clause-reading : goal.returns-in_err-hit-clause-reading
returns-in_err-hit-clause-reading g c =
    let r = c.from_residual.result in
    end-read (not-read c.requires) (NoFault-refl _) (asked-read refl) (any-reading c.in_err-hit.ensures.reading) r (err_from_is_err_and r c.from_residual.ensures.1)

pub returns-in-Some-2-clause-reading : goal.returns-in-Some-2-clause-reading
returns-in-Some-2-clause-reading g c = is-read c.in_ok-hit.ensures.reading.read c.in_ok-hit.ensures.reading.no_fault (asked-read refl)

pub returns-in-None-clause-reading : goal.returns-in-None-clause-reading
returns-in-None-clause-reading g c = is-read c.in_ok-hit.ensures.reading.read c.in_ok-hit.ensures.reading.no_fault (asked-read refl)

pub returns-in_default-clause-unread : goal.returns-in_default-clause-unread
returns-in_default-clause-unread g c un u = omega arith

pub returns-in_err-hit-clause-unread : goal.returns-in_err-hit-clause-unread
returns-in_err-hit-clause-unread g c un = c.in_err-hit.ensures.reading.unread (stands-query _ (query_of c.in-Some.query.now) (spot_hit c.in-Some.spot.now) c.in-Some.ensures un)

pub returns-in-Some-2-clause-unread : goal.returns-in-Some-2-clause-unread
returns-in-Some-2-clause-unread g c un = c.in_ok-hit.ensures.reading.unread (stands-query _ (query_of c.in-Some.query.now) (spot_hit c.in-Some.spot.now) c.in-Some.ensures un)

pub returns-in-None-clause-unread : goal.returns-in-None-clause-unread
returns-in-None-clause-unread g c un = c.in_ok-hit.ensures.reading.unread (stands-query _ (query_of c.in-Some.query.now) (spot_hit c.in-Some.spot.now) c.in-Some.ensures un)

pub returns-in_err-hit-clause-own : goal.returns-in_err-hit-clause-own
returns-in_err-hit-clause-own g c t q h stands =
    let w = world_of g.C.Card.reads c.args.units.now (g.H.Host.outside c.args.host.now) in
    let at = spot_hit c.in-Some.spot.now in
    let same = ap (λ (x : Query × Hit). x.1.store) (some-same (query_of c.in-Some.query.now, at) (q, h) (c.in-Some.ensures ∙ sym stands)) in
    let r = c.from_residual.result in
    subst (λ (n : ℕ). IfErr r (AtStop (λ u. has_sig n (mounted_store w u) ≡ true))) same
    (handed-stop (λ u. has_sig at.store (mounted_store w u) ≡ true) _ (c.in_err-hit.ensures.own t) r (err_from_is_err_and r c.from_residual.ensures.1))
