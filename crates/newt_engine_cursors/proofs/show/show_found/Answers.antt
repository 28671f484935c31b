-- The hit is where its signatures say, and its entry is read.
use Rattle.std.proofs.Common.{arith, ◌≡◌, ◌∙◌, ap, sym, subst, refl, ℕ, true, Some}
use Rattle.std.proofs.lemmas.Result.{IfOk-weaker}
use Rattle.newt_host.proofs.Outside.{NoFault-refl}
use Rattle.newt_index.specs.Spots.{spot_hit}
use Rattle.newt_spec_graph.proofs.Lists.{some-same, none-some}
use Rattle.newt_spec_query.specs.Cursor.{Cursor, on}
use Rattle.newt_spec_store.specs.Store.{Store}
use Rattle.newt_engine_units.specs.Stands.{Stands, Eight, world_of}
use Rattle.newt_engine_units.proofs.Known.{Laws}
use Rattle.newt_engine_hits.proofs.Presence.{present-at}
use Rattle.newt_engine_hits.proofs.Reading.{asked-read, is-read, not-read}
use Rattle.newt_engine_hits.proofs.Stores.{shows-none, shows-some, stores-formed}
use Rattle.newt_engine_cursors.specs.Replies.{entry_reply, shown_place, shown_reply}
use Rattle.newt_engine_cursors.specs.declared.show.Shown.{Shown}
use Rattle.newt_engine_cursors.proofs.Coming.{hit-present}
use Rattle.newt_engine_cursors.proofs.Standing.{found-shown}
use Rattle.newt_engine_cursors.proofs.show.show_found.Goals as goal

pub returns-in-Some-clause-shown : goal.returns-in-Some-clause-shown
returns-in-Some-clause-shown g c t apart q among =
    let laws : Laws g.C.Card.reads g.C.Card.place g.C.Card.soups g.C.Card.stands = record { formed = g.met.C.Card.formed; plain = g.met.C.Card.plain; durable = g.met.C.Card.durable; banks = g.met.C.Card.banks; kept = g.met.C.Card.kept } in
    let o = g.H.Host.outside c.args.host.now in
    let eight : Eight (g.H.Host.outside c.args.host.now) = record { eight = g.met.H.Host.eight c.args.host.now; none = g.met.H.Host.none c.args.host.now } in
    let stand : Stands g.C.Card.place g.C.Card.stands true c.args.units.now o = subst (λ b. Stands g.C.Card.place g.C.Card.stands b c.args.units.now o) t c.requires in
    let w = world_of g.C.Card.reads c.args.units.now o in
    let at = spot_hit c.args.spot.now in
    let k : Cursor = record { query = q; place = on at } in
    let x = hit-present w apart (stores-formed laws c.args.units.now o eight stand) q at among in
    let there = found-shown w (Some k) q at refl x.0 x.1 in
    let shows = shows-some laws c.args.units.now o eight stand at.store c.in-Some.unit (sym c.in-Some.ensures) in
    let here = present-at w q at.store at.soup at.uid there.present there.here in
    let unit : c.in-Some.unit ≡ there.present.unit = ap (λ (m : ℕ × Store). m.0) (some-same (c.in-Some.unit, shows.store) here.0 (sym shows.found_with ∙ here.1)) ∙ here.2 in
    IfOk-weaker c.read_and_show.result (λ (shown : Shown). shown_reply shown ≡ entry_reply c.in-Some.unit there.present.entry) (λ (shown : Shown). shown_reply shown ≡ shown_place w q (on at))
    (λ shown e. e ∙ ap (λ (u : ℕ). entry_reply u there.present.entry) unit ∙ there.reply_is)
    (c.read_and_show.ensures.shown t there.present.entry there.there)

pub returns-in-Some-clause-fetches : goal.returns-in-Some-clause-fetches
returns-in-Some-clause-fetches g c t apart q among =
    let laws : Laws g.C.Card.reads g.C.Card.place g.C.Card.soups g.C.Card.stands = record { formed = g.met.C.Card.formed; plain = g.met.C.Card.plain; durable = g.met.C.Card.durable; banks = g.met.C.Card.banks; kept = g.met.C.Card.kept } in
    let o = g.H.Host.outside c.args.host.now in
    let eight : Eight (g.H.Host.outside c.args.host.now) = record { eight = g.met.H.Host.eight c.args.host.now; none = g.met.H.Host.none c.args.host.now } in
    let stand : Stands g.C.Card.place g.C.Card.stands true c.args.units.now o = subst (λ b. Stands g.C.Card.place g.C.Card.stands b c.args.units.now o) t c.requires in
    let w = world_of g.C.Card.reads c.args.units.now o in
    let at = spot_hit c.args.spot.now in
    let k : Cursor = record { query = q; place = on at } in
    let x = hit-present w apart (stores-formed laws c.args.units.now o eight stand) q at among in
    let there = found-shown w (Some k) q at refl x.0 x.1 in
    (λ u. let e = there.pages u in let more = (c.read_and_show.ensures.fetches t) u in omega (arith, e, more))

pub returns-in-None-clause-reading : goal.returns-in-None-clause-reading
returns-in-None-clause-reading g c = is-read (not-read c.requires) (NoFault-refl _) (asked-read refl)

pub returns-in-None-clause-shown : goal.returns-in-None-clause-shown
returns-in-None-clause-shown g c t apart q among =
    let laws : Laws g.C.Card.reads g.C.Card.place g.C.Card.soups g.C.Card.stands = record { formed = g.met.C.Card.formed; plain = g.met.C.Card.plain; durable = g.met.C.Card.durable; banks = g.met.C.Card.banks; kept = g.met.C.Card.kept } in
    let o = g.H.Host.outside c.args.host.now in
    let eight : Eight (g.H.Host.outside c.args.host.now) = record { eight = g.met.H.Host.eight c.args.host.now; none = g.met.H.Host.none c.args.host.now } in
    let stand : Stands g.C.Card.place g.C.Card.stands true c.args.units.now o = subst (λ b. Stands g.C.Card.place g.C.Card.stands b c.args.units.now o) t c.requires in
    let w = world_of g.C.Card.reads c.args.units.now o in
    let at = spot_hit c.args.spot.now in
    let k : Cursor = record { query = q; place = on at } in
    let x = hit-present w apart (stores-formed laws c.args.units.now o eight stand) q at among in
    let here = present-at w q at.store at.soup at.uid x.0 x.1 in
    absurd (none-some here.0 (sym (shows-none laws c.args.units.now o eight stand at.store (sym c.in-None.ensures)).1 ∙ here.1))

pub returns-in-None-clause-fetches : goal.returns-in-None-clause-fetches
returns-in-None-clause-fetches g c t apart q among u = omega arith

pub returns-in-Some-clause-pages : goal.returns-in-Some-clause-pages
returns-in-Some-clause-pages g c = c.read_and_show.ensures.pages (sym c.in-Some.ensures)

pub returns-in-None-clause-pages : goal.returns-in-None-clause-pages
returns-in-None-clause-pages g c u = omega arith
