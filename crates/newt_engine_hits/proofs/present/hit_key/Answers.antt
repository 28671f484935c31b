-- The store, the soup and the entry are looked up.
use Rattle.std.proofs.Common.{◌≡◌, ◌∙◌, ap, sym, ℕ, true, Some, option_and_then, option_map}
use Rattle.newt_cursor.specs.Seen.{query_of}
use Rattle.newt_spec_store.specs.Store.{Soup, entry_at, soup_of}
use Rattle.newt_laws_hits.specs.Located.{takes_part}
use Rattle.newt_spec_store.specs.Keys.{Key}
use Rattle.newt_engine_units.specs.Stands.{world_of}
use Rattle.newt_engine_units.proofs.Known.{Laws}
use Rattle.newt_engine_hits.specs.Present.{keyed_in}
use Rattle.newt_engine_hits.proofs.Presence.{no-store-present, other-soup-present, there-keyed, takes-carries}
use Rattle.newt_engine_hits.proofs.Stores.{stores-formed, shows-some, shows-none}
use Rattle.newt_engine_hits.proofs.present.hit_key.Goals as goal

pub returns-in_default-clause-found : goal.returns-in_default-clause-found
returns-in_default-clause-found g c o eight stand apart read =
    let laws : Laws g.C.Card.reads g.C.Card.place g.C.Card.soups g.C.Card.stands = record { formed = g.met.C.Card.formed; plain = g.met.C.Card.plain; durable = g.met.C.Card.durable; banks = g.met.C.Card.banks; kept = g.met.C.Card.kept } in
    let w = world_of g.C.Card.reads c.args.units.now o in
    ap keyed_in (no-store-present w (query_of c.args.query.now) c.args.store c.args.soup c.args.uid apart (stores-formed laws c.args.units.now o eight stand)
    (shows-none laws c.args.units.now o eight stand c.args.store (sym c.in_default.ensures)).0)

pub returns-then-not-takes_part-clause-found : goal.returns-then-not-takes_part-clause-found
returns-then-not-takes_part-clause-found g c o eight stand apart read =
    let laws : Laws g.C.Card.reads g.C.Card.place g.C.Card.soups g.C.Card.stands = record { formed = g.met.C.Card.formed; plain = g.met.C.Card.plain; durable = g.met.C.Card.durable; banks = g.met.C.Card.banks; kept = g.met.C.Card.kept } in
    let w = world_of g.C.Card.reads c.args.units.now o in
    let k = shows-some laws c.args.units.now o eight stand c.args.store c.in-Some.unit (sym c.in-Some.ensures) in
    ap keyed_in (other-soup-present w (query_of c.args.query.now) c.args.store c.args.soup c.args.uid apart (stores-formed laws c.args.units.now o eight stand) c.in-Some.unit k.store k.found k.found_with k.sig_is
    (λ p at. sym (c.if-not-takes_part.ensures o eight stand k.blocks k.store p k.on at)))

pub returns-in-Some-2-clause-found : goal.returns-in-Some-2-clause-found
returns-in-Some-2-clause-found g c o eight stand apart read =
    let laws : Laws g.C.Card.reads g.C.Card.place g.C.Card.soups g.C.Card.stands = record { formed = g.met.C.Card.formed; plain = g.met.C.Card.plain; durable = g.met.C.Card.durable; banks = g.met.C.Card.banks; kept = g.met.C.Card.kept } in
    let w = world_of g.C.Card.reads c.args.units.now o in
    let k = shows-some laws c.args.units.now o eight stand c.args.store c.in-Some.unit (sym c.in-Some.ensures) in
    let takes : (p : Soup) → soup_of c.args.soup k.store ≡ Some p → takes_part (query_of c.args.query.now) k.store p ≡ true = λ p at. sym (c.if-not-takes_part.ensures o eight stand k.blocks k.store p k.on at) in
    ap (option_map {U = ℕ × Key} (λ (key : Key). (c.in-Some.unit, key))) (sym c.in-Some-2.is
    ∙ c.in_ok-key.ensures.found o eight stand k.blocks k.store k.on (takes-carries (query_of c.args.query.now) c.args.soup k.store takes)
    (λ asks. read asks ∙ ap (option_and_then (entry_at c.args.soup c.args.uid)) k.found))
    ∙ there-keyed w (query_of c.args.query.now) c.args.store c.args.soup c.args.uid apart (stores-formed laws c.args.units.now o eight stand) c.in-Some.unit k.store k.found k.found_with k.sig_is takes

pub returns-in-None-clause-found : goal.returns-in-None-clause-found
returns-in-None-clause-found g c o eight stand apart read =
    let laws : Laws g.C.Card.reads g.C.Card.place g.C.Card.soups g.C.Card.stands = record { formed = g.met.C.Card.formed; plain = g.met.C.Card.plain; durable = g.met.C.Card.durable; banks = g.met.C.Card.banks; kept = g.met.C.Card.kept } in
    let w = world_of g.C.Card.reads c.args.units.now o in
    let k = shows-some laws c.args.units.now o eight stand c.args.store c.in-Some.unit (sym c.in-Some.ensures) in
    let takes : (p : Soup) → soup_of c.args.soup k.store ≡ Some p → takes_part (query_of c.args.query.now) k.store p ≡ true = λ p at. sym (c.if-not-takes_part.ensures o eight stand k.blocks k.store p k.on at) in
    ap (option_map {U = ℕ × Key} (λ (key : Key). (c.in-Some.unit, key))) (sym c.in-None.is
    ∙ c.in_ok-key.ensures.found o eight stand k.blocks k.store k.on (takes-carries (query_of c.args.query.now) c.args.soup k.store takes)
    (λ asks. read asks ∙ ap (option_and_then (entry_at c.args.soup c.args.uid)) k.found))
    ∙ there-keyed w (query_of c.args.query.now) c.args.store c.args.soup c.args.uid apart (stores-formed laws c.args.units.now o eight stand) c.in-Some.unit k.store k.found k.found_with k.sig_is takes

pub returns-in-Some-2-clause-unit : goal.returns-in-Some-2-clause-unit
returns-in-Some-2-clause-unit g c = sym c.in-Some.ensures
