-- The cursor stands on the entry, and its key is looked up.
use Rattle.std.proofs.Common.{◌∙◌, ap, sym, option_map, ℕ}
use Rattle.newt_cursor.specs.Seen.{query_of}
use Rattle.newt_spec_store.specs.Keys.{Key}
use Rattle.newt_laws_reach.specs.Reach.{on_entry}
use Rattle.newt_engine_units.specs.Stands.{world_of}
use Rattle.newt_engine_units.proofs.Known.{Laws}
use Rattle.newt_index.specs.Spots.{spot_hit}
use Rattle.newt_engine_hits.specs.Present.{entry_there}
use Rattle.newt_engine_hits.proofs.Stores.{stores-formed}
use Rattle.newt_engine_cursors.proofs.Reaches.{at-asks, at-key, at-same, not-at, not-standing}
use Rattle.newt_engine_cursors.proofs.settling.watcher_key.Goals as goal

pub returns-in_default-clause-found : goal.returns-in_default-clause-found
returns-in_default-clause-found g c o eight stand apart read = not-standing (on_entry c.args.store c.args.soup c.args.uid) (world_of g.C.Card.reads c.args.units.now o) _ c.in_default.ensures

pub returns-then-not-is_at-clause-found : goal.returns-then-not-is_at-clause-found
returns-then-not-is_at-clause-found g c o eight stand apart read =
    not-at (on_entry c.args.store c.args.soup c.args.uid) (world_of g.C.Card.reads c.args.units.now o) _ (query_of c.in-Some.query.now) (spot_hit c.in-Some.spot.now) c.in-Some.ensures (sym c.if-not-is_at.ensures)

pub returns-in-Some-2-clause-found : goal.returns-in-Some-2-clause-found
returns-in-Some-2-clause-found g c o eight stand apart read =
    let laws : Laws g.C.Card.reads g.C.Card.place g.C.Card.soups g.C.Card.stands = record { formed = g.met.C.Card.formed; plain = g.met.C.Card.plain; durable = g.met.C.Card.durable; banks = g.met.C.Card.banks; kept = g.met.C.Card.kept } in
    let w = world_of g.C.Card.reads c.args.units.now o in
    let r = on_entry c.args.store c.args.soup c.args.uid in
    let at = spot_hit c.in-Some.spot.now in
    let i = at-same c.args.store c.args.soup c.args.uid at (sym c.if-not-is_at.ensures) in
    ap (option_map (λ (x : ℕ × Key). x.1)) (sym c.in-Some-2.is ∙ c.in_ok-hit.ensures.found o eight stand apart (λ asks. read (at-asks c.args.store c.args.soup c.args.uid _ (query_of c.in-Some.query.now) at c.in-Some.ensures (sym c.if-not-is_at.ensures) asks) ∙ (λ j. entry_there w (sym i.0 j) (sym i.1 j) (sym i.2 j))))
    ∙ at-key r w apart (stores-formed laws c.args.units.now o eight stand) _ (query_of c.in-Some.query.now) at c.in-Some.ensures (sym c.if-not-is_at.ensures)

pub returns-in-None-clause-found : goal.returns-in-None-clause-found
returns-in-None-clause-found g c o eight stand apart read =
    let laws : Laws g.C.Card.reads g.C.Card.place g.C.Card.soups g.C.Card.stands = record { formed = g.met.C.Card.formed; plain = g.met.C.Card.plain; durable = g.met.C.Card.durable; banks = g.met.C.Card.banks; kept = g.met.C.Card.kept } in
    let w = world_of g.C.Card.reads c.args.units.now o in
    let r = on_entry c.args.store c.args.soup c.args.uid in
    let at = spot_hit c.in-Some.spot.now in
    let i = at-same c.args.store c.args.soup c.args.uid at (sym c.if-not-is_at.ensures) in
    ap (option_map (λ (x : ℕ × Key). x.1)) (sym c.in-None.is ∙ c.in_ok-hit.ensures.found o eight stand apart (λ asks. read (at-asks c.args.store c.args.soup c.args.uid _ (query_of c.in-Some.query.now) at c.in-Some.ensures (sym c.if-not-is_at.ensures) asks) ∙ (λ j. entry_there w (sym i.0 j) (sym i.1 j) (sym i.2 j))))
    ∙ at-key r w apart (stores-formed laws c.args.units.now o eight stand) _ (query_of c.in-Some.query.now) at c.in-Some.ensures (sym c.if-not-is_at.ensures)
