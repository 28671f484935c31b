-- The card of the unit decides.
use Rattle.std.proofs.Common.{◌≡◌, ◌∙◌, ap, sym, option_map, Some, true, false}
use Rattle.newt_cursor.specs.Seen.{query_of}
use Rattle.newt_spec_store.specs.Store.{Store, Soup, soup_named}
use Rattle.newt_index.specs.Pairs.{Sorted}
use Rattle.newt_laws_answers.proofs.Units.{is-mounted}
use Rattle.newt_union.specs.Merged.{Member}
use Rattle.newt_index_ranges.specs.Range.{range_in}
use Rattle.newt_engine_units.specs.Stands.{world_of}
use Rattle.newt_engine_units.proofs.Known.{Laws, card-known, none-mounted, bare-sig}
use Rattle.newt_engine_hits.proofs.Cards.{on-card}
use Rattle.newt_engine_hits.specs.Searched.{agrees}
use Rattle.newt_engine_hits.proofs.Searching.{agrees-agree, range-agrees, unit-none, unit-out, unit-no-soup, unit-soup}
use Rattle.newt_engine_hits.proofs.search.member_on.Goals as goal

pub returns-in_err-card-clause-found : goal.returns-in_err-card-clause-found
returns-in_err-card-clause-found g c outside eight stands =
    let laws : Laws g.C.Card.reads g.C.Card.place g.C.Card.soups g.C.Card.stands = record { formed = g.met.C.Card.formed; plain = g.met.C.Card.plain; durable = g.met.C.Card.durable; banks = g.met.C.Card.banks; kept = g.met.C.Card.kept } in
    rw c.from_residual.ensures (unit-none (query_of c.args.query.now) (world_of g.C.Card.reads c.args.units.now outside) c.args.unit (none-mounted laws c.args.units.now outside eight stands c.args.unit (sym c.in_err-card.ensures)))

pub returns-then-not-in_scope-clause-found : goal.returns-then-not-in_scope-clause-found
returns-then-not-in_scope-clause-found g c outside eight stands =
    let laws : Laws g.C.Card.reads g.C.Card.place g.C.Card.soups g.C.Card.stands = record { formed = g.met.C.Card.formed; plain = g.met.C.Card.plain; durable = g.met.C.Card.durable; banks = g.met.C.Card.banks; kept = g.met.C.Card.kept } in
    let w = world_of g.C.Card.reads c.args.units.now outside in
    let k = card-known laws c.args.units.now outside eight stands c.args.unit c.in_ok-card.card.now (sym c.in_ok-card.ensures) in
    unit-out (query_of c.args.query.now) w c.args.unit k.store (is-mounted w c.args.unit (outside.blocks c.args.unit) k.store k.on)
    (c.if-not-in_scope.ensures k.store (ap (λ (t : Store). t.sig) k.known ∙ sym c.sig.ensures))

pub returns-in_err-soup-clause-found : goal.returns-in_err-soup-clause-found
returns-in_err-soup-clause-found g c outside eight stands =
    let laws : Laws g.C.Card.reads g.C.Card.place g.C.Card.soups g.C.Card.stands = record { formed = g.met.C.Card.formed; plain = g.met.C.Card.plain; durable = g.met.C.Card.durable; banks = g.met.C.Card.banks; kept = g.met.C.Card.kept } in
    let w = world_of g.C.Card.reads c.args.units.now outside in
    let k = card-known laws c.args.units.now outside eight stands c.args.unit c.in_ok-card.card.now (sym c.in_ok-card.ensures) in
    rw c.from_residual-in_err-soup.ensures (unit-no-soup (query_of c.args.query.now) w c.args.unit k.store (is-mounted w c.args.unit (outside.blocks c.args.unit) k.store k.on)
    (c.if-not-in_scope.ensures k.store (ap (λ (t : Store). t.sig) k.known ∙ sym c.sig.ensures))
    (c.in_err-soup.ensures ∙ ap (λ (t : Store). option_map (λ (p : Soup). p.sig) (soup_named c.args.query.now.name t)) (sym k.known) ∙ bare-sig c.args.query.now.name k.store))

pub returns-in_err-range-clause-found : goal.returns-in_err-range-clause-found
returns-in_err-range-clause-found g c outside eight stands =
    let laws : Laws g.C.Card.reads g.C.Card.place g.C.Card.soups g.C.Card.stands = record { formed = g.met.C.Card.formed; plain = g.met.C.Card.plain; durable = g.met.C.Card.durable; banks = g.met.C.Card.banks; kept = g.met.C.Card.kept } in
    let w = world_of g.C.Card.reads c.args.units.now outside in
    let k = card-known laws c.args.units.now outside eight stands c.args.unit c.in_ok-card.card.now (sym c.in_ok-card.ensures) in
    let r = on-card laws c.args.units.now outside eight stands c.args.unit (outside.blocks c.args.unit) k.store k.on c.in_ok-card.card.now c.in_ok-card.ensures in
    rw c.from_residual-in_err-range.ensures (
    ap (option_map {U = Member} (λ (v : Sorted). record { store = k.store.sig; soup = c.in_ok-soup.soup; range = v }))
    (c.in_err-range.ensures.stands outside k.store r.0 r.1 ∙ ap (λ i. range_in c.in_ok-soup.soup i k.store) c.index_of.ensures)
    ∙ sym (unit-soup (query_of c.args.query.now) w c.args.unit k.store (is-mounted w c.args.unit (outside.blocks c.args.unit) k.store k.on)
    (c.if-not-in_scope.ensures k.store (ap (λ (t : Store). t.sig) k.known ∙ sym c.sig.ensures)) c.in_ok-soup.soup
    (c.in_ok-soup.ensures ∙ ap (λ (t : Store). option_map (λ (p : Soup). p.sig) (soup_named c.args.query.now.name t)) (sym k.known) ∙ bare-sig c.args.query.now.name k.store)))

pub returns-then-agrees-clause-sorted : goal.returns-then-agrees-clause-sorted
returns-then-agrees-clause-sorted g c = (
  c.if-agrees.ensures.sorted,
  agrees-agree c.in_ok-range.range.now.spec c.args.query.now.spec.index
      (sym (c.if-agrees.ensures.same ∙ ap (agrees c.in_ok-range.range.now.spec) c.index_of-2.ensures)),
)

pub returns-then-agrees-clause-found : goal.returns-then-agrees-clause-found
returns-then-agrees-clause-found g c outside eight stands =
    let laws : Laws g.C.Card.reads g.C.Card.place g.C.Card.soups g.C.Card.stands = record { formed = g.met.C.Card.formed; plain = g.met.C.Card.plain; durable = g.met.C.Card.durable; banks = g.met.C.Card.banks; kept = g.met.C.Card.kept } in
    let w = world_of g.C.Card.reads c.args.units.now outside in
    let k = card-known laws c.args.units.now outside eight stands c.args.unit c.in_ok-card.card.now (sym c.in_ok-card.ensures) in
    let r = on-card laws c.args.units.now outside eight stands c.args.unit (outside.blocks c.args.unit) k.store k.on c.in_ok-card.card.now c.in_ok-card.ensures in
    let found = c.in_ok-range.ensures.stands outside k.store r.0 r.1 ∙ ap (λ i. range_in c.in_ok-soup.soup i k.store) c.index_of.ensures in
    let q = query_of c.args.query.now in
    (λ i. Some (record { store = (c.sig-then-agrees.ensures ∙ sym (ap (λ (t : Store). t.sig) k.known)) i; soup = c.in_ok-soup.soup; range = c.in_ok-range.range.now }))
    ∙ ap (option_map {U = Member} (λ (v : Sorted). record { store = k.store.sig; soup = c.in_ok-soup.soup; range = v })) found
    ∙ sym (unit-soup q w c.args.unit k.store (is-mounted w c.args.unit (outside.blocks c.args.unit) k.store k.on)
    (c.if-not-in_scope.ensures k.store (ap (λ (t : Store). t.sig) k.known ∙ sym c.sig.ensures)) c.in_ok-soup.soup
    (c.in_ok-soup.ensures ∙ ap (λ (t : Store). option_map (λ (p : Soup). p.sig) (soup_named c.args.query.now.name t)) (sym k.known) ∙ bare-sig c.args.query.now.name k.store))

pub returns-else-agrees-clause-found : goal.returns-else-agrees-clause-found
returns-else-agrees-clause-found g c outside eight stands =
    let laws : Laws g.C.Card.reads g.C.Card.place g.C.Card.soups g.C.Card.stands = record { formed = g.met.C.Card.formed; plain = g.met.C.Card.plain; durable = g.met.C.Card.durable; banks = g.met.C.Card.banks; kept = g.met.C.Card.kept } in
    let w = world_of g.C.Card.reads c.args.units.now outside in
    let k = card-known laws c.args.units.now outside eight stands c.args.unit c.in_ok-card.card.now (sym c.in_ok-card.ensures) in
    let r = on-card laws c.args.units.now outside eight stands c.args.unit (outside.blocks c.args.unit) k.store k.on c.in_ok-card.card.now c.in_ok-card.ensures in
    let found = c.in_ok-range.ensures.stands outside k.store r.0 r.1 ∙ ap (λ i. range_in c.in_ok-soup.soup i k.store) c.index_of.ensures in
    let is = range-agrees c.in_ok-soup.soup c.args.query.now.spec.index k.store c.in_ok-range.range.now (sym found) in
    let not = c.if-agrees.ensures.same ∙ ap (agrees c.in_ok-range.range.now.spec) c.index_of-2.ensures in
    absurd (no-true (not ∙ is))
  where
    no-true : false ≡ true → ⊥
    no-true e = cc
