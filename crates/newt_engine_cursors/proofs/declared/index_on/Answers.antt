-- The card of the unit decides.
use Rattle.std.proofs.Common.{◌∙◌, ap, sym, refl, find, option_map, option_and_then, true, false}
use Rattle.newt_cursor.specs.Seen.{scope_of}
use Rattle.newt_spec_store.specs.Keys.{paths_of, same_paths}
use Rattle.newt_spec_store.specs.Store.{Store, Soup, soup_named}
use Rattle.newt_spec_world.specs.Changed.{index_in_soup}
use Rattle.newt_spec_world.specs.World.{mounted_store}
use Rattle.newt_laws_answers.proofs.Units.{is-mounted}
use Rattle.newt_engine_units.specs.Stands.{world_of}
use Rattle.newt_engine_units.proofs.Known.{Laws, none-mounted, soup-is, soup-found}
use Rattle.newt_engine_cursors.specs.Opening.{index_in}
use Rattle.newt_engine_cursors.proofs.Asked.{no-soup-index, scoped-index}
use Rattle.newt_engine_hits.proofs.Cards.{on-card, bare-has}
use Rattle.newt_engine_cursors.proofs.declared.index_on.Goals as goal

pub returns-in_err-card : goal.returns-in_err-card
returns-in_err-card g c outside eight stands =
    let laws : Laws g.C.Card.reads g.C.Card.place g.C.Card.soups g.C.Card.stands = record { formed = g.met.C.Card.formed; plain = g.met.C.Card.plain; durable = g.met.C.Card.durable; banks = g.met.C.Card.banks; kept = g.met.C.Card.kept } in
    rw c.from_residual.ensures (sym (ap (option_and_then (index_in (scope_of c.args.scope.now) c.args.name.now c.args.paths.now))
    (none-mounted laws c.args.units.now outside eight stands c.args.unit (sym c.in_err-card.ensures))))

pub returns-in_err-soup : goal.returns-in_err-soup
returns-in_err-soup g c outside eight stands =
    let laws : Laws g.C.Card.reads g.C.Card.place g.C.Card.soups g.C.Card.stands = record { formed = g.met.C.Card.formed; plain = g.met.C.Card.plain; durable = g.met.C.Card.durable; banks = g.met.C.Card.banks; kept = g.met.C.Card.kept } in
    let w = world_of g.C.Card.reads c.args.units.now outside in
    rw c.from_residual-in_err-soup.ensures (no-soup-index (scope_of c.args.scope.now) c.args.name.now c.args.paths.now (mounted_store w c.args.unit)
    (c.in_err-soup.ensures ∙ ap (option_and_then (λ card. option_map (λ (p : Soup). p.sig) (soup_named c.args.name.now (g.C.Card.soups card)))) c.in_ok-card.ensures
    ∙ sym (soup-is laws c.args.units.now outside eight stands c.args.unit c.args.name.now)))

pub returns-then-in_scope : goal.returns-then-in_scope
returns-then-in_scope g c outside eight stands =
    let laws : Laws g.C.Card.reads g.C.Card.place g.C.Card.soups g.C.Card.stands = record { formed = g.met.C.Card.formed; plain = g.met.C.Card.plain; durable = g.met.C.Card.durable; banks = g.met.C.Card.banks; kept = g.met.C.Card.kept } in
    let w = world_of g.C.Card.reads c.args.units.now outside in
    let f = soup-found laws c.args.units.now outside eight stands c.args.unit c.args.name.now c.in_ok-soup.soup
    (ap (option_and_then (λ card. option_map (λ (p : Soup). p.sig) (soup_named c.args.name.now (g.C.Card.soups card)))) (sym c.in_ok-card.ensures) ∙ sym c.in_ok-soup.ensures) in
    let r = on-card laws c.args.units.now outside eight stands c.args.unit (outside.blocks c.args.unit) f.store f.on c.in_ok-card.card.now c.in_ok-card.ensures in
    c.index_of_soup.ensures
    ∙ bare-has (λ (p : Soup). find (λ spec. same_paths (paths_of spec) c.args.paths.now) p.specs) (λ p. refl) c.in_ok-soup.soup f.store (g.C.Card.soups c.in_ok-card.card.now) r.2
    ∙ ap (option_and_then (λ (p : Soup). find (λ spec. same_paths (paths_of spec) c.args.paths.now) p.specs)) f.by_sig
    ∙ sym (scoped-index (scope_of c.args.scope.now) c.args.name.now c.args.paths.now f.store true (c.if-in_scope.ensures f.store (ap (λ (t : Store). t.sig) r.2 ∙ sym c.sig.ensures))
    (mounted_store w c.args.unit) (is-mounted w c.args.unit (outside.blocks c.args.unit) f.store f.on)
    ∙ ap (index_in_soup c.args.paths.now) f.named)

pub returns-else-in_scope : goal.returns-else-in_scope
returns-else-in_scope g c outside eight stands =
    let laws : Laws g.C.Card.reads g.C.Card.place g.C.Card.soups g.C.Card.stands = record { formed = g.met.C.Card.formed; plain = g.met.C.Card.plain; durable = g.met.C.Card.durable; banks = g.met.C.Card.banks; kept = g.met.C.Card.kept } in
    let w = world_of g.C.Card.reads c.args.units.now outside in
    let f = soup-found laws c.args.units.now outside eight stands c.args.unit c.args.name.now c.in_ok-soup.soup
    (ap (option_and_then (λ card. option_map (λ (p : Soup). p.sig) (soup_named c.args.name.now (g.C.Card.soups card)))) (sym c.in_ok-card.ensures) ∙ sym c.in_ok-soup.ensures) in
    let r = on-card laws c.args.units.now outside eight stands c.args.unit (outside.blocks c.args.unit) f.store f.on c.in_ok-card.card.now c.in_ok-card.ensures in
    sym (scoped-index (scope_of c.args.scope.now) c.args.name.now c.args.paths.now f.store false (c.if-in_scope.ensures f.store (ap (λ (t : Store). t.sig) r.2 ∙ sym c.sig.ensures))
    (mounted_store w c.args.unit) (is-mounted w c.args.unit (outside.blocks c.args.unit) f.store f.on))
