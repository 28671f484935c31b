-- One unit after another.
use Rattle.std.proofs.Common.{◌∙◌, ap, sym, ℕ, Option, option_and_then}
use Rattle.std.specs.Prelude.{is_some}
use Rattle.std.specs.List.{list_any}
use Rattle.newt_spec_store.specs.Store.{Store, Soup, soup_named}
use Rattle.newt_spec_world.specs.World.{mounted, mounted_store, soup_in}
use Rattle.newt_engine_units.specs.Stands.{world_of}
use Rattle.newt_engine_units.proofs.Known.{Laws, soup-is}
use Rattle.newt_engine_hits.proofs.Cards.{some-map}
use Rattle.newt_engine_cursors.proofs.Opened.{any-eight, is-here, not-here}
use Rattle.newt_engine_cursors.proofs.opening.has_soup.Goals as goal

pub loop-number-init : goal.loop-number-init
loop-number-init g c outside eight stands =
    let w = world_of g.C.Card.reads c.args.units.now outside in
    sym (any-eight (λ (u : ℕ). is_some (soup_in w u c.args.name.now)) (mounted_store w) (λ u m. ap (λ (o : Option Store). is_some (option_and_then (soup_named c.args.name.now) o)) m))

pub returns-then-is_some : goal.returns-then-is_some
returns-then-is_some g c outside eight stands =
    let laws : Laws g.C.Card.reads g.C.Card.place g.C.Card.soups g.C.Card.stands = record { formed = g.met.C.Card.formed; plain = g.met.C.Card.plain; durable = g.met.C.Card.durable; banks = g.met.C.Card.banks; kept = g.met.C.Card.kept } in
    let w = world_of g.C.Card.reads c.args.units.now outside in
    is-here (λ (u : ℕ). is_some (soup_in w u c.args.name.now)) (list_any (λ (m : ℕ × Store). is_some (soup_in w m.0 c.args.name.now)) (mounted w)) c.loop-number.number (c.loop-number.invariant outside eight stands) c.loop-number-test.true
    (some-map (λ (p : Soup). p.sig) (soup_in w c.loop-number.number c.args.name.now)
    ∙ ap is_some (soup-is laws c.args.units.now outside eight stands c.loop-number.number c.args.name.now ∙ sym c.soup_sig.ensures)
    ∙ sym c.is_some.ensures ∙ c.if-is_some.true)

pub loop-number-preserved : goal.loop-number-preserved
loop-number-preserved g c outside eight stands =
    let laws : Laws g.C.Card.reads g.C.Card.place g.C.Card.soups g.C.Card.stands = record { formed = g.met.C.Card.formed; plain = g.met.C.Card.plain; durable = g.met.C.Card.durable; banks = g.met.C.Card.banks; kept = g.met.C.Card.kept } in
    let w = world_of g.C.Card.reads c.args.units.now outside in
    not-here (λ (u : ℕ). is_some (soup_in w u c.args.name.now)) (list_any (λ (m : ℕ × Store). is_some (soup_in w m.0 c.args.name.now)) (mounted w)) c.loop-number.number (c.loop-number.invariant outside eight stands) c.loop-number-test.true
    (some-map (λ (p : Soup). p.sig) (soup_in w c.loop-number.number c.args.name.now)
    ∙ ap is_some (soup-is laws c.args.units.now outside eight stands c.loop-number.number c.args.name.now ∙ sym c.soup_sig.ensures)
    ∙ sym c.is_some.ensures ∙ c.if-is_some.false)
