-- The card is gone, a sync is due, and the default is another.
use Rattle.std.proofs.Common.{ap, ◌∙◌}
use Rattle.newt_engine_units.specs.Faces.{card_faces, default_after}
use Rattle.newt_engine_units.proofs.Mounts.{thrown-dues, thrown-marks, thrown-stands, thrown-world}
use Rattle.newt_engine_units.proofs.units.Units.throw_out.Goals as goal

pub returns-clause-stands : goal.returns-clause-stands
returns-clause-stands g c told outside s =
    thrown-stands g.C.Card.soups c.args.self.now (record c.lose.new.self { default = c.default_after-self.result }) c.args.unit c.lose.ensures.slots
    (c.default_after-self.ensures ∙ ap (λ d. default_after (card_faces g.C.Card.soups c.lose.new.self.slots.items) d c.args.unit) c.lose.ensures.default) c.requires g.C.Card.place g.C.Card.stands told outside s

pub returns-clause-world : goal.returns-clause-world
returns-clause-world g c outside eight s =
    thrown-world g.C.Card.soups c.args.self.now (record c.lose.new.self { default = c.default_after-self.result }) c.args.unit c.lose.ensures.slots
    (c.default_after-self.ensures ∙ ap (λ d. default_after (card_faces g.C.Card.soups c.lose.new.self.slots.items) d c.args.unit) c.lose.ensures.default) c.requires
    (record { formed = g.met.C.Card.formed; plain = g.met.C.Card.plain; durable = g.met.C.Card.durable; banks = g.met.C.Card.banks; kept = g.met.C.Card.kept }) outside eight s c.lose.ensures.minute

pub returns-clause-marks : goal.returns-clause-marks
returns-clause-marks g c u =
    thrown-marks g.C.Card.soups c.args.self.now (record c.lose.new.self { default = c.default_after-self.result }) c.args.unit c.lose.ensures.slots
    (c.default_after-self.ensures ∙ ap (λ d. default_after (card_faces g.C.Card.soups c.lose.new.self.slots.items) d c.args.unit) c.lose.ensures.default) c.requires u

pub returns-clause-due : goal.returns-clause-due
returns-clause-due g c u =
    thrown-dues g.C.Card.soups c.args.self.now (record c.lose.new.self { default = c.default_after-self.result }) c.args.unit c.lose.ensures.slots
    (c.default_after-self.ensures ∙ ap (λ d. default_after (card_faces g.C.Card.soups c.lose.new.self.slots.items) d c.args.unit) c.lose.ensures.default) c.requires u
