use Rattle.std.proofs.Common.{ℕ, ◌<◌, sym, ◌∙◌, subst}
use Rattle.newt_memhost.proofs.Cards.{card-inside, image-held, read-there}
use Rattle.newt_memhost.proofs.host.MemHost.bytes.Goals as goal

pub listed : goal.listed
listed c = card-inside c.args.self.now.cards _ c.args.unit c.unit.view_is c.requires

pub bounds-self-unit-inside : goal.bounds-self-unit-inside
bounds-self-unit-inside c = subst (λ (n : ℕ). c.unit.inside.0 < n) c.args.self.now.eight (card-inside c.args.self.now.cards _ c.args.unit c.unit.view_is c.requires)

pub returns : goal.returns
returns c =
    let there = read-there c.args.self.now.cards _ c.args.unit c.index-self-unit.result c.unit.view_is c.requires in
    c.deref.ensures.value ∙ sym (image-held c.args.self.now.cards _ c.args.unit _ c.index-self-unit.result c.unit.view_is there.0 _ c.args.self.now.told there.1)
