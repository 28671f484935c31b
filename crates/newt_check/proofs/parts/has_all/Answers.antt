use Rattle.std.proofs.Common.{refl, arith, sym, ◌∙◌, ap}
use Rattle.newt_check.specs.Parts.{has_parts, kept_first}
use Rattle.newt_check.proofs.Whole.{parts-lack, parts-more}
use Rattle.newt_check.proofs.parts.has_all.Goals as goal

pub loop-part-init : goal.loop-part-init
loop-part-init c = refl

pub loop-part-preserved : goal.loop-part-preserved
loop-part-preserved c = parts-more (kept_first c.args.parts.now) c.args.object c.loop-part.part c.loop-part.invariant (sym c.contains_key.ensures ∙ c.if-not-contains_key.false)

pub returns-then-not-contains_key : goal.returns-then-not-contains_key
returns-then-not-contains_key c = sym (parts-lack (kept_first c.args.parts.now) c.args.object c.loop-part.part c.args.count (omega arith) (sym c.contains_key.ensures ∙ c.if-not-contains_key.true))

pub returns : goal.returns
returns c = sym c.loop-part.invariant ∙ ap (has_parts (kept_first c.args.parts.now) c.args.object) (omega arith)
