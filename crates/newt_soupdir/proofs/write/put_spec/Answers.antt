use Rattle.std.proofs.Common.{◌++◌, ap, ◌∙◌, arith}
use Rattle.newt_spec_store.specs.Cost.{counted, part_bytes}
use Rattle.newt_spec_store.specs.Keys.{IndexSpec}
use Rattle.newt_keys.specs.Seen.{declared}
use Rattle.newt_soupdir.proofs.Spelled.{spelled}
use Rattle.std.proofs.lemmas.Grind.{common_steps}
use Rattle.newt_soupdir.proofs.Spelled.{parts_few}
use Rattle.newt_soupdir.proofs.write.put_spec.Goals as goal

pub returns : goal.returns
returns c =
    spelled declared part_bytes c.loop-part.out.items c.args.out.now.items c.list-parts.result.now c.loop-part.part-index c.loop-part-test.false c.loop-part.invariant
    ∙ ap (λ (spec : IndexSpec). c.args.out.now.items ++ counted part_bytes spec) c.list-parts.ensures.parts

pub loop-part-preserved : goal.loop-part-preserved
loop-part-preserved c = grind (arith, common_steps, parts_few)
