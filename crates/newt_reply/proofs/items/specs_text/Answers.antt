use Rattle.newt_reply.specs.Fields.{spec_item}
use Rattle.newt_reply.proofs.Listed.{one_more}
use Rattle.newt_reply.proofs.items.specs_text.Goals as goal

pub loop-index-preserved : goal.loop-index-preserved
loop-index-preserved c =
    one_more spec_item c.args.specs.now c.loop-index.index c.index-specs-index.result c.loop-index.text.items c.push_spec.new.text.items c.loop-index-test.true
    c.index-specs-index.is c.loop-index.invariant c.in_ok-push_spec.ensures
