use Rattle.newt_reply.specs.Fields.{store_item}
use Rattle.newt_reply.proofs.Listed.{one_more}
use Rattle.newt_reply.proofs.items.stores_text.Goals as goal

pub loop-index-preserved : goal.loop-index-preserved
loop-index-preserved c =
    one_more store_item c.args.lines.now c.loop-index.index c.index-lines-index.result c.loop-index.text.items c.push_store.new.text.items c.loop-index-test.true
    c.index-lines-index.is c.loop-index.invariant c.in_ok-push_store.ensures
