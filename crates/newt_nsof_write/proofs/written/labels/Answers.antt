use Rattle.std.proofs.Common.{◌+◌, get_or, drop}
use Rattle.newt_spec_nsof.specs.Written.{label_text}
use Rattle.newt_nsof_write.proofs.Each.{goes_on, goes_at_index, goes_at_end}
use Rattle.newt_nsof_write.proofs.written.labels.Goals as goal

pub loop-tag-preserved : goal.loop-tag-preserved
loop-tag-preserved c =
    goes_on (label_text c.args.nodes.now) c.args.tags.now c.args.numbers.now c.args.out.now.items (get_or c.args.tags.now c.loop-tag.tag-index 0) (drop (c.loop-tag.tag-index + 1) c.args.tags.now) c.loop-tag.numbers c.loop-tag.out.items c.label.new.out.items c.label.new.numbers
    (goes_at_index (label_text c.args.nodes.now) c.args.tags.now c.args.numbers.now c.args.out.now.items c.loop-tag.tag-index 0 c.loop-tag.numbers c.loop-tag.out.items c.loop-tag-test.true c.loop-tag.invariant) c.in_ok-label.ensures

pub returns : goal.returns
returns c = goes_at_end (label_text c.args.nodes.now) c.args.tags.now c.args.numbers.now c.args.out.now.items c.loop-tag.tag-index c.loop-tag.numbers c.loop-tag.out.items c.loop-tag-test.false c.loop-tag.invariant
