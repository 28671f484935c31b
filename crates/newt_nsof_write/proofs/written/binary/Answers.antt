use Rattle.newt_nsof_write.proofs.Parts.{binary_adds}
use Rattle.newt_nsof_write.proofs.written.binary.Goals as goal

pub returns : goal.returns
returns c =
    binary_adds c.args.out.now.items c.push.new.self.items c.count.new.out.items c.label.new.out.items c.extend_from_slice.new.self.items c.args.nodes.now c.args.k c.args.class c.args.bytes.now c.args.numbers.now c.give.new.self c.label.new.numbers
    c.in_ok-give.ensures c.in_ok-push.ensures.items c.in_ok-count.ensures c.in_ok-label.ensures c.in_ok-extend_from_slice.ensures.items
