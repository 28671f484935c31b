use Rattle.newt_nsof_write.proofs.Parts.{large_adds}
use Rattle.newt_nsof_write.proofs.written.large.Goals as goal

pub returns : goal.returns
returns c =
    large_adds c.args.out.now.items c.push.new.self.items c.label.new.out.items c.large_data.new.out.items c.args.nodes.now c.args.k c.args.class c.args.bytes.now c.args.numbers.now c.give.new.self c.label.new.numbers
    c.in_ok-give.ensures c.in_ok-push.ensures.items c.in_ok-label.ensures c.in_ok-large_data.ensures
