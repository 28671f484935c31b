use Rattle.newt_reply.proofs.Listed.{front_is}
use Rattle.newt_reply.proofs.line.ok_front.Goals as goal

pub returns : goal.returns
returns c = front_is c.args.fields.now c.loop-field.field-index c.loop-field.line.items c.loop-field-test.false c.loop-field.invariant
