use Rattle.std.proofs.Common.{map}
use Rattle.newt_reply.proofs.Listed.{whole_line}
use Rattle.newt_reply.proofs.line.ok_line.Goals as goal

pub returns : goal.returns
returns c = whole_line (map (λ part. part.now) c.args.fields.now) c.in_ok-line.line.items c.push.new.self.items c.in_ok-line.ensures c.in_ok-push.ensures.items
