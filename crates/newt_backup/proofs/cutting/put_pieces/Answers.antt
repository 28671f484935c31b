use Rattle.std.proofs.Common.{rules, arith, ◌-◌, ◌<◌, refl, length, take, drop}
use Rattle.newt_entries.proofs.Steps.{rest-is}
use Rattle.newt_backup.proofs.Steps.{piece-step}
use Rattle.newt_backup.proofs.cutting.put_pieces.Goals as goal

pub loop-left-preserved : goal.loop-left-preserved
loop-left-preserved c =
    let left = c.loop-left.left.now in
    let some : 0 < length left = grind (arith, c.is_empty.ensures, c.loop-left-test.ensures) in
    piece-step c.push.new.self.items c.args.nodes.now.items c.loop-left.nodes.items c.args.bytes.now left (take c.min-size.result left)
    (take (length left - c.min-size.result) (drop c.min-size.result left)) c.min-size.result some (search rules) refl (rest-is c.min-size.result left) c.loop-left.invariant (search rules)
