use Rattle.newt_keys.specs.Seen.{declared}
use Rattle.newt_reply.proofs.Pieces.{part_is}
use Rattle.newt_reply.proofs.declared.part_text.Goals as goal

pub returns : goal.returns
returns c =
    part_is (declared c.args.part.now) c.in_ok-text.text.items c.kind_word.result.now c.direction_word.result.now c.push.new.self.items
    c.extend_from_slice.new.self.items c.push-2.new.self.items c.extend_from_slice-2.new.self.items c.in_ok-text.ensures c.kind_word.ensures c.direction_word.ensures
    c.in_ok-push.ensures.items c.in_ok-extend_from_slice.ensures.items c.in_ok-push-2.ensures.items c.in_ok-extend_from_slice-2.ensures.items
