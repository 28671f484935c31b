use Rattle.newt_lit_read.proofs.Joined.{written_whole}
use Rattle.newt_lit_read.proofs.Sound.{draft_sound}
use Rattle.newt_lit_read.proofs.literal.read.Goals as goal

pub finish-requires : goal.finish-requires
finish-requires c = (written_whole c.args.text.now c.in_ok-root.root c.in_ok-root.building (draft_sound c.args.text.now c.in_ok-root.root c.in_ok-root.building c.in_ok-root.ensures)).joined
