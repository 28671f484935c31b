use Rattle.newt_lit_read.proofs.Characters.{tag_is}
use Rattle.newt_lit_read.proofs.TokenSound.{tag_takes}
use Rattle.newt_lit_read.proofs.values.class.Goals as goal

pub symbol-requires : goal.symbol-requires
symbol-requires c = rw c.deref.ensures.value (tag_is (tag_takes c.args.text.now _ c.in-Ok.ensures.gives).is)
