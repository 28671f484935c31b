use Rattle.newt_lit_read.proofs.Characters.{name_is}
use Rattle.newt_lit_read.proofs.TokenSound.{name_takes}
use Rattle.newt_lit_read.proofs.leaves.classed.Goals as goal

pub symbol-requires : goal.symbol-requires
symbol-requires c = rw c.deref.ensures.value (name_is (name_takes c.args.text.now _ c.in_ok-name.ensures.gives).is)
