use Rattle.newt_lit_read.proofs.Characters.{units_fit}
use Rattle.newt_lit_read.proofs.TokenSound.{string_takes}
use Rattle.newt_lit_read.proofs.leaves.string.Goals as goal

pub fill-requires-clause-filling : goal.fill-requires-clause-filling
fill-requires-clause-filling c =
    let t = string_takes c.args.text.now _ c.in_ok-units.ensures.gives in
    rw c.of.ensures (units_fit t.0 c.in_ok-units.units.items t.2)
