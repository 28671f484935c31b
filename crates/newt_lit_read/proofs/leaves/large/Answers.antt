use Rattle.newt_lit_read.proofs.Characters.{large_bytes_fit}
use Rattle.newt_lit_read.proofs.TokenSound.{large_bytes_take}
use Rattle.newt_lit_read.proofs.leaves.large.Goals as goal

pub fill-requires-clause-filling : goal.fill-requires-clause-filling
fill-requires-clause-filling c =
    let t = large_bytes_take c.in_ok-n.rest.now _ c.in_ok-bytes.ensures.gives in
    rw c.of.ensures (large_bytes_fit t.0 c.in_ok-bytes.bytes.items t.2)
