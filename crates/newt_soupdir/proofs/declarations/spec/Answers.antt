use Rattle.std.proofs.Common.{◌≤◌, length, arith}
use Rattle.newt_soupdir.proofs.Declared.{spec_is}
use Rattle.newt_soupdir.proofs.declarations.spec.Goals as goal

pub new-requires : goal.new-requires
new-requires c =
    let low : 1 ≤ length c.in_ok-parts.parts.items = grind arith in
    let high : length c.in_ok-parts.parts.items ≤ 4 = omega arith in
    spec_is c.in_ok-count.count c.in_ok-count.rest.now c.in_ok-parts.rest.now c.in_ok-parts.parts.items c.in_ok-parts.ensures low high
