use Rattle.std.proofs.Common.{◌≤◌, length, arith}
use Rattle.newt_soupdir.proofs.Declared.{path_is}
use Rattle.newt_soupdir.proofs.declarations.path.Goals as goal

pub of-requires : goal.of-requires
of-requires c =
    let low : 1 ≤ length c.in_ok-names.names.items = grind arith in
    let high : length c.in_ok-names.names.items ≤ 8 = omega arith in
    path_is c.in_ok-count.count c.in_ok-count.rest.now c.in_ok-names.rest.now c.in_ok-names.names.items c.in_ok-names.ensures low high
