use Rattle.std.proofs.Common.{length, arith}
use Rattle.std.specs.Option.{is_some}
use Rattle.newt_pagelog.proofs.Placing.{shrunk}
use Rattle.newt_pages.proofs.Tables.{number-step}
use Rattle.newt_pages.proofs.table.remove_numbers.Goals as goal

pub loop-number-preserved : goal.loop-number-preserved
loop-number-preserved c =
    let inv = c.loop-number.invariant in
    let e = c.remove.ensures in
    record {
      spare = omega (arith, inv.spare, e.spare);
      len = omega (arith, inv.len, shrunk (is_some c.remove.result) (length c.remove.new.self.entries) (length c.loop-number.places.entries) e.len);
      unique = e.unique;
      updates = number-step (λ n. n) c.args.numbers.now c.loop-number.number-index 0 c.args.places.now.entries c.loop-number.places.entries c.remove.new.self.entries c.loop-number-test.true inv.updates e.updates.0;
    }
