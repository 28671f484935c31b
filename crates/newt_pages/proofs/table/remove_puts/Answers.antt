use Rattle.std.proofs.Common.{ℕ, List, length, arith}
use Rattle.std.specs.Option.{is_some}
use Rattle.newt_pagelog.proofs.Maps.{no_put}
use Rattle.newt_pagelog.proofs.Placing.{shrunk}
use Rattle.newt_pages.proofs.Tables.{number-step}
use Rattle.newt_pages.proofs.table.remove_puts.Goals as goal

pub loop-put-preserved : goal.loop-put-preserved
loop-put-preserved c =
    let inv = c.loop-put.invariant in
    let e = c.remove.ensures in
    record {
      spare = omega (arith, inv.spare, e.spare);
      len = omega (arith, inv.len, shrunk (is_some c.remove.result) (length c.remove.new.self.entries) (length c.loop-put.places.entries) e.len);
      unique = e.unique;
      updates = number-step (λ (p : ℕ × List ℕ). p.0) c.args.puts.now c.loop-put.put-index no_put c.args.places.now.entries c.loop-put.places.entries c.remove.new.self.entries c.loop-put-test.true inv.updates e.updates.0;
    }
