use Rattle.std.proofs.Common.{arith, ◌+◌, add-one}
use Rattle.std.proofs.Math.ListN.{length-set}
use Rattle.newt_notify.proofs.Noting.{noted_step, noted_end}
use Rattle.newt_notify.proofs.watches.note_each.Goals as goal

pub each-preserved : goal.each-preserved
each-preserved c = record {
  few = simp length-set (omega arith);
  so_far = λ ws h. noted_step _ _ c.each.at (c.each.at + 1) ws _ c.note_at.new.place c.index-places-at.result (add-one c.each.at) (omega arith) (c.each.invariant.so_far ws h) c.note_at.ensures;
}

pub returns : goal.returns
returns c ws h = noted_end _ _ c.each.at ws _ (omega arith) (c.each.invariant.so_far ws h)
