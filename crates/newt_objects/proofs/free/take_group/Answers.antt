use Rattle.std.proofs.Common.{◌≡◌, ℕ, ◌+◌, ◌*◌, ◌∙◌, sym, subst, take, Vec, Global, arith}
use Rattle.std.specs.List.{list_any}
use Rattle.std.specs.Map.{values_of}
use Rattle.newt_objects.specs.Extents.{free_below, is_taken, has_number}
use Rattle.newt_objects.proofs.Numbers.{keep-taken, keep-more, keep-enough}
use Rattle.newt_objects.proofs.free.take_group.Goals as goal
use Rattle.newt_objects.proofs.free.take_group.Goals.{then-not-is_set+in_ok-push, else-not-is_set}

pub returns-then-len-count : goal.returns-then-len-count
returns-then-len-count c = λ rows flags was.
    keep-enough rows c.args.batch.now c.loop-number.number (c.args.group * 32 + 32) c.args.count c.loop-number.free.items (c.loop-number.invariant rows flags was)
    (omega arith) (omega (arith, c.if-len-count.true, c.len.ensures, c.loop-number.free.ok.0))

pub loop-number-preserved : goal.loop-number-preserved
loop-number-preserved c = λ rows flags was.
    let batch = c.args.batch.now in
    let number = c.loop-number.number in
    let free = c.loop-number.free.items in
    let is : c.is_set.result ≡ is_taken rows batch number = c.is_set.ensures (list_any (has_number number) (values_of rows)) (flags.each number (omega arith)) in
    let goal_at : Vec ℕ Global → Type 0 = λ v. v.items ≡ take c.args.count (free_below (number + 1) rows batch) in
    elim c.if-not-is_set.branch [
      | then-not-is_set+in_ok-push w ↦ subst goal_at (sym w.free-is)
          (w.in_ok-push.ensures.items ∙ keep-more rows batch number c.args.count free (c.loop-number.invariant rows flags was) (omega (arith, c.if-len-count.false, c.len.ensures, c.loop-number.free.ok.0))
          (sym is ∙ w.if-not-is_set.true))
      | else-not-is_set w ↦ subst goal_at (sym w.free-is) (keep-taken rows batch number c.args.count free (c.loop-number.invariant rows flags was) (sym is ∙ w.if-not-is_set.false))
    ]
