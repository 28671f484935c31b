use Rattle.std.proofs.Common.{◌≡◌, ℕ, ◌+◌, ◌∙◌, Bool, sym, subst, get_or, take, Vec, Global, arith}
use Rattle.std.proofs.lemmas.Option.{get_or_from_slice_get}
use Rattle.newt_objects.specs.Extents.{free_below, is_taken}
use Rattle.newt_objects.proofs.Numbers.{free-start, keep-taken, keep-more, keep-enough}
use Rattle.newt_objects.proofs.free.free_under.Goals as goal
use Rattle.newt_objects.proofs.free.free_under.Goals.{then-not-index+in_ok-push, else-not-index}

pub loop-number-init : goal.loop-number-init
loop-number-init c = c.new-free.ensures.items ∙ free-start c.args.rows.now.entries c.args.batch.now c.args.count

pub returns-then-len-count : goal.returns-then-len-count
returns-then-len-count c =
    keep-enough c.args.rows.now.entries c.args.batch.now c.loop-number.number c.args.bound c.args.count c.loop-number.free.items c.loop-number.invariant
    (omega arith) (omega (arith, c.if-len-count.true, c.len.ensures, c.loop-number.free.ok.0))

pub loop-number-preserved : goal.loop-number-preserved
loop-number-preserved c =
    let rows = c.args.rows.now.entries in
    let batch = c.args.batch.now in
    let number = c.loop-number.number in
    let free = c.loop-number.free.items in
    let test : Bool = is_taken rows batch number in
    let flag : (b : Bool) → b ≡ get_or c.in_ok-taken.taken.items number b → test ≡ b = λ b e.
    sym (e ∙ get_or_from_slice_get c.in_ok-taken.taken.items number test b (c.in_ok-taken.ensures.each number (omega arith))) in
    let goal_at : Vec ℕ Global → Type 0 = λ v. v.items ≡ take c.args.count (free_below (number + 1) rows batch) in
    elim c.if-not-index.branch [
      | then-not-index+in_ok-push w ↦ subst goal_at (sym w.free-is)
          (w.in_ok-push.ensures.items ∙ keep-more rows batch number c.args.count free c.loop-number.invariant (omega (arith, c.if-len-count.false, c.len.ensures, c.loop-number.free.ok.0))
          (flag c.index.result.now c.index.ensures ∙ w.if-not-index.true))
      | else-not-index w ↦ subst goal_at (sym w.free-is) (keep-taken rows batch number c.args.count free c.loop-number.invariant (flag c.index.result.now c.index.ensures ∙ w.if-not-index.false))
    ]
