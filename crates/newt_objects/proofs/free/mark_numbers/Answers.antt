use Rattle.std.proofs.Common.{◌==◌, ◌+◌, take, get_or, arith}
use Rattle.std.specs.List.{list_any}
use Rattle.std.proofs.lemmas.List.Folds.{list_any_more}
use Rattle.newt_objects.proofs.Flags.{marks-more}
use Rattle.newt_objects.proofs.free.mark_numbers.Goals as goal

pub loop-number-preserved : goal.loop-number-preserved
loop-number-preserved c =
    let ns = c.args.numbers.now in
    let i = c.loop-number.number-index in
    marks-more (λ q. list_any (λ n. q == n) (take i ns)) (λ q. q == get_or ns i 0) (λ q. list_any (λ n. q == n) (take (i + 1) ns)) c.args.taken.now.items c.loop-number.taken.items c.mark.new.taken.items
    (λ q. list_any_more (λ n. q == n) ns i 0 (omega arith)) c.loop-number.invariant c.mark.ensures
