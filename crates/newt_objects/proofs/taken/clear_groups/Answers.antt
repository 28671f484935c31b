use Rattle.std.proofs.Common.{◌==◌, ◌+◌, take, get_or, arith}
use Rattle.std.specs.List.{list_any}
use Rattle.std.proofs.lemmas.List.Folds.{list_any_more}
use Rattle.newt_objects.specs.Taken.{group_of}
use Rattle.newt_objects.proofs.Live.{clears-more}
use Rattle.newt_objects.proofs.taken.clear_groups.Goals as goal

pub loop-number-preserved : goal.loop-number-preserved
loop-number-preserved c =
    let ns = c.args.numbers.now in
    let i = c.loop-number.number-index in
    clears-more (λ q. list_any (λ n. q == group_of n) (take i ns)) (λ q. q == group_of (get_or ns i 0)) (λ q. list_any (λ n. q == group_of n) (take (i + 1) ns)) c.args.full.now.items c.loop-number.full.items c.clear_flag.new.flags.items
    (λ q. list_any_more (λ n. q == group_of n) ns i 0 (omega arith)) c.loop-number.invariant c.clear_flag.ensures
