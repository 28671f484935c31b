use Rattle.std.proofs.Common.{ℕ, ◌==◌, ◌+◌, List, [], take, get_or, arith}
use Rattle.std.specs.List.{list_any}
use Rattle.std.proofs.lemmas.List.Folds.{list_any_more}
use Rattle.newt_objects.proofs.Flags.{marks-more}
use Rattle.newt_objects.proofs.free.mark_puts.Goals as goal

abbrev no_put : ℕ × List ℕ
no_put = (0, [])

pub loop-put-preserved : goal.loop-put-preserved
loop-put-preserved c =
    let puts = c.args.puts.now in
    let i = c.loop-put.put-index in
    marks-more (λ q. list_any (λ put. q == put.0) (take i puts)) (λ q. q == (get_or puts i no_put).0) (λ q. list_any (λ put. q == put.0) (take (i + 1) puts)) c.args.taken.now.items c.loop-put.taken.items c.mark.new.taken.items
    (λ q. list_any_more (λ (put : ℕ × List ℕ). q == put.0) puts i no_put (omega arith)) c.loop-put.invariant c.mark.ensures
