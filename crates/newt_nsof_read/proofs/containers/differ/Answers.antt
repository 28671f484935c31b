use Rattle.std.proofs.Common.{◌≡◌, ℕ, ◌<◌, sym, arith}
use Rattle.std.proofs.lemmas.List.Kept.{AllPairs-from_increasing}
use Rattle.newt_graph.proofs.Distinct.{all_distinct_again}
use Rattle.newt_nsof_read.proofs.containers.differ.Goals as goal

apart : (x y : ℕ) → x < y → x ≡ y → ⊥
apart x y below same = omega arith

pub returns-then-rise : goal.returns-then-rise
returns-then-rise c =
    let rise = AllPairs-from_increasing c.args.tags.now (c.rise.ensures c.if-rise.true) in
    sym (all_distinct_again c.args.tags.now (λ i j d before within. apart _ _ (rise i j d before within)))
