use Rattle.std.proofs.Common.{length, map}
use Rattle.std.specs.Prelude.{IfSome}
use Rattle.newt_graph.specs.Graph.{IsGraph}
use Rattle.newt_soupdir.specs.Bare.{bare_soup}
use Rattle.newt_spec_graph.specs.Lists.{Each}
use Rattle.newt_backup.proofs.checks.know_infos.Given as goal

-- where those that are left are graphs, all are
abbrev pub invariant-loop-left : goal.invariant-loop-left
invariant-loop-left l = Each (λ p. IfSome p.info IsGraph) (map bare_soup l.left) → Each (λ p. IfSome p.info IsGraph) (map bare_soup l.rows)

abbrev pub decreases-loop-left : goal.decreases-loop-left
decreases-loop-left l = length l.left
