use Rattle.std.proofs.Common.{◌≡◌, length, map}
use Rattle.newt_spec_graph.specs.Lists.{rises}
use Rattle.newt_soupdir.specs.Bare.{bare_soup}
use Rattle.newt_soupdir.proofs.form.rise.Given as goal

abbrev pub invariant-loop-left : goal.invariant-loop-left
invariant-loop-left l = rises l.low l.next (map (λ p. p.sig) (map bare_soup l.left)) ≡ rises 0 l.next (map (λ p. p.sig) (map bare_soup l.soups))

abbrev pub decreases-loop-left : goal.decreases-loop-left
decreases-loop-left l = length l.left
