use Rattle.std.proofs.Common.{◌≡◌, length, map}
use Rattle.newt_base.specs.Names.{equal_text}
use Rattle.newt_spec_graph.specs.Lists.{all_apart}
use Rattle.newt_soupdir.specs.Bare.{bare_soup}
use Rattle.newt_soupdir.proofs.form.are_apart.Given as goal

abbrev pub invariant-loop-left : goal.invariant-loop-left
invariant-loop-left l = all_apart equal_text (map (λ p. p.name) (map bare_soup l.left)) ≡ all_apart equal_text (map (λ p. p.name) (map bare_soup l.soups))

abbrev pub decreases-loop-left : goal.decreases-loop-left
decreases-loop-left l = length l.left
