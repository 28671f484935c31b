use Rattle.std.proofs.Common.{◌≡◌, length, map}
use Rattle.std.specs.List.{find}
use Rattle.newt_base.specs.Names.{equal_text}
use Rattle.newt_soupdir.specs.Bare.{bare_soup}
use Rattle.newt_soupdir.proofs.rows.Directory.soup_named.Given as goal

abbrev pub invariant-loop-left : goal.invariant-loop-left
invariant-loop-left l = find (λ p. equal_text p.name l.name) (map bare_soup l.left) ≡ find (λ p. equal_text p.name l.name) (map bare_soup l.self.soups)

abbrev pub decreases-loop-left : goal.decreases-loop-left
decreases-loop-left l = length l.left
