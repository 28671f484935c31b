use Rattle.std.proofs.Common.{◌≡◌, length, map}
use Rattle.std.specs.List.{list_any}
use Rattle.newt_base.specs.Names.{equal_text}
use Rattle.newt_soupdir.specs.Bare.{bare_soup}
use Rattle.newt_soupdir.proofs.form.has_name.Given as goal

abbrev pub invariant-loop-left : goal.invariant-loop-left
invariant-loop-left l = list_any (equal_text l.name) (map (λ p. p.name) (map bare_soup l.left)) ≡ list_any (equal_text l.name) (map (λ p. p.name) (map bare_soup l.soups))

abbrev pub decreases-loop-left : goal.decreases-loop-left
decreases-loop-left l = length l.left
