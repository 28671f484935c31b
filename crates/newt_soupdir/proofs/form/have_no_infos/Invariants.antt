use Rattle.std.proofs.Common.{◌≡◌, is_none, length, map}
use Rattle.std.specs.List.{list_all}
use Rattle.newt_soupdir.specs.Bare.{bare_soup}
use Rattle.newt_soupdir.proofs.form.have_no_infos.Given as goal

abbrev pub invariant-loop-left : goal.invariant-loop-left
invariant-loop-left l = list_all (λ p. is_none p.info) (map bare_soup l.left) ≡ list_all (λ p. is_none p.info) (map bare_soup l.soups)

abbrev pub decreases-loop-left : goal.decreases-loop-left
decreases-loop-left l = length l.left
