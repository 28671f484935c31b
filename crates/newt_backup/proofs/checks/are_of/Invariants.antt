use Rattle.std.proofs.Common.{◌≡◌, length, map}
use Rattle.newt_soupdir.specs.Bare.{bare_soup}
use Rattle.newt_backup.specs.Checks.{are_of}
use Rattle.newt_entries.specs.Full.{told}
use Rattle.newt_backup.proofs.checks.are_of.Given as goal

abbrev pub invariant-loop-soups : goal.invariant-loop-soups
invariant-loop-soups l = are_of (map bare_soup l.soups) (map told l.left) ≡ are_of (map bare_soup l.rows) (map told l.entries)

abbrev pub decreases-loop-soups : goal.decreases-loop-soups
decreases-loop-soups l = length l.soups
