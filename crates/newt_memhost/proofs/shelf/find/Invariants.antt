use Rattle.std.proofs.Common.{◌≡◌, drop}
use Rattle.newt_memhost.specs.Cards.{free_device}
use Rattle.newt_memhost.proofs.shelf.find.Given as goal

abbrev pub invariant-loop-place : goal.invariant-loop-place
invariant-loop-place l = free_device l.name l.shelf ≡ free_device l.name (drop l.place l.shelf)
