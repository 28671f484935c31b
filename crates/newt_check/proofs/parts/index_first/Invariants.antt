use Rattle.std.proofs.Common.{◌≡◌, ℕ, take}
use Rattle.newt_check.specs.Parts.{first_of, kept_first}
use Rattle.newt_check.proofs.parts.index_first.Given as goal

abbrev pub invariant-loop-header : goal.invariant-loop-header
invariant-loop-header l = (o p : ℕ) → kept_first l.parts o p ≡ first_of (take l.header-index l.headers) o p
