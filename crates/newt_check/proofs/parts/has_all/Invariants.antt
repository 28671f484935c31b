use Rattle.std.proofs.Common.{◌≡◌, true}
use Rattle.newt_check.specs.Parts.{has_parts, kept_first}
use Rattle.newt_check.proofs.parts.has_all.Given as goal

abbrev pub invariant-loop-part : goal.invariant-loop-part
invariant-loop-part l = has_parts (kept_first l.parts) l.object l.part ≡ true
