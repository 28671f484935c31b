use Rattle.std.proofs.Common.{◌≡◌, take}
use Rattle.newt_spec_check.specs.Damage.{least}
use Rattle.newt_check.specs.Parts.{AreLengths, broken_by, kept_first}
use Rattle.newt_check.proofs.parts.broken_object.Given as goal

abbrev pub invariant-loop-header : goal.invariant-loop-header
invariant-loop-header l = record {
  lengths : AreLengths (kept_first l.parts) l.lengths;
  least_is : l.least ≡ least (broken_by (kept_first l.parts) (take l.header-index l.headers));
}
