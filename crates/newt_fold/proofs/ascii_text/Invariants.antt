-- what is written and what is left are the whole, and it is ASCII
use Rattle.std.proofs.Common.{◌≡◌, ◌++◌, drop}
use Rattle.std.specs.Str.{IsAscii}
use Rattle.newt_fold.proofs.ascii_text.Given as goal

abbrev pub invariant-loop-unit : goal.invariant-loop-unit
invariant-loop-unit l = record { whole : l.bytes.items ++ drop l.unit-index l.units ≡ l.units; ascii : IsAscii l.bytes.items }
