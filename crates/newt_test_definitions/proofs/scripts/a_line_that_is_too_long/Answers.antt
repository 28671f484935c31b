use Rattle.std.proofs.Common.{refl}
use Rattle.newt_test_definitions.proofs.LongLine.{long-answered}
use Rattle.newt_test_definitions.proofs.scripts.a_line_that_is_too_long.Goals as goal

pub returns : goal.returns
returns c = long-answered 140_001 refl
