use Rattle.std.proofs.Common.{refl}
use Rattle.newt_test_definitions.proofs.Tables.{open_tables}
use Rattle.newt_test_definitions.proofs.scripts.many_generated_entries.Goals as goal

pub returns : goal.returns
unfolding open_tables
returns c = refl
