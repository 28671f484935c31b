-- Where there is no key, nothing is taken.
use Rattle.std.proofs.Common.{ap, sym, Option}
use Rattle.newt_spec_store.specs.Keys.{Key}
use Rattle.newt_engine_cursors.specs.Keyed.{given}
use Rattle.newt_engine_cursors.proofs.Cursors.{change-none}
use Rattle.newt_engine_cursors.proofs.settling.take_key.Goals as goal

pub returns-in_default : goal.returns-in_default
returns-in_default c = sym (change-none (given c.args.key) c.args.desk.now c.args.cursor (λ k e. ap (λ (key : Option Key). given key k) c.in_default.is))
