-- A precedent that is no symbol is refused.
use Rattle.std.proofs.Common.{arith}
use Rattle.std.proofs.lemmas.Grind.{common_steps}
use Rattle.newt_nsof_read.specs.Reading.{label_at}
use Rattle.newt_nsof_read.proofs.labels.label.Goals as goal

pub returns-else-not-is_symbol : goal.returns-else-not-is_symbol
unfolding label_at
returns-else-not-is_symbol c = grind (arith, common_steps)

pub returns-then-not-is_symbol : goal.returns-then-not-is_symbol
unfolding label_at
returns-then-not-is_symbol c = grind (arith, common_steps)

pub returns-in-Some-Symbol : goal.returns-in-Some-Symbol
unfolding label_at
returns-in-Some-Symbol c = grind (arith, common_steps)

pub returns-in_err-k-in-Some-Again : goal.returns-in_err-k-in-Some-Again
unfolding label_at
returns-in_err-k-in-Some-Again c = grind (arith, common_steps)
