-- The node that `get` gives is the one that the definition looks at.
use Rattle.std.proofs.Common.{◌≡◌, length, sym, refl, Some, slice_get, rules, tests}
use Rattle.std.proofs.lemmas.Bool.{ltb-true}
use Rattle.std.proofs.lemmas.Option.{slice_get_read}
use Rattle.newt_nsof_read.proofs.met.Seen.is_symbol.Goals as goal

pub returns-in-Some-Symbol : goal.returns-in-Some-Symbol
returns-in-Some-Symbol c =
    let nodes = c.deref.result.now in
    let found = rw c.in-Some-Symbol.is at c.get.ensures.lookup in
    let there = slice_get_read nodes (length nodes) c.args.k c.in-Some-Symbol.field-0.now refl (ltb-true _ _ (sym found.0)) found.1 in
    search rules

pub returns-in_default : goal.returns-in_default
returns-in_default c =
    let nodes = c.deref.result.now in
    let found = rw c.in_default.is at c.get.ensures.lookup in
    let there = slice_get_read nodes (length nodes) c.args.k c.in_default.field-0.now refl (ltb-true _ _ (sym found.0)) found.1 in
    search rules
