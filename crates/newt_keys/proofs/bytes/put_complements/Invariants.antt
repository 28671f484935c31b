-- what is written and what is left are the whole
use Rattle.std.proofs.Common.{◌≡◌, ◌++◌, map, drop}
use Rattle.newt_spec_store.specs.declared.Order.TheVariants as order
use Rattle.newt_keys.specs.KeyForm as form
use Rattle.newt_keys.proofs.bytes.put_complements.Given as goal

abbrev pub invariant-loop-byte : goal.invariant-loop-byte
invariant-loop-byte l = l.bytes.items ++ map (form.turned order.Descend) (drop l.byte-index l.given) ≡ l.fn.bytes.items ++ map (form.turned order.Descend) l.given
