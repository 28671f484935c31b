-- what is written and what is left are the whole
use Rattle.std.proofs.Common.{◌≡◌, ◌++◌, map, drop}
use Rattle.newt_keys.specs.KeyForm as form
use Rattle.newt_keys.proofs.bytes.put_marked.Given as goal

abbrev pub invariant-loop-byte : goal.invariant-loop-byte
invariant-loop-byte l =
    l.bytes.items ++ map (form.turned l.order) (form.text_bytes (drop l.byte-index l.text)) ≡ l.fn.bytes.items ++ map (form.turned l.order) (form.text_bytes l.text)
