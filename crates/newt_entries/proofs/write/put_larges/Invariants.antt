use Rattle.std.proofs.Common.{◌≡◌, ◌++◌, take}
use Rattle.std.specs.List.{flat_map}
use Rattle.newt_entries.specs.Entry.{large_bytes}
use Rattle.newt_entries.proofs.write.put_larges.Given as goal

abbrev pub invariant-loop-large : goal.invariant-loop-large
invariant-loop-large l = l.out.items ≡ l.fn.out.items ++ flat_map large_bytes (take l.large-index l.larges)
