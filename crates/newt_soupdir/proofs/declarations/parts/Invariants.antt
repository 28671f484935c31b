use Rattle.std.proofs.Common.{◌≡◌, ◌-◌}
use Rattle.newt_spec_store.specs.Reading.{times}
use Rattle.newt_soupdir.specs.Reading.{part_at}
use Rattle.newt_soupdir.proofs.Loop.{with_front}
use Rattle.newt_soupdir.proofs.declarations.parts.Given as goal

abbrev pub invariant-loop : goal.invariant-loop
invariant-loop l = with_front l.parts.items (times (l.count - l.counter) part_at l.rest) ≡ times l.count part_at l.bytes
