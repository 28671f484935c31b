use Rattle.std.proofs.Common.{◌≡◌, ◌-◌}
use Rattle.newt_spec_store.specs.Reading.{times}
use Rattle.newt_soupdir.specs.Reading.{spec_at}
use Rattle.newt_soupdir.proofs.Loop.{with_front}
use Rattle.newt_soupdir.proofs.declarations.some_specs.Given as goal

abbrev pub invariant-loop : goal.invariant-loop
invariant-loop l = with_front l.specs.items (times (l.count - l.counter) spec_at l.rest) ≡ times l.count spec_at l.bytes
