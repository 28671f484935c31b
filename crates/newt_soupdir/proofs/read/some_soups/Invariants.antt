use Rattle.std.proofs.Common.{◌≡◌, ◌-◌}
use Rattle.newt_spec_store.specs.Reading.{times}
use Rattle.newt_soupdir.specs.Reading.{soup_at}
use Rattle.newt_soupdir.proofs.Loop.{with_front}
use Rattle.newt_soupdir.proofs.read.some_soups.Given as goal

abbrev pub invariant-loop : goal.invariant-loop
invariant-loop l = with_front l.soups.items (times (l.count - l.counter) soup_at l.rest) ≡ times l.count soup_at l.bytes
