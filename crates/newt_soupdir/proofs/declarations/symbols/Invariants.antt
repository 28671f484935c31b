use Rattle.std.proofs.Common.{◌≡◌, ◌-◌}
use Rattle.newt_spec_store.specs.Reading.{times}
use Rattle.newt_soupdir.specs.Reading.{symbol_at}
use Rattle.newt_soupdir.proofs.Loop.{with_front}
use Rattle.newt_soupdir.proofs.declarations.symbols.Given as goal

abbrev pub invariant-loop : goal.invariant-loop
invariant-loop l = with_front l.symbols.items (times (l.count - l.counter) symbol_at l.rest) ≡ times l.count symbol_at l.bytes
