use Rattle.std.proofs.Common.{◌≡◌, take}
use Rattle.newt_engine_commands.proofs.declarations.copied_symbols.Given as goal

abbrev pub invariant-loop-symbol : goal.invariant-loop-symbol
invariant-loop-symbol l = l.copies.items ≡ take l.symbol-index l.symbols
