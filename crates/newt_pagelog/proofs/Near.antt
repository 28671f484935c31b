-- Places in a bank are small numbers.
use Rattle.std.proofs.Common.{ℕ, ◌+◌, ◌-◌, ◌*◌, ◌<◌, ◌≤◌, Bool, true, false, cond, arith}
use Rattle.newt_journal.specs.Journal.{room}
use Rattle.newt_journal.specs.Bank.{limit_of}
use Rattle.newt_journal.specs.declared.journal.Journal.{Journal}
use Rattle.newt_journal.specs.declared.bank.Bank.{Bank}
use Rattle.newt_journal.specs.declared.bank.Bank.TheVariants.{First, Second}

limit-near : (blocks : ℕ) (bank : Bank) → blocks ≤ 4099 → limit_of blocks bank ≤ 16789504
limit-near blocks First few = omega (arith, few)
limit-near blocks Second few = omega (arith, few)

pub end-near : (j : Journal) → j.end ≤ 16789504
end-near j = omega (arith, j.high, limit-near j.blocks j.bank j.not_too_many)

room-near : (j : Journal) → room j ≤ 16789504
room-near j = choose j.closed ((limit_of j.blocks j.bank - j.end) - 5) (omega (arith, limit-near j.blocks j.bank j.not_too_many)) where
  choose : (b : Bool) (m : ℕ) → m ≤ 16789504 → cond b 0 m ≤ 16789504
  choose true m low = omega arith
  choose false m low = low

-- a payload for which a bank has room has few puts
pub room-few : (j : Journal) (n : ℕ) → 4 + 516 * n ≤ room j → n < 65536
room-few j n fits = omega (arith, fits, room-near j)
