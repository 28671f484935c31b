-- The gates of a bank, as they are read one after the other. This project's own.
use Rattle.std.specs.Prelude.{ℕ, Bool, List, Option}
use Rattle.newt_journal.specs.Bank.{limit_of}
use Rattle.newt_journal.specs.Places.{first_place}
use Rattle.newt_journal.specs.Scan.{between}
use Rattle.newt_journal.specs.declared.journal.Journal.{Journal}
use Rattle.newt_spec_check.specs.Damage.{gates_after, first_gate, is_unformed}

-- the first gate whose bytes after it pass a test, of those from a place on
abbrev pub first_from : (List ℕ → Bool) → ℕ → ℕ → List ℕ → Option ℕ
first_from test at limit image = first_gate test (gates_after at 0 (between at limit image))

-- the gate of the first record of a journal whose payload has not its form
abbrev pub unformed_in : Journal → List ℕ → Option ℕ
unformed_in j = first_from is_unformed (first_place j) (limit_of j.blocks j.bank)
