-- What the draft of a switch stands for.
use Rattle.std.specs.Prelude.{IsTrue, Bool, ◌≡◌, ℕ, ◌+◌, ◌-◌, List, ◌++◌, length, take, drop}
use Rattle.newt_host.specs.Moments.{Change, Moment, changes}
use Rattle.newt_host.specs.Outside.{Outside, HasBlocks}
use Rattle.newt_spec_image.specs.Records.{bank_size, Ends, AllVoteFor}
use Rattle.newt_journal.specs.Bank.{bank_number, other_bank, start_of}
use Rattle.newt_journal.specs.Fresh.{lead, FilledBy}
use Rattle.newt_journal.specs.Journal.{Holds, written}
use Rattle.newt_journal.specs.declared.switching.Switching.{Switching}

-- where its bank begins
abbrev pub switch_start : Switching → ℕ
switch_start s = start_of s.journal.blocks (other_bank s.journal.bank)

-- what has been put so far
abbrev pub switched : Switching → List ℕ → List ℕ
switched s image = take s.put (drop (switch_start s + 21) image)

-- The votes choose the bank of the journal, all alike, and the other one has a header of version 2, an open gate, a length and what has been put.
pub record SwitchedBy (s : Switching) (done : List Change) : Type 0 where
  pub base : List ℕ
  pub payloads : List (List ℕ)
  pub after_records : List ℕ
  pub so_far : List ℕ
  pub bank : Holds s.journal.blocks (bank_number s.journal.bank) (written s.journal.version payloads ++ after_records) base
  pub ends : Ends after_records
  pub end : s.journal.end ≡ start_of s.journal.blocks s.journal.bank + length (written s.journal.version payloads)
  pub alike : AllVoteFor (bank_number s.journal.bank) base
  pub filled : FilledBy (switch_start s) (bank_size s.journal.blocks) base (lead s.len ++ so_far) (bank_size s.journal.blocks - 21 - s.put) done
  pub put : length so_far ≡ s.put

abbrev pub IsSwitching : Switching → Moment → Type 0
IsSwitching s now = SwitchedBy s (changes s.journal.unit now)

pub record IsSwitchOf (told : Bool) (s : Switching) (outside : Outside) : Type 0 where
  pub has : HasBlocks s.journal.unit s.journal.blocks outside
  pub held : IsTrue told → IsSwitching s outside.now
