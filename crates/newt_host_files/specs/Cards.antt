-- What the units tell.
use Rattle.std.specs.Prelude.{◌≡◌, ℕ, ◌+◌, ◌-◌, ◌^◌, ◌≤◌, min, Bool, false, List, Option, Some, None, IsSome, option_map, Result, OnOk, OnErr, is_err}
use Rattle.newt_host.specs.Outside.{Work}
use Rattle.newt_host_files.specs.declared.card.Card.{Card}

-- the name of the file of a unit, where it has one
abbrev pub name_of : Option Card → Option (List ℕ)
name_of None = None
name_of (Some c) = option_map (λ file. c.name.items) c.file

-- the number of its whole blocks, 0 where there is no unit
abbrev pub blocks_of : Option Card → ℕ
blocks_of None = 0
blocks_of (Some c) = c.blocks

-- how many of its calls failed, 0 where there is no unit
abbrev pub faults_of : Option Card → ℕ
faults_of None = 0
faults_of (Some c) = c.faults

-- how many bytes it was to program, 0 where there is no unit
abbrev pub programmed_of : Option Card → ℕ
programmed_of None = 0
programmed_of (Some c) = c.programmed

-- how many bytes it was to fetch, 0 where there is no unit
abbrev pub fetched_of : Option Card → ℕ
fetched_of None = 0
fetched_of (Some c) = c.fetched

-- how many blocks it was to erase, 0 where there is no unit
abbrev pub erased_of : Option Card → ℕ
erased_of None = 0
erased_of (Some c) = c.erased

-- how often it was to be synced, 0 where there is no unit
abbrev pub synced_of : Option Card → ℕ
synced_of None = 0
synced_of (Some c) = c.synced

-- whether its last call failed
abbrev pub broken_of : Option Card → Bool
broken_of None = false
broken_of (Some c) = c.broken

-- A call on a unit leaves its file open. No count falls, and none rises by more than what was to be
-- done.
pub record CountsOnCard (work : Work) (old new : Card) : Type 0 where
  pub file : new.file ≡ old.file
  pub name : new.name.items ≡ old.name.items
  pub blocks : new.blocks ≡ old.blocks
  pub faults : old.faults ≤ new.faults
  pub programmed : old.programmed ≤ new.programmed
  pub programmed_most : new.programmed ≤ old.programmed + work.programs
  pub fetched : old.fetched ≤ new.fetched
  pub fetched_most : new.fetched ≤ old.fetched + work.fetches
  pub erased : old.erased ≤ new.erased
  pub erased_most : new.erased ≤ old.erased + work.erases
  pub synced : old.synced ≤ new.synced
  pub synced_most : new.synced ≤ old.synced + work.syncs

-- With an error one fault more is counted, and with an answer none; and whether it failed is kept.
pub record CardStops {T E : Type 0} (result : Result T E) (old new : Card) : Type 0 where
  pub later : old.faults ≤ new.faults
  pub cause : OnErr result (new.faults ≡ min (old.faults + 1) (2 ^ 64 - 1))
  pub no_fault : OnOk result (new.faults ≡ old.faults)
  pub broken : new.broken ≡ is_err result

-- the unit has an open file, which has this name
pub record HasFile (named : List ℕ) (card : Card) : Type 0 where
  pub file : IsSome card.file
  pub name : card.name.items ≡ named

-- the counts are as they were, and whether the last call failed
pub record SameCard (old new : Card) : Type 0 where
  pub faults : new.faults ≡ old.faults
  pub programmed : new.programmed ≡ old.programmed
  pub fetched : new.fetched ≡ old.fetched
  pub erased : new.erased ≡ old.erased
  pub synced : new.synced ≡ old.synced
  pub broken : new.broken ≡ old.broken
