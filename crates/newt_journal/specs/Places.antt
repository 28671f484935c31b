-- The places of records in a bank.
use Rattle.std.specs.Prelude.{IsTrue, ◌≡◌, ℕ, ◌+◌, ◌-◌, ◌≤◌, Bool, List, [], ◌++◌, length, take, drop, Option, Some, IfSome, MatchOption}
use Rattle.newt_spec_image.specs.Records.{records, payloads_after, with_first}
use Rattle.newt_journal.specs.Bank.{start_of, limit_of}
use Rattle.newt_journal.specs.Scan.{between}
use Rattle.newt_journal.specs.Journal.{records_bytes}
use Rattle.newt_journal.specs.declared.journal.Journal.{Journal}
use Rattle.newt_journal.specs.declared.reading.Found.{Found}

-- the place of the first record, or of the end where there is none
abbrev pub first_place : Journal → ℕ
first_place j = start_of j.blocks j.bank + 16

-- the payloads of the records from a place on
abbrev pub payloads_from : Journal → ℕ → List ℕ → Option (List (List ℕ))
payloads_from j at image = payloads_after 0 (between at (limit_of j.blocks j.bank) image)

-- so many bytes from a place on, where these are the payloads of the records
abbrev pub recorded : Journal → List (List ℕ) → ℕ → ℕ → List ℕ
recorded j payloads at n = take n (drop (at - first_place j) (records_bytes payloads))

-- some of the records stand before this place, and the others from it on
pub record IsPlace (j : Journal) (at : ℕ) (image : List ℕ) : Type 0 where
  pub passed : List (List ℕ)
  pub others : List (List ℕ)
  pub all : records image ≡ Some (passed ++ others)
  pub place : at ≡ first_place j + length (records_bytes passed)

-- What is found at a place of the records: the record that begins there, after which the others
-- stand, or none at their end.
pub record Finds (told : Bool) (j : Journal) (at : ℕ) (image : List ℕ) (found : Option Found)
    : Type 0 where
  pub told_of : IsTrue told → MatchOption found (payloads_from j at image ≡ Some [])
      (λ record_is. payloads_from j at image
      ≡ with_first (take record_is.len (drop record_is.at image))
      (payloads_from j record_is.next image))
  pub next : IsTrue told → IfSome found (λ record_is. IsPlace j record_is.next image)
  pub end : IsTrue told → MatchOption found (at ≡ j.end) (λ record_is. at + 5 ≤ j.end)
  pub inside : IfSome found (λ record_is. (record_is.at ≡ at + 5)
      × (record_is.next ≡ record_is.at + record_is.len) × (record_is.next ≤ j.end))
