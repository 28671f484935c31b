-- Votes that are made equal to the bank that they choose.
use Rattle.std.specs.Prelude.{◌≡◌, ◌≢◌, ◌⊎◌, ℕ, ◌+◌, ◌-◌, ◌*◌, ◌==◌, if◌then◌else◌, List, Some}
use Rattle.newt_host.specs.Moments.{SameOutside}
use Rattle.newt_spec_image.specs.Records.{chosen_bank, vote_of}
use Rattle.newt_journal.specs.Journal.{reading}
use Rattle.newt_journal.specs.Turns.{IsSameBlock, InTurn}

-- one where a block does not vote for this bank, and how many of the three blocks do not
abbrev pub differs : ℕ → ℕ → List ℕ → ℕ
differs bank block image = if vote_of block image == bank then 0 else 1

abbrev pub differing : ℕ → List ℕ → ℕ
differing bank image = differs bank 0 image + differs bank 1 image + differs bank 2 image

-- Of the second and the third block, the one whose vote is mended first: one that votes for the
-- other bank.
abbrev pub mended_first : ℕ → List ℕ → ℕ
mended_first bank image = if vote_of 2 image == 1 - bank then 2 else 1

-- A block that votes for this bank already is left alone, and of another one only the block itself may change.
abbrev pub Settling : ℕ → ℕ → List ℕ → List ℕ → Type 0
Settling block bank image left = (left ≡ image) ⊎ ((vote_of block image ≢ bank) × SameOutside (block * 4096) 4096 image left)

-- The same bank is chosen, and everything after the votes is as it was. A block that votes for the
-- bank is left alone; the others are mended in turn, the first block last.
pub record Repairs (bank : ℕ) (image left : List ℕ) : Type 0 where
  pub bank_is : chosen_bank left ≡ Some bank
  pub right : (block : ℕ) → vote_of block image ≡ bank → IsSameBlock block image left
  pub in_turn : InTurn bank (mended_first bank image) (3 - mended_first bank image) 0 image left
  pub same : SameOutside 0 12288 image left

-- and so it reads as it did
pub record Mends (bank : ℕ) (image left : List ℕ) : Type 0 where
  pub repairs : Repairs bank image left
  pub same_reading : reading left ≡ reading image
