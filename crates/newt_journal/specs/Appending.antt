-- What the draft of a record after the others stands for.
use Rattle.std.specs.Prelude.{IsTrue, Bool, ◌≡◌, ℕ, ◌+◌, ◌-◌, List, [], ◌∷◌, ◌++◌, length, take, drop, replicate}
use Rattle.newt_host.specs.Moments.{Change, Moment, changes, bytes_after, LeftBy, SameOutside}
use Rattle.newt_host.specs.Outside.{Outside, HasBlocks}
use Rattle.newt_spec_image.specs.Records.{length_bytes}
use Rattle.newt_journal.specs.Bank.{bank_number, start_of}
use Rattle.newt_journal.specs.Journal.{Holds, written}
use Rattle.newt_journal.specs.declared.appending.Appending.{Appending}

-- what has been put so far
abbrev pub drafted : Appending → List ℕ → List ℕ
drafted d image = take d.put (drop (d.journal.end + 5) image)

-- The bank has version 2. After a gate that is FF stand the length, what has been put, and blank bytes. A crash spoils nothing but the length and the payload.
pub record DraftedBy (d : Appending) (done : List Change) : Type 0 where
  pub payloads : List (List ℕ)
  pub so_far : List ℕ
  pub more : ℕ
  pub bank : Holds d.journal.blocks (bank_number d.journal.bank)
      ((written 2 payloads ++ 255 ∷ []) ++ (length_bytes d.len ++ so_far ++ replicate (d.len - d.put) 255) ++ replicate more 255) (bytes_after done)
  pub put : length so_far ≡ d.put
  pub end : d.journal.end ≡ start_of d.journal.blocks d.journal.bank + length (written 2 payloads)
  pub crash : (left : List ℕ) → LeftBy done left → SameOutside (d.journal.end + 1) (4 + d.len) (bytes_after done) left

abbrev pub IsDrafted : Appending → Moment → Type 0
IsDrafted d now = DraftedBy d (changes d.journal.unit now)

pub record IsAppendingOf (told : Bool) (d : Appending) (outside : Outside) : Type 0 where
  pub has : HasBlocks d.journal.unit d.journal.blocks outside
  pub held : IsTrue told → IsDrafted d outside.now
