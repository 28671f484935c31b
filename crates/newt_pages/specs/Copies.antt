-- Pages that are copied into a record that is written.
use Rattle.std.specs.Prelude.{IsTrue, ◌≡◌, ℕ, zero, suc, ◌+◌, ◌*◌, ◌≤◌, Bool, List, [], ◌∷◌, ◌++◌, length, nat_eq, Option, Some, None}
use Rattle.std.specs.List.{flat_map}
use Rattle.std.specs.Map.{lookup}
use Rattle.newt_host.specs.Moments.{image}
use Rattle.newt_host.specs.Outside.{Outside, Work}
use Rattle.newt_spec_image.specs.Records.{records}
use Rattle.newt_spec_image.specs.Pages.{Put, written_put, written_change}
use Rattle.newt_journal.specs.Places.{recorded}
use Rattle.newt_journal.specs.Draft.{IsDraftOf, journal_of, unit_of, put_of}
use Rattle.newt_journal.specs.declared.draft.Draft.{Draft}
use Rattle.newt_pagelog.specs.Kept.{Entries, all_of}
use Rattle.newt_pagelog.specs.Placed.{Places, ArePlaced, lifted, page_of}
use Rattle.newt_pagelog.specs.Steps.{IsSteady, WritesMore}

-- the place of one number, if it has one, and those of all numbers below another, in order
abbrev pub place_at : ℕ → Option ℕ → Places
place_at number None = []
place_at number (Some at) = (number, at) ∷ []

unfoldable pub below : ℕ → Places → Places
below zero places = []
below (suc n) places = below n places ++ place_at n (lookup (nat_eq n) places)

-- All page numbers that have a place are below the bound.
pub record IsBound (bound : ℕ) (places : Places) : Type 0 where
  pub small : bound ≤ 65536
  pub all : length (below bound places) ≡ length (below 65536 places)

-- what is done to copy so many pages
abbrev pub copying : ℕ → Work
copying pages =
    record { programs = 516 * pages; fetches = 512 * pages; erases = 0; syncs = 0 }

-- and what is done at most to write a payload of so many pages
abbrev pub writing_all : ℕ → Work
writing_all pages =
    record { programs = 4 + 516 * pages; fetches = 512 * pages; erases = 0; syncs = 0 }

-- A draft stands for its unit, and a crash now leaves the records as they read.
pub record IsSteadyDraft (told : Bool) (draft : Draft) (outside : Outside) : Type 0 where
  pub stands : IsDraftOf told draft outside
  pub steady : IsTrue told → IsSteady (unit_of draft) outside.now

-- Pages may be copied into it from these places, which lie within the records.
pub record IsCopying (told : Bool) (draft : Draft) (places : Places) (outside : Outside)
    : Type 0 where
  pub draft_of : IsSteadyDraft told draft outside
  pub placed : ArePlaced (journal_of draft) places

-- A page was written after what was written before: that at a place of the records.
pub record CopiesPage (told : Bool) (unit number at : ℕ) (before after : Draft) (old new : Outside) : Type 0 where
  pub page : List ℕ
  pub size : length page ≡ 512
  pub shows : IsTrue told → (payloads : List (List ℕ)) → records (image unit old.now) ≡ Some payloads → page ≡ recorded (journal_of before) payloads at 512
  pub writes : WritesMore told unit (written_put (number, page)) before after old new

-- And so were the pages at these places.
pub record CopiesAll (told : Bool) (unit : ℕ) (places : Places) (before after : Draft) (old new : Outside) : Type 0 where
  pub pages : Entries
  pub count : length pages ≡ length places
  pub shows : IsTrue told → (payloads : List (List ℕ)) → records (image unit old.now) ≡ Some payloads → pages ≡ lifted (page_of (journal_of before) payloads) places
  pub put : put_of after ≡ put_of before + 516 * length places
  pub writes : WritesMore told unit (flat_map written_put pages) before after old new

-- A whole payload was written: the pages at these places, and puts after them.
pub record CopiesWhole (told : Bool) (unit : ℕ) (places : Places) (puts : List Put) (before after : Draft) (old new : Outside) : Type 0 where
  pub pages : Entries
  pub shows : IsTrue told → (payloads : List (List ℕ)) → records (image unit old.now) ≡ Some payloads → pages ≡ lifted (page_of (journal_of before) payloads) places
  pub put : put_of after ≡ put_of before + (4 + 516 * (length places + length puts))
  pub writes : WritesMore told unit (written_change (all_of (pages ++ puts))) before after old new
