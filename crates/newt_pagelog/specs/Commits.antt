-- What a commit promises, of the records and of the pages. All of it is this project's own.
use Rattle.std.specs.Prelude.{IsTrue, ◌≡◌, ◌≤◌, ◌+◌, ◌*◌, max, Bool, ℕ, List, length, Option, Result, IfOk, OnOk}
use Rattle.std.specs.HashMap.{HashMap}
use Rattle.std.specs.HashMap as hash
use Rattle.std.specs.FinSet as set
use Rattle.std.specs.declared.hash.FoldHasher.{FoldHasher}
use Rattle.std.specs.declared.hash.BuildHasherDefault.{BuildHasherDefault}
use Rattle.newt_host.specs.Moments.{image}
use Rattle.newt_host.specs.Outside.{Outside, Spends, Wears, Work}
use Rattle.newt_spec_image.specs.Records.{bank_blocks, records}
use Rattle.newt_spec_image.specs.Pages.{Change, cap}
use Rattle.newt_journal.specs.Calls.{Programs, writing}
use Rattle.newt_journal.specs.Journal.{Stands, reading, ReadsAsEither}
use Rattle.newt_journal.specs.declared.journal.Journal.{Journal}
use Rattle.newt_pagebook.specs.Book.{IsOpenFor, IsBeforeOrAfter, ReadsChanged, batch_bytes, changed_numbers, switch_bytes}
use Rattle.newt_pagelog.specs.Kept.{numbers_in}

-- A table has room for the puts of a batch, after which no more pages are live than a unit of so many blocks takes.
pub record HasRoomFor {V : Type 0} (batch : Change) (blocks : ℕ) (pages : HashMap ℕ V (BuildHasherDefault FoldHasher)) : Type 0 where
  pub spare : length batch.puts ≤ hash.spare pages
  pub live : set.len (changed_numbers batch (numbers_in pages.entries)) ≤ cap blocks

-- The records of a journal become these others, in version 2, at one moment, before and after which
-- a crash leaves the old ones, in the version before, or these. The journal that is given back
-- stands for them on the same unit, with blank bytes after them.
pub record Rewrites {E : Type 0} (told : Bool) (journal : Journal) (work : Work)
    (after : Option (List (List ℕ))) (result : Result Journal E) (old new : Outside) : Type 0 where
  pub stands : IfOk result (λ next. Stands told next new × (next.unit ≡ journal.unit))
  pub committed : IsTrue told → OnOk result (records (image journal.unit new.now) ≡ after)
  pub open_after : IsTrue told → OnOk result (IsOpenFor 0 (image journal.unit new.now))
  pub writes : Programs told journal.unit work
      (ReadsAsEither (reading (image journal.unit old.now)) (2, after)) result old new

-- The same of the pages: those of the unit become those after a batch.
pub record Commits {E : Type 0} (told : Bool) (journal : Journal) (work : Work) (batch : Change)
    (result : Result Journal E) (old new : Outside) : Type 0 where
  pub stands : IfOk result (λ next. Stands told next new × (next.unit ≡ journal.unit))
  pub committed : IsTrue told → OnOk result
      (ReadsChanged batch (image journal.unit old.now) (image journal.unit new.now))
  pub open_after : IsTrue told → OnOk result (IsOpenFor 0 (image journal.unit new.now))
  pub writes : Programs told journal.unit work (IsBeforeOrAfter batch (image journal.unit old.now))
      result old new

-- what is done to append a batch
abbrev pub append_work : Change → Work
append_work batch = writing (batch_bytes batch) 0 2

-- what is done to put so many pages alone into the other bank, each of which is fetched at most
-- once
abbrev pub switch_work : ℕ → ℕ → Work
switch_work blocks live = record {
  programs = switch_bytes live;
  fetches = 4 + 512 * live;
  erases = bank_blocks blocks + 6;
  syncs = 14;
}

-- and what is done at most by a commit after which so many pages are live
abbrev pub commit_work : ℕ → Change → ℕ → Work
commit_work blocks batch live = record {
  programs = max (batch_bytes batch) (switch_bytes live);
  fetches = 4 + 512 * live;
  erases = bank_blocks blocks + 6;
  syncs = 14;
}

-- where a batch has room after the records, it is appended
pub record AppendsWhereOpen (told : Bool) (unit : ℕ) (batch : Change) (old new : Outside)
    : Type 0 where
  pub costs : IsTrue told → IsOpenFor (batch_bytes batch) (image unit old.now)
      → Spends unit (batch_bytes batch) 0 old new
  pub wears : IsTrue told → IsOpenFor (batch_bytes batch) (image unit old.now)
      → Wears unit 0 2 old new
