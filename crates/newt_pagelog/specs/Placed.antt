-- Where the pages of a book stand in its journal.
use Rattle.std.specs.Prelude.{◌≡◌, ℕ, ◌+◌, ◌*◌, ◌<◌, ◌≤◌, Bool, true, false, List, [], length, map as map_list, take, drop, nat_eq, Some, Result, IsErrOf}
use Rattle.std.specs.Map.{lookup, keys_of}
use Rattle.std.specs.List.{IsDistinct}
use Rattle.std.specs.FinMap as map
use Rattle.std.specs.HashMap.{HashMap}
use Rattle.std.specs.HashMap as hash
use Rattle.std.specs.declared.hash.FoldHasher.{FoldHasher}
use Rattle.std.specs.declared.hash.BuildHasherDefault.{BuildHasherDefault}
use Rattle.newt_host.specs.Moments.{image}
use Rattle.newt_host.specs.Outside.{Outside, Broke, OnlyReads}
use Rattle.newt_spec_image.specs.Records.{records}
use Rattle.newt_spec_image.specs.Pages.{Change, pages, puts_from, after, change_in}
use Rattle.newt_journal.specs.Journal.{Stands}
use Rattle.newt_journal.specs.Places.{first_place, recorded}
use Rattle.newt_journal.specs.declared.journal.Journal.{Journal}
use Rattle.newt_journal.specs.declared.reading.Found.{Found}
use Rattle.newt_pagebook.specs.Batch.{IsBatch}
use Rattle.newt_pagebook.specs.Stops.{BlamesNone}
use Rattle.newt_pagebook.specs.declared.book.BookFault.{BookFault}
use Rattle.newt_pagebook.specs.declared.book.BookFault.TheVariants.{NotStore, Device}
use Rattle.newt_pagelog.specs.Kept.{Entries, page_in, map_of, is_kept}
use Rattle.newt_pagelog.specs.Replay.{IsSeen}

abbrev pub Places : Type 0
Places = List (ℕ × ℕ)

-- the same numbers, with what stands at their places
abbrev pub lifted : (ℕ → List ℕ) → Places → Entries
lifted page places = map_list (λ (e : ℕ × ℕ). (e.0, page e.1)) places

-- the page at a place of an image, and of the payloads of a journal
abbrev pub page_from : List ℕ → ℕ → List ℕ
page_from image at = take 512 (drop at image)

abbrev pub page_of : Journal → List (List ℕ) → ℕ → List ℕ
page_of j payloads at = recorded j payloads at 512

-- the payload of a record that was found on a unit
abbrev pub payload_found : Found → ℕ → Outside → List ℕ
payload_found found unit outside = take found.len (drop found.at (image unit outside.now))

-- the change of the first so many puts of a payload
abbrev pub puts_found : ℕ → List ℕ → Change
puts_found puts payload = record { puts = puts_from puts (drop 4 payload); deletes = [] }

-- each number stands once, they are fewer than there are page numbers, and they are page numbers
pub record AreNumbered {V : Type 0} (entries : List (ℕ × V)) : Type 0 where
  pub unique : IsDistinct nat_eq (keys_of entries)
  pub few : length entries < 65536
  pub small : (number : ℕ) → is_kept entries number ≡ true → number < 65536

-- each place is that of a page number, and a page there lies within the records
pub record IsPlaced (j : Journal) (number at : ℕ) : Type 0 where
  pub small : number < 65536
  pub low : first_place j ≤ at
  pub high : at + 512 ≤ j.end

abbrev pub ArePlaced : Journal → Places → Type 0
ArePlaced j places = (number at : ℕ) → lookup (nat_eq number) places ≡ Some at → IsPlaced j number at

-- A table that is filled while records are replayed: each number stands once, and each place lies
-- within the records.
pub record IsFilling (j : Journal) (places : HashMap ℕ ℕ (BuildHasherDefault FoldHasher))
    : Type 0 where
  pub unique : hash.IsUnique nat_eq places
  pub placed : ArePlaced j places.entries

-- A record that was found stands within the records of a journal, and has so many bytes at least.
pub record LiesWithin (j : Journal) (found : Found) (size : ℕ) : Type 0 where
  pub low : first_place j ≤ found.at
  pub inside : size ≤ found.len
  pub high : found.at + found.len ≤ j.end

-- A record that was found is taken over into a table: it lies within a journal that stands for its
-- unit, has so many bytes at least, and the table is one that is filled.
pub record IsReplaying (told : Bool) (j : Journal) (found : Found) (size : ℕ)
    (places : HashMap ℕ ℕ (BuildHasherDefault FoldHasher)) (outside : Outside) : Type 0 where
  pub within : LiesWithin j found size
  pub stands : Stands told j outside
  pub table : IsFilling j places

-- The table is still one that is filled, and has no more places than so many bytes of puts add.
pub record IsFilledBy (j : Journal) (bytes : ℕ)
    (before after : HashMap ℕ ℕ (BuildHasherDefault FoldHasher)) : Type 0 where
  pub table : IsFilling j after
  pub len : 516 * length after.entries ≤ 516 * length before.entries + bytes

-- an answer that says one thing where it is true, and another where it is false
pub record Tells (good : Bool) (yes no : Type 0) : Type 0 where
  pub true_says : good ≡ true → yes
  pub false_says : good ≡ false → no

-- the pages of an image are those at these places of its records
pub record HoldsAt (j : Journal) (image : List ℕ) (places : Places) : Type 0 where
  pub payloads : List (List ℕ)
  pub read : records image ≡ Some payloads
  pub holds : pages image ≡ Some (map_of (lifted (page_of j payloads) places))

-- A call that reads a journal for a book: nothing has happened but reads of this unit. Where it
-- names the device, it broke, and else no fault was counted (this project's own).
pub record ReadsBook {T : Type 0} (unit : ℕ) (result : Result T BookFault) (old new : Outside)
    : Type 0 where
  pub looks : OnlyReads unit old new
  pub cause : IsErrOf result Device → Broke unit old new
  pub no_fault : BlamesNone result → new.dev_faults unit ≡ old.dev_faults unit

-- A call that reads a part of it, and may want memory: the same, and it never answers that the
-- unit is no store (this project's own).
pub record ReadsUnit {T : Type 0} (unit : ℕ) (result : Result T BookFault) (old new : Outside)
    : Type 0 where
  pub looks : OnlyReads unit old new
  pub no_other : IsErrOf result NotStore → ⊥
  pub cause : IsErrOf result Device → Broke unit old new
  pub no_fault : BlamesNone result → new.dev_faults unit ≡ old.dev_faults unit

-- the places after a change are those of the pages after it, and these numbers were seen
pub record Replayed (image : List ℕ) (change : Change) (old new : Places) (seen : ℕ → Bool) : Type 0 where
  pub batch : IsBatch change
  pub marks : IsSeen seen change
  pub pages : (q : ℕ) → page_in (lifted (page_from image) new) q ≡ map.get (after change (map_of (lifted (page_from image) old))) q

-- the places after a record are those of the pages after the change that its payload says
pub record ReplaysRecord (image payload : List ℕ) (old new : Places) : Type 0 where
  pub change : Change
  pub says : change_in payload ≡ Some change
  pub pages : map_of (lifted (page_from image) new) ≡ after change (map_of (lifted (page_from image) old))
