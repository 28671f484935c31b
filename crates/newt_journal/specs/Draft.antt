-- What the draft of a record stands for, after the others or alone in the other bank.
use Rattle.std.specs.Prelude.{IsTrue, ◌≡◌, ℕ, Bool, true, false, ◌+◌, ◌-◌, List, [], ◌∷◌, ◌++◌, length, replicate, Option, Some}
use Rattle.newt_host.specs.Moments.{image}
use Rattle.newt_host.specs.Outside.{Outside, Work}
use Rattle.newt_spec_image.specs.Records.{bank_size, records, tail}
use Rattle.newt_journal.specs.Bank.{limit_of}
use Rattle.newt_journal.specs.Journal.{Reading, reading, Stands, VotesAgree, appended}
use Rattle.newt_journal.specs.Appending.{drafted, IsAppendingOf}
use Rattle.newt_journal.specs.Places.{first_place}
use Rattle.newt_journal.specs.Calls.{writing}
use Rattle.newt_journal.specs.Switch.{switch_start, switched, IsSwitchOf}
use Rattle.newt_journal.specs.declared.journal.Journal.{Journal}
use Rattle.newt_journal.specs.declared.draft.Draft.{Draft}
use Rattle.newt_journal.specs.declared.draft.Draft.TheVariants.{Append, Switch}

-- The draft stands for its unit of this host.
abbrev pub IsDraftOf : Bool → Draft → Outside → Type 0
IsDraftOf told (Append a) outside = IsAppendingOf told a outside
IsDraftOf told (Switch s) outside = IsSwitchOf told s outside

abbrev pub unit_of : Draft → ℕ
unit_of (Append a) = a.journal.unit
unit_of (Switch s) = s.journal.unit

-- the journal that it holds, whose records it leaves alone
abbrev pub journal_of : Draft → Journal
journal_of (Append a) = a.journal
journal_of (Switch s) = s.journal

-- the place of the payload, and that of the first record once it is finished
abbrev pub place_of : Draft → ℕ
place_of (Append a) = a.journal.end + 5
place_of (Switch s) = switch_start s + 21

abbrev pub front_of : Draft → ℕ
front_of (Append a) = first_place a.journal
front_of (Switch s) = switch_start s + 16

-- the length of the payload, and how much of it has been put
abbrev pub len_of : Draft → ℕ
len_of (Append a) = a.len
len_of (Switch s) = s.len

abbrev pub put_of : Draft → ℕ
put_of (Append a) = a.put
put_of (Switch s) = s.put

-- what has been put so far, in this image
abbrev pub payload_of : Draft → List ℕ → List ℕ
payload_of (Append a) image = drafted a image
payload_of (Switch s) image = switched s image

-- the record will be the only one, in the other bank
abbrev pub is_switch : Draft → Bool
is_switch (Append a) = false
is_switch (Switch s) = true

-- how many bytes will be left after the record
abbrev pub rest_of : Draft → ℕ
rest_of (Append a) = limit_of a.journal.blocks a.journal.bank - (a.journal.end + 5 + a.len)
rest_of (Switch s) = bank_size s.journal.blocks - (21 + s.len)

-- the payloads once it is finished: one more, or it alone
abbrev pub outcome : Bool → Option (List (List ℕ)) → List ℕ → Option (List (List ℕ))
outcome false before payload = appended before payload
outcome true before payload = Some (payload ∷ [])

-- what its unit reads as once it is finished: these, in version 2
abbrev pub outcome_of : Draft → Outside → Reading
outcome_of draft outside = (
  2,
  outcome (is_switch draft)
      (records (image (unit_of draft) outside.now)) (payload_of draft (image (unit_of draft) outside.now)),
)

-- what is done to commit it: the gate between two syncs, or a sync and the votes
abbrev pub commit_work : Bool → Work
commit_work false = writing 1 0 2
commit_work true = writing 3 3 7

-- A record of so many bytes was begun, after the others or alone in the other bank, of which
-- nothing is put yet; the unit reads as it did.
pub record IsBegun (told : Bool) (journal : Journal) (len : ℕ) (alone : Bool) (draft : Draft)
    (old new : Outside) : Type 0 where
  pub draft_of : IsDraftOf told draft new
  pub on : unit_of draft ≡ journal.unit
  pub holds : journal_of draft ≡ journal
  pub len_is : len_of draft ≡ len
  pub put : put_of draft ≡ 0
  pub kind : is_switch draft ≡ alone
  pub empty : (image : List ℕ) → payload_of draft image ≡ []
  pub same : IsTrue told → reading (image journal.unit new.now)
      ≡ reading (image journal.unit old.now)

-- Both are drafts of one record, of which more may have been put.
pub record IsSameRecord (before after : Draft) : Type 0 where
  pub on : unit_of after ≡ unit_of before
  pub holds : journal_of after ≡ journal_of before
  pub len : len_of after ≡ len_of before
  pub kind : is_switch after ≡ is_switch before
  pub rest : rest_of after ≡ rest_of before
  pub place : place_of after ≡ place_of before
  pub front : front_of after ≡ front_of before

-- These bytes were put after what was put before; the unit reads as it did.
pub record HasPut (told : Bool) (bytes : List ℕ) (before after : Draft) (old new : Outside)
    : Type 0 where
  pub draft_of : IsDraftOf told after new
  pub put : put_of after ≡ put_of before + length bytes
  pub more : IsTrue told → payload_of after (image (unit_of before) new.now)
      ≡ payload_of before (image (unit_of before) old.now) ++ bytes
  pub same : IsTrue told → reading (image (unit_of before) new.now)
      ≡ reading (image (unit_of before) old.now)

-- The record was committed: the journal stands for its unit, after whose last record all is blank.
-- All votes agree where the record is alone.
pub record IsFinished (told : Bool) (draft : Draft) (journal : Journal) (old new : Outside)
    : Type 0 where
  pub stands : Stands told journal new
  pub on : journal.unit ≡ unit_of draft
  pub not_closed : journal.closed ≡ false
  pub end : journal.end ≡ place_of draft + len_of draft
  pub first : first_place journal ≡ front_of draft
  pub committed : IsTrue told → reading (image (unit_of draft) new.now) ≡ outcome_of draft old
  pub rest : IsTrue told → tail (image (unit_of draft) new.now) ≡ replicate (rest_of draft) 255
  pub alike : IsTrue told → is_switch draft ≡ true
      → VotesAgree journal (image (unit_of draft) new.now)
