-- What a call does that writes more of a record.
use Rattle.std.specs.Prelude.{IsTrue, ◌≡◌, ℕ, ◌+◌, Bool, List, [], ◌++◌, length, Result, Ok}
use Rattle.newt_host.specs.Moments.{Moment, MayLeave, image}
use Rattle.newt_host.specs.Outside.{Outside, Work}
use Rattle.newt_spec_image.specs.Records.{bank_blocks}
use Rattle.newt_journal.specs.Calls.{Programs, writing}
use Rattle.newt_journal.specs.Journal.{reading, ReadsAs}
use Rattle.newt_journal.specs.Draft.{IsBegun, IsDraftOf, journal_of, unit_of, len_of, put_of, is_switch, payload_of, rest_of}
use Rattle.newt_journal.specs.declared.draft.Draft.{Draft}
use Rattle.newt_journal.specs.declared.journal.Journal.{Journal}

-- a crash now leaves the unit as it reads (this project's own)
abbrev pub IsSteady : ℕ → Moment → Type 0
IsSteady unit now = (left : List ℕ) → MayLeave unit now left → ReadsAs (reading (image unit now)) left

-- what calls answered so far that all went well (this project's own)
abbrev pub done : Result (Unit {0}) (Unit {0})
done = Ok tt

-- Whatever the answer, a crash leaves the unit reading as it did, at most so much is done to the
-- unit, nothing else is touched, and a fault is counted and told (this project's own).
abbrev pub Stays : {T E : Type 0} → Bool → ℕ → Work → Result T E → Outside → Outside → Type 0
Stays told unit work result old new =
    Programs told unit work (ReadsAs (reading (image unit old.now))) result old new

-- The same of a call that programs so many bytes and does nothing else (this project's own).
abbrev pub Keeps : {T E : Type 0} → Bool → ℕ → ℕ → Result T E → Outside → Outside → Type 0
Keeps told unit size result old new = Stays told unit (writing size 0 0) result old new

-- what is done once a record is begun that will stand alone: the votes are mended, the other bank
-- is erased, and its header and the length are written (this project's own)
abbrev pub begin_work : ℕ → Work
begin_work blocks =
    record { programs = 24; fetches = 4; erases = 3 + bank_blocks blocks; syncs = 7 }

-- A record of so many bytes was begun, and a crash leaves the unit reading as it does (this
-- project's own).
pub record Begins (told : Bool) (journal : Journal) (len : ℕ) (alone : Bool) (draft : Draft)
    (old new : Outside) : Type 0 where
  pub begun : IsBegun told journal len alone draft old new
  pub steady : IsTrue told → IsSteady (unit_of draft) new.now

-- These bytes were written after what was written before (this project's own).
pub record WritesMore (told : Bool) (unit : ℕ) (bytes : List ℕ) (before after : Draft) (old new : Outside) : Type 0 where
  pub draft : IsDraftOf told after new
  pub put : put_of after ≡ put_of before + length bytes
  pub on : unit_of after ≡ unit
  pub holds : journal_of after ≡ journal_of before
  pub len : len_of after ≡ len_of before
  pub kind : is_switch after ≡ is_switch before
  pub rest : rest_of after ≡ rest_of before
  pub more : IsTrue told → payload_of after (image unit new.now) ≡ payload_of before (image unit old.now) ++ bytes
  pub same : IsTrue told → reading (image unit new.now) ≡ reading (image unit old.now)
  pub steady : IsTrue told → IsSteady unit new.now

-- The same of so many bytes (this project's own).
pub record WritesSized (told : Bool) (unit size : ℕ) (bytes : List ℕ) (before after : Draft)
    (old new : Outside) : Type 0 where
  pub writes : WritesMore told unit bytes before after old new
  pub put : put_of after ≡ put_of before + size
